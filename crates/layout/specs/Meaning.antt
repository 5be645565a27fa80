-- What the program's types mean.
use Rattle.std.specs.Prelude.{List, map}
use Rattle.theory.specs.Table as theory
use Rattle.theory.specs.Table.{Table, line}
use Rattle.layout.specs.declared.axiom.Axiom.{Axiom}
use Rattle.layout.specs.declared.axiom.Axiom.TheVariants.{SubRole, SubInverse, Transitive, Conjunction, Nominal, Filler, AtMostOne, Exists, Range, HasValue, OpenConcept, OpenRole}
use Rattle.layout.specs.declared.line.Line.{Line}
use Rattle.layout.specs.declared.sizes.Sizes.{Sizes}

abbrev pub axiom_in : Axiom → theory.Axiom
axiom_in (SubRole p q) = theory.sub_role p.number q.number
axiom_in (SubInverse p q) = theory.sub_inverse p.number q.number
axiom_in (Transitive p) = theory.transitive p.number
axiom_in (Conjunction p q r s) = theory.conjunction p.number q.number r.number s.number
axiom_in (Nominal p q) = theory.nominal p.number q.number
axiom_in (Filler p q r) = theory.filler p.number q.number r.number
axiom_in (AtMostOne p q r) = theory.at_most_one p.number q.number r.number
axiom_in (Exists p q r) = theory.exists p.number q.number r.number
axiom_in (Range p q) = theory.range p.number q.number
axiom_in (HasValue p q r) = theory.has_value p.number q.number r.number
axiom_in (OpenConcept p) = theory.open_concept p.number
axiom_in (OpenRole p) = theory.open_role p.number

abbrev pub line_in : Line → theory.Line
line_in l = line l.form l.p l.q l.r l.s

-- the table of these sizes and axioms
abbrev pub table_of : Sizes → List Axiom → Table
table_of z l = record { concepts = z.concepts; roles = z.roles; individuals = z.individuals; axioms = map axiom_in l }
