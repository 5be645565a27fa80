-- The tables that are accepted: as a relation, and as a test that computes.
use Rattle.std.specs.Prelude.{◌≡◌, ℕ, ◌≤◌, Bool, true, not, ◌&&◌, List, [], ◌∷◌, length, nat_le, nat_lt, if◌then◌else◌}
use Rattle.theory.specs.Lists.{◌∈◌, any_of, all_of, count_of}
use Rattle.theory.specs.Table.{Axiom, Table, sub_role, sub_inverse, transitive, conjunction, nominal, filler, at_most_one, exists, range, has_value, open_concept, open_role, line_of, has_form, same_line}
use Rattle.theory.specs.Roles.{Simple, is_simple}

-- every argument of the axiom is declared
abbrev pub declares : Table → Axiom → Bool
declares t (sub_role p q) = nat_lt p t.roles && nat_lt q t.roles
declares t (sub_inverse p q) = nat_lt p t.roles && nat_lt q t.roles
declares t (transitive p) = nat_lt p t.roles
declares t (conjunction p q r s) = nat_lt p t.concepts && (nat_lt q t.concepts && (nat_lt r t.concepts && nat_lt s t.concepts))
declares t (nominal p q) = nat_lt p t.concepts && nat_lt q t.individuals
declares t (filler p q r) = nat_lt p t.roles && (nat_lt q t.concepts && nat_lt r t.concepts)
declares t (at_most_one p q r) = nat_lt p t.concepts && (nat_lt q t.roles && nat_lt r t.concepts)
declares t (exists p q r) = nat_lt p t.concepts && (nat_lt q t.roles && nat_lt r t.concepts)
declares t (range p q) = nat_lt p t.roles && nat_lt q t.concepts
declares t (has_value p q r) = nat_lt p t.concepts && (nat_lt q t.roles && nat_lt r t.individuals)
declares t (open_concept p) = nat_lt p t.concepts
declares t (open_role p) = nat_lt p t.roles

abbrev pub Declared : Table → Type 0
Declared t = (a : Axiom) → a ∈ t.axioms → declares t a ≡ true

-- no axiom stands twice
abbrev pub Apart : List Axiom → Type 0
Apart [] = Unit {0}
Apart (a ∷ l) = (a ∈ l → ⊥) × Apart l

pub record WellFormed (t : Table) : Type 0 where
  pub concepts : (2 ≤ t.concepts) × (t.concepts ≤ 32)
  pub roles : t.roles ≤ 7
  pub individuals : (1 ≤ t.individuals) × (t.individuals ≤ 16)
  pub few : length t.axioms ≤ 64
  pub declared : Declared t
  pub apart : Apart t.axioms
  pub witnesses : count_of (has_form 8) t.axioms ≤ 32
  pub simple : (p q r : ℕ) → at_most_one p q r ∈ t.axioms → Simple t q

-- The same by tests that compute.
abbrev pub sizes_fit : ℕ → ℕ → ℕ → ℕ → Bool
sizes_fit c r i n = (nat_le 2 c && nat_le c 32) && (nat_le r 7 && ((nat_le 1 i && nat_le i 16) && nat_le n 64))

abbrev pub apart : List Axiom → Bool
apart [] = true
apart (a ∷ l) = let rest = apart l in not (any_of (λ b. same_line (line_of a) (line_of b)) l) && rest

-- the role of a form 7 axiom is simple
abbrev pub counts_simple : Table → Axiom → Bool
counts_simple t a = if has_form 7 a then (is_simple t (line_of a).q) else true

abbrev pub well_formed : Table → Bool
well_formed t =
    sizes_fit t.concepts t.roles t.individuals (length t.axioms)
    && (all_of (declares t) t.axioms && (apart t.axioms && (nat_le (count_of (has_form 8) t.axioms) 32 && all_of (counts_simple t) t.axioms)))
