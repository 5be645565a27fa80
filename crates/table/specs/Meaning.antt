-- What role expressions mean, and what a table says.
use Rattle.theory.specs.Roles as theory
use Rattle.theory.specs.Table.{Table}
use Rattle.layout.specs.Meaning.{table_of}
use Rattle.table.specs.declared.expression.Expression.{Expression}
use Rattle.table.specs.declared.stated.Stated.{Stated}
use Rattle.table.specs.declared.expression.Expression.TheVariants.{Plain, Inverse}

abbrev pub expression_in : Expression → theory.Expression
expression_in (Plain p) = theory.plain p.number
expression_in (Inverse p) = theory.inverse p.number

-- the table that is said
abbrev pub table_in : Stated → Table
table_in s = table_of s.sizes s.axioms.now
