-- What a checked table means, and what checking answers.
use Rattle.std.specs.Prelude.{◌≡◌, ℕ, List, Ok, Err, Result}
use Rattle.theory.specs.Table.{Table}
use Rattle.layout.specs.declared.refusal.Refusal.{Refusal}
use Rattle.layout.specs.Checking.{checked, accepted, refused}
use Rattle.layout.specs.Meaning.{table_of}
use Rattle.table.specs.declared.checked.Checked.{Checked}

abbrev pub meaning : Checked → Table
meaning c = table_of c.sizes c.axioms.items

abbrev pub Answers : List ℕ → Result Checked Refusal → Type 0
Answers bs (Ok c) = checked bs ≡ accepted (meaning c)
Answers bs (Err f) = checked bs ≡ refused f
