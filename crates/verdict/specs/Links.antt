-- Facts that are edges.
use Rattle.std.specs.Prelude.{ℕ, Bool, false, ◌&&◌, ◌==◌}
use Rattle.names.specs.declared.Term.{Term}
use Rattle.ledger.specs.declared.fact.Fact.{Fact}
use Rattle.ledger.specs.declared.fact.Fact.TheVariants.{Is, Link}

-- whether the fact is E of the terms i and j
abbrev pub links : ℕ → ℕ → Fact Term → Bool
links i j (Is c t) = false
links i j (Link r x y) = 9 == r.number && (i == x.number && j == y.number)
