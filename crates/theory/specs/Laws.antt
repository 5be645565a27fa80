-- The tests that compute tell the truth.
use Rattle.std.specs.Prelude.{ℕ, ◌<◌, IsTrue, ◌↔◌}
use Rattle.theory.specs.Table.{Table}
use Rattle.theory.specs.Roles.{Expression, name_of, Included, Simple, Unsafe, included, is_simple, is_unsafe}
use Rattle.theory.specs.WellFormed.{Declared, WellFormed, well_formed}

pub record TestsAreTrue : Type 0 where
  pub includes : (t : Table) → Declared t → (e f : Expression) → name_of e < t.roles → name_of f < t.roles → IsTrue (included t e f) ↔ Included t e f
  pub simple : (t : Table) → Declared t → (s : ℕ) → s < t.roles → IsTrue (is_simple t s) ↔ Simple t s
  pub unsafe : (t : Table) → Declared t → (k : ℕ) → IsTrue (is_unsafe t k) ↔ Unsafe t k
  pub well_formed_decides : (t : Table) → IsTrue (well_formed t) ↔ WellFormed t
