-- What becomes of visits while the edges from a node are gone through.
use Rattle.std.proofs.Common.{◌≡◌, ℕ, ◌<◌, ◌≤◌, Bool, true, false, List, length}
use Rattle.graph.specs.declared.reach.Visit.{Visit}
use Rattle.graph.specs.declared.reach.Visit.TheVariants.{Unseen, Seen, Followed}
use Rattle.graph.specs.Visits.{visit_at}

-- the visit of a node, where an edge leads to it or none does
abbrev pub shown : Bool → Visit → Visit
shown true Unseen = Seen
shown true Seen = Seen
shown true Followed = Followed
shown false v = v

-- so many nodes are gone through
pub record Shown (edge : ℕ → Bool) (n : ℕ) (old new : List Visit) : Type 0 where
  pub long : length new ≡ 48
  pub done : (k : ℕ) → k < n → visit_at new k ≡ shown (edge k) (visit_at old k)
  pub rest : (k : ℕ) → n ≤ k → visit_at new k ≡ visit_at old k
