-- What a policy of a table nests.
use Rattle.std.specs.Prelude.{ℕ, Bool, false, slice_index_or}
use Rattle.policy.specs.declared.shared.SafeShared.{SafeShared}

-- whether it nests the witnesses of axiom k
abbrev pub nested_by : SafeShared → ℕ → Bool
nested_by p k = slice_index_or p.nested k false
