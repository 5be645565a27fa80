-- The names by which readers know concepts, roles and individuals.
use Rattle.std.specs.Prelude.{ℕ, List, ◌++◌, codes, decimal, ◌==◌, if◌then◌else◌}

abbrev pub concept_text : ℕ → List ℕ
concept_text c = if c == 0 then codes "Top" else (if c == 1 then codes "Bottom" else (codes "C" ++ decimal c))

abbrev pub role_text : ℕ → List ℕ
role_text r = codes "R" ++ decimal r

abbrev pub individual_text : ℕ → List ℕ
individual_text i = codes "I" ++ decimal i
