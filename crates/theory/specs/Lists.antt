-- Words on lists. The library has its own for most, and these stay: the contracts and definitions of every crate above are stated in them.
use Rattle.std.specs.Prelude.{ℕ, zero, suc, Bool, true, false, ◌&&◌, ◌||◌, List, [], ◌∷◌, ◌++◌, if◌then◌else◌}
use mathlib.Core.List.{Memᴰ}

-- a is on the list
abbrev pub ◌∈◌ : {A : Type 0} → A → List A → Type 0
a ∈ l = Memᴰ a l

infix 40 ◌∈◌
-- some element passes
abbrev pub any_of : {A : Type 0} → (A → Bool) → List A → Bool
any_of p [] = false
any_of p (a ∷ l) = let rest = any_of p l in p a || rest

-- every element passes
abbrev pub all_of : {A : Type 0} → (A → Bool) → List A → Bool
all_of p [] = true
all_of p (a ∷ l) = let rest = all_of p l in p a && rest

-- how many elements pass
abbrev pub count_of : {A : Type 0} → (A → Bool) → List A → ℕ
count_of p [] = 0
count_of p (a ∷ l) = let rest = count_of p l in if p a then suc rest else rest

-- from, from + 1, ..: n numbers
abbrev pub up_from : ℕ → ℕ → List ℕ
up_from from zero = []
up_from from (suc n) = from ∷ up_from (suc from) n

-- the lists that f makes of the elements, one after another
abbrev pub each : {A B : Type 0} → (A → List B) → List A → List B
each f [] = []
each f (a ∷ l) = f a ++ each f l
