-- What a slice pattern and its words are.
use Rattle.std.proofs.Common.{◌≡◌, ℕ, ◌-◌, List, length, take, drop, arith, length-drop, take_all, w16, [], ◌∷◌}
use Rattle.std.specs.Int.{from_le_bytes}
use Rattle.layout.specs.Words.{word}

pub rest_all : {X : Type 0} (n : ℕ) (xs : List X) → take (length xs - n) (drop n xs) ≡ drop n xs
rest_all n xs = take_all (length xs - n) (drop n xs) (simp length-drop (omega arith))

-- a word by its two bytes
pub word_read : (low high : ℕ) → from_le_bytes w16 (low ∷ high ∷ []) ≡ word low high
word_read low high = omega arith
