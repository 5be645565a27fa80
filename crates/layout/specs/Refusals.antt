-- The refusals of a table, by number and place.
use Rattle.std.specs.Prelude.{ℕ, List, ◌++◌, codes, decimal}
use Rattle.layout.specs.declared.refusal.Refusal.{Refusal}
use Rattle.layout.specs.declared.refusal.Refusal.TheVariants.{TooShort, SizeOutOfLimits, WrongLength, UnknownForm, BadArgument, Repeated, TooManyWitnesses, NotSimple}
use Rattle.layout.specs.declared.sizes.Size.{Size}
use Rattle.layout.specs.declared.sizes.Size.TheVariants.{Concepts, Roles, Individuals, Axioms}

-- the word that has a size
abbrev pub word_of : Size → ℕ
word_of Concepts = 0
word_of Roles = 1
word_of Individuals = 2
word_of Axioms = 3

abbrev pub number_of : Refusal → ℕ
number_of TooShort = 1
number_of (SizeOutOfLimits z) = 2
number_of WrongLength = 3
number_of (UnknownForm k) = 4
number_of (BadArgument k) = 5
number_of (Repeated k) = 6
number_of (TooManyWitnesses k) = 7
number_of (NotSimple k) = 8

abbrev pub place_of : Refusal → ℕ
place_of TooShort = 0
place_of (SizeOutOfLimits z) = word_of z
place_of WrongLength = 0
place_of (UnknownForm k) = k
place_of (BadArgument k) = k
place_of (Repeated k) = k
place_of (TooManyWitnesses k) = k
place_of (NotSimple k) = k

-- refused N at P
abbrev pub refused_at : ℕ → ℕ → List ℕ
refused_at n p = codes "refused " ++ (decimal n ++ (codes " at " ++ decimal p))

-- the number of a refusal, and where it applies
abbrev pub refusal_text : Refusal → List ℕ
refusal_text f = refused_at (number_of f) (place_of f)
