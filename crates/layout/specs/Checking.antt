-- Which refusals apply to a table, in which order they are looked for, and so what checking answers.
use Rattle.std.specs.Prelude.{ℕ, ◌+◌, ◌*◌, Bool, false, not, ◌&&◌, List, [], ◌∷◌, ◌++◌, map, length, take, Some, None, Option, ◌==◌, nat_le, nat_lt, slice_index, if◌then◌else◌}
use Rattle.std.specs.List.{slice_get}
use Rattle.theory.specs.Lists.{any_of, count_of, up_from, each}
use Rattle.theory.specs.Table.{Axiom, Table, same_line, has_form}
use Rattle.theory.specs.WellFormed.{counts_simple}
use Rattle.layout.specs.declared.refusal.Refusal.{Refusal}
use Rattle.layout.specs.declared.refusal.Refusal.TheVariants.{TooShort, SizeOutOfLimits, WrongLength, UnknownForm, BadArgument, Repeated, TooManyWitnesses, NotSimple}
use Rattle.layout.specs.declared.sizes.Size.TheVariants.{Concepts, Roles, Individuals, Axioms}
use Rattle.layout.specs.Refusals.{word_of}
use Rattle.layout.specs.Forms.{kinds_of, has_kinds, fits_line}
use Rattle.layout.specs.Words.{word_at, axioms_in, line_at, lines_to, says}

-- the least and the greatest that a size may be: concepts, roles, individuals, axioms
abbrev pub least : List ℕ
least = 2 ∷ 0 ∷ 1 ∷ 0 ∷ []

abbrev pub greatest : List ℕ
greatest = 32 ∷ 7 ∷ 16 ∷ 64 ∷ []

abbrev pub size_fits : ℕ → ℕ → Bool
size_fits w n = nat_le (slice_index least w) n && nat_le n (slice_index greatest w)

-- there is such an axiom, and it passes
abbrev pub passes : (Axiom → Bool) → Option Axiom → Bool
passes p None = false
passes p (Some a) = p a

-- whether a refusal applies, whatever came before it
abbrev pub applies : List ℕ → Refusal → Bool
applies bs TooShort = nat_lt (length bs) 8
applies bs (SizeOutOfLimits z) = not (size_fits (word_of z) (word_at bs (word_of z)))
applies bs WrongLength = not (length bs == 8 + 10 * axioms_in bs)
applies bs (UnknownForm k) = not (has_kinds (kinds_of (line_at bs k).form))
applies bs (BadArgument k) = not (fits_line (says bs) (line_at bs k))
applies bs (Repeated k) = any_of (same_line (line_at bs k)) (lines_to bs k)
applies bs (TooManyWitnesses k) = passes (has_form 8) (slice_get (says bs).axioms k) && count_of (has_form 8) (take k (says bs).axioms) == 32
applies bs (NotSimple k) = passes (λ a. not (counts_simple (says bs) a)) (slice_get (says bs).axioms k)

-- an axiom passes three tests before the next is looked at
abbrev pub line_tests : ℕ → List Refusal
line_tests k = UnknownForm k ∷ BadArgument k ∷ Repeated k ∷ []

abbrev pub header_tests : List Refusal
header_tests = TooShort ∷ SizeOutOfLimits Concepts ∷ SizeOutOfLimits Roles ∷ SizeOutOfLimits Individuals ∷ SizeOutOfLimits Axioms ∷ WrongLength ∷ []

-- the checking order at so many axioms
abbrev pub order : ℕ → List Refusal
order n = header_tests ++ (each line_tests (up_from 0 n) ++ (map TooManyWitnesses (up_from 0 n) ++ map NotSimple (up_from 0 n)))

-- the first that applies
abbrev pub first : (Refusal → Bool) → List Refusal → Option Refusal
first p [] = None
first p (f ∷ fs) = let rest = first p fs in if p f then Some f else rest

pub data Outcome : Type 0 where
  accepted : Table → Outcome
  refused : Refusal → Outcome

abbrev pub outcome : Table → Option Refusal → Outcome
outcome t None = accepted t
outcome t (Some f) = refused f

-- what checking answers: the first refusal that applies, or the table that the bytes say
abbrev pub checked : List ℕ → Outcome
checked bs = outcome (says bs) (first (applies bs) (order (axioms_in bs)))
