-- Checking by stages.
use Rattle.std.specs.Prelude.{◌≡◌, ℕ, ◌+◌, ◌*◌, ◌<◌, ◌≤◌, Bool, true, false, not, ◌&&◌, List, map, length, take, drop, Some, None, Ok, Err, Option, Result, ◌==◌}
use Rattle.std.specs.List.{slice_get}
use Rattle.arrayvec.specs.ArrayVec.{ArrayVec}
use Rattle.theory.specs.Lists.{count_of, up_from, each}
use Rattle.theory.specs.Table as theory
use Rattle.theory.specs.Table.{Table, Line, line, has_form, axiom_of}
use Rattle.theory.specs.WellFormed.{counts_simple}
use Rattle.layout.specs.declared.axiom.Axiom.{Axiom}
use Rattle.layout.specs.declared.refusal.Refusal.{Refusal}
use Rattle.layout.specs.declared.sizes.Sizes.{Sizes}
use Rattle.layout.specs.Checking.{passes, checked, refused}
use Rattle.layout.specs.Limits.{size_refusal, line_refusal}
use Rattle.layout.specs.Meaning.{axiom_in}
use Rattle.layout.specs.Words.{word_at, axioms_in, said}

-- the first size of the bytes that is outside its limits
abbrev pub sizes_of : List ℕ → Option Refusal
sizes_of bs = size_refusal (word_at bs 0) (word_at bs 1) (word_at bs 2) (word_at bs 3)

-- the bytes pass the tests of their sizes and their length
pub record Header (bs : List ℕ) (z : Sizes) : Type 0 where
  pub long : 8 ≤ length bs
  pub within : sizes_of bs ≡ None
  pub concepts : z.concepts ≡ word_at bs 0
  pub roles : z.roles ≡ word_at bs 1
  pub individuals : z.individuals ≡ word_at bs 2
  pub axioms : z.axioms ≡ axioms_in bs
  pub whole : length (drop 8 bs) ≡ 10 * z.axioms

abbrev pub HeaderRead : List ℕ → Result Sizes Refusal → Type 0
HeaderRead bs (Ok z) = Header bs z
HeaderRead bs (Err f) = checked bs ≡ refused f

-- the line of a form code and the first of these records
abbrev pub line_from : ℕ → List ℕ → Line
line_from f bs = line f (word_at bs 0) (word_at bs 1) (word_at bs 2) (word_at bs 3)

-- line k of n, in what follows the sizes
abbrev pub line_no : List ℕ → ℕ → ℕ → Line
line_no rest n k = line_from (word_at (drop (2 * k) rest) 0) (drop (2 * n + 8 * k) rest)

abbrev pub lines_no : List ℕ → ℕ → ℕ → List Line
lines_no rest n k = map (line_no rest n) (up_from 0 k)

-- the first test that line k fails
abbrev pub refusal_no : Table → List ℕ → ℕ → ℕ → Option Refusal
refusal_no t rest n k = line_refusal t (lines_no rest n k) k (line_no rest n k)

-- what the first k lines say
abbrev pub says_no : List ℕ → ℕ → ℕ → List theory.Axiom
says_no rest n k = each (λ l. said (axiom_of l)) (lines_no rest n k)

-- every line passes, and the axioms are what they say; or the first that fails, and its first test
abbrev pub LinesRead : Table → List ℕ → ℕ → Result (ArrayVec Axiom) Refusal → Type 0
LinesRead t rest n (Ok v) = (map axiom_in v.items ≡ says_no rest n n) × ((k : ℕ) → k < n → refusal_no t rest n k ≡ None)
LinesRead t rest n (Err f) = (k : ℕ) × (k < n) × (refusal_no t rest n k ≡ Some f) × ((j : ℕ) → j < k → refusal_no t rest n j ≡ None)

-- the first place below n at which a test passes makes the refusal
abbrev pub FirstPlace : (ℕ → Bool) → (ℕ → Refusal) → ℕ → Result (Unit {0}) Refusal → Type 0
FirstPlace test made n (Ok _) = (k : ℕ) → k < n → test k ≡ false
FirstPlace test made n (Err f) = (k : ℕ) × (k < n) × (test k ≡ true) × (f ≡ made k) × ((j : ℕ) → j < k → test j ≡ false)

-- axiom k is the 33rd that asks for a witness
abbrev pub too_many : List theory.Axiom → ℕ → Bool
too_many l k = passes (has_form 8) (slice_get l k) && count_of (has_form 8) (take k l) == 32

-- axiom k counts by a role that is not simple
abbrev pub not_simple : Table → ℕ → Bool
not_simple t k = passes (λ a. not (counts_simple t a)) (slice_get t.axioms k)
