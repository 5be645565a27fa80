-- What is taken for the sizes of a table and for one of its lines.
use Rattle.std.specs.Prelude.{◌≡◌, ℕ, true, false, not, List, Some, None, Ok, Err, Option, Result, MatchOption, if◌then◌else◌}
use Rattle.theory.specs.Lists.{any_of}
use Rattle.theory.specs.Table.{Table, Line, line, same_line, axiom_of}
use Rattle.layout.specs.declared.axiom.Axiom.{Axiom}
use Rattle.layout.specs.declared.refusal.Refusal.{Refusal}
use Rattle.layout.specs.declared.refusal.Refusal.TheVariants.{SizeOutOfLimits, UnknownForm, BadArgument, Repeated}
use Rattle.layout.specs.declared.sizes.Size.TheVariants.{Concepts, Roles, Individuals, Axioms}
use Rattle.layout.specs.declared.sizes.Sizes.{Sizes}
use Rattle.layout.specs.Checking.{size_fits}
use Rattle.layout.specs.Forms.{kinds_of, has_kinds, fits_line}
use Rattle.layout.specs.Meaning.{axiom_in}

-- the first size outside its limits
abbrev pub size_refusal : ℕ → ℕ → ℕ → ℕ → Option Refusal
size_refusal c r i n =
    if not (size_fits 0 c) then (Some (SizeOutOfLimits Concepts)) else (if not (size_fits 1 r) then (Some (SizeOutOfLimits Roles)) else (if not (size_fits 2 i) then (Some (SizeOutOfLimits Individuals)) else (if not (size_fits 3 n) then (Some (SizeOutOfLimits Axioms)) else None)))

abbrev pub SizesTaken : ℕ → ℕ → ℕ → ℕ → Result Sizes Refusal → Type 0
SizesTaken c r i n (Ok z) = (size_refusal c r i n ≡ None) × (z.concepts ≡ c) × (z.roles ≡ r) × (z.individuals ≡ i) × (z.axioms ≡ n)
SizesTaken c r i n (Err f) = size_refusal c r i n ≡ Some f

-- the first test that line k fails, after these lines
abbrev pub line_refusal : Table → List Line → ℕ → Line → Option Refusal
line_refusal t earlier k l =
    if not (has_kinds (kinds_of l.form)) then (Some (UnknownForm k)) else (if not (fits_line t l) then (Some (BadArgument k)) else (if any_of (same_line l) earlier then (Some (Repeated k)) else None))

abbrev pub LineTaken : Table → List Line → ℕ → Line → Result Axiom Refusal → Type 0
LineTaken t earlier k l (Ok a) = (line_refusal t earlier k l ≡ None) × (axiom_of l ≡ Some (axiom_in a))
LineTaken t earlier k l (Err f) = line_refusal t earlier k l ≡ Some f

-- the axiom that a line says, if its words fit its form
abbrev pub LineSays : Table → Line → Option Axiom → Type 0
LineSays t l o = MatchOption o (fits_line t l ≡ false) (λ a. (fits_line t l ≡ true) × (axiom_of l ≡ Some (axiom_in a)))

-- the same of the line's words under another form code
abbrev pub WordsSay : Table → ℕ → Line → Option Axiom → Type 0
WordsSay t f l o = LineSays t (line f l.p l.q l.r l.s) o
