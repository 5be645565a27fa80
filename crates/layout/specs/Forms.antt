-- The twelve forms: what their words stand for.
use Rattle.std.specs.Prelude.{◌≡◌, ℕ, zero, suc, Bool, true, false, ◌&&◌, List, [], ◌∷◌, Some, None, Option, Result, MatchResult, nat_lt}
use Rattle.std.specs.List.{slice_get}
use Rattle.theory.specs.Table.{Table, Line}
use Rattle.layout.specs.declared.form.Form.{Form}
use Rattle.layout.specs.declared.form.Form.TheVariants.{SubRole, SubInverse, Transitive, Conjunction, Nominal, Filler, AtMostOne, Exists, Range, HasValue, OpenConcept, OpenRole}
use Rattle.layout.specs.declared.form.UnknownForm.{UnknownForm}

-- what a word of a record stands for
pub data Kind : Type 0 where
  Concept : Kind
  Role : Kind
  Individual : Kind
  Unused : Kind

-- what the four words of a form stand for
pub record Kinds : Type 0 where
  pub p : Kind
  pub q : Kind
  pub r : Kind
  pub s : Kind

abbrev pub kinds : Kind → Kind → Kind → Kind → Kinds
kinds a b c d = record { p = a; q = b; r = c; s = d }

-- form 1, form 2 and so on
abbrev pub forms : List Kinds
forms =
    kinds Role Role Unused Unused
    ∷ kinds Role Role Unused Unused
    ∷ kinds Role Unused Unused Unused
    ∷ kinds Concept Concept Concept Concept
    ∷ kinds Concept Individual Unused Unused
    ∷ kinds Role Concept Concept Unused
    ∷ kinds Concept Role Concept Unused
    ∷ kinds Concept Role Concept Unused
    ∷ kinds Role Concept Unused Unused
    ∷ kinds Concept Role Individual Unused
    ∷ kinds Concept Unused Unused Unused
    ∷ kinds Role Unused Unused Unused
    ∷ []

abbrev pub coded : ℕ → List Kinds → Option Kinds
coded zero l = None
coded (suc f) l = slice_get l f

abbrev pub kinds_of : ℕ → Option Kinds
kinds_of f = coded f forms

-- the form code is 1 to 12
abbrev pub has_kinds : Option Kinds → Bool
has_kinds None = false
has_kinds (Some k) = true

-- words of a kind are below this: an argument is declared, an unused word is 0
abbrev pub limit : Table → Kind → ℕ
limit t Concept = t.concepts
limit t Role = t.roles
limit t Individual = t.individuals
limit t Unused = 1

abbrev pub fits : Table → Kinds → Line → Bool
fits t k l = nat_lt l.p (limit t k.p) && (nat_lt l.q (limit t k.q) && (nat_lt l.r (limit t k.r) && nat_lt l.s (limit t k.s)))

abbrev pub fits_by : Table → Option Kinds → Line → Bool
fits_by t None l = false
fits_by t (Some k) l = fits t k l

-- the line has a form, and its words fit that
abbrev pub fits_line : Table → Line → Bool
fits_line t l = fits_by t (kinds_of l.form) l

-- the code that stands for a form
abbrev pub code_of : Form → ℕ
code_of SubRole = 1
code_of SubInverse = 2
code_of Transitive = 3
code_of Conjunction = 4
code_of Nominal = 5
code_of Filler = 6
code_of AtMostOne = 7
code_of Exists = 8
code_of Range = 9
code_of HasValue = 10
code_of OpenConcept = 11
code_of OpenRole = 12

-- the form with this code, or an error where no words have such a form
abbrev pub Decodes : ℕ → Result Form UnknownForm → Type 0
Decodes code r = MatchResult r (λ f. code_of f ≡ code) (λ _. kinds_of code ≡ None)
