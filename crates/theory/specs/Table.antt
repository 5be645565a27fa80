-- A table: its sizes and its axioms, by form.
use Rattle.std.specs.Prelude.{ℕ, zero, suc, Bool, ◌&&◌, List, [], ◌∷◌, None, Option, ◌==◌}
use Rattle.std.specs.List.{slice_get}

-- The twelve forms, with their words as arguments.
pub data Axiom : Type 0 where
  sub_role : ℕ → ℕ → Axiom  -- 1: role p ⊑ q
  sub_inverse : ℕ → ℕ → Axiom  -- 2: role p ⊑ q⁻
  transitive : ℕ → Axiom  -- 3: role p is transitive
  conjunction : ℕ → ℕ → ℕ → ℕ → Axiom  -- 4: p ⊓ q ⊓ r ⊑ s
  nominal : ℕ → ℕ → Axiom  -- 5: p ⊑ {individual q}
  filler : ℕ → ℕ → ℕ → Axiom  -- 6: ∃ role p . q ⊑ r
  at_most_one : ℕ → ℕ → ℕ → Axiom  -- 7: p ⊑ ≤1 role q . r
  exists : ℕ → ℕ → ℕ → Axiom  -- 8: p ⊑ ∃ role q . r
  range : ℕ → ℕ → Axiom  -- 9: the range of role p is q
  has_value : ℕ → ℕ → ℕ → Axiom  -- 10: p ⊑ ∃ role q . {individual r}
  open_concept : ℕ → Axiom  -- 11: concept p is open
  open_role : ℕ → Axiom  -- 12: role p is open

-- Concepts, roles and individuals are numbered from 0; concept 0 is ⊤, concept 1 is ⊥.
pub record Table : Type 0 where
  pub concepts : ℕ
  pub roles : ℕ
  pub individuals : ℕ
  pub axioms : List Axiom

-- An axiom as its form code and its four words; an unused word is 0.
pub record Line : Type 0 where
  pub form : ℕ
  pub p : ℕ
  pub q : ℕ
  pub r : ℕ
  pub s : ℕ

abbrev pub line : ℕ → ℕ → ℕ → ℕ → ℕ → Line
line f a b c d = record { form = f; p = a; q = b; r = c; s = d }

abbrev pub line_of : Axiom → Line
line_of (sub_role p q) = line 1 p q 0 0
line_of (sub_inverse p q) = line 2 p q 0 0
line_of (transitive p) = line 3 p 0 0 0
line_of (conjunction p q r s) = line 4 p q r s
line_of (nominal p q) = line 5 p q 0 0
line_of (filler p q r) = line 6 p q r 0
line_of (at_most_one p q r) = line 7 p q r 0
line_of (exists p q r) = line 8 p q r 0
line_of (range p q) = line 9 p q 0 0
line_of (has_value p q r) = line 10 p q r 0
line_of (open_concept p) = line 11 p 0 0 0
line_of (open_role p) = line 12 p 0 0 0

abbrev pub has_form : ℕ → Axiom → Bool
has_form f a = (line_of a).form == f

abbrev pub same_line : Line → Line → Bool
same_line k l = k.form == l.form && (k.p == l.p && (k.q == l.q && (k.r == l.r && k.s == l.s)))

-- what the words say by form 1, by form 2 and so on
abbrev pub readings : Line → List Axiom
readings l =
    sub_role l.p l.q
    ∷ sub_inverse l.p l.q
    ∷ transitive l.p
    ∷ conjunction l.p l.q l.r l.s
    ∷ nominal l.p l.q
    ∷ filler l.p l.q l.r
    ∷ at_most_one l.p l.q l.r
    ∷ exists l.p l.q l.r
    ∷ range l.p l.q
    ∷ has_value l.p l.q l.r
    ∷ open_concept l.p
    ∷ open_role l.p
    ∷ []

abbrev pub numbered : ℕ → List Axiom → Option Axiom
numbered zero l = None
numbered (suc k) l = slice_get l k

-- the axiom that a line says, if its form code is 1 to 12
abbrev pub axiom_of : Line → Option Axiom
axiom_of l = numbered l.form (readings l)
