-- A line that fits is the line of an axiom whose arguments are declared.
use Rattle.std.proofs.Common.{◌≡◌, ℕ, zero, suc, Bool, true, ◌&&◌, ltb, Some, None, Option, refl, arith}
use Rattle.std.proofs.lemmas.Bool.{both_ways, and_parts, and_from}
use Rattle.std.proofs.lemmas.Bool.Decides.{nat_tests}
use Rattle.theory.specs.Table.{Axiom, Table, Line, line, sub_role, sub_inverse, transitive, conjunction, nominal, filler, at_most_one, exists, range, has_value, open_concept, open_role, line_of, axiom_of}
use Rattle.theory.specs.WellFormed.{declares}
use Rattle.layout.specs.Forms.{Kinds, kinds_of, has_kinds, fits_by, fits_line}

-- the axiom that a line says
abbrev pub Says : Table → Line → Type 0
Says t l = (a : Axiom) × (axiom_of l ≡ Some a) × (line_of a ≡ l) × (declares t a ≡ true)

-- an unused word is 0
unused : (w : ℕ) → ltb w 1 ≡ true → 0 ≡ w
unused w h = grind (arith, nat_tests)

-- a line of one, two or three arguments
module _ (f p q r s : ℕ) where
  one : (x : ℕ) → (ltb p x && (ltb q 1 && (ltb r 1 && ltb s 1))) ≡ true → (line f p 0 0 0 ≡ line f p q r s) × (ltb p x ≡ true)
  one x e =
      let (u, e) = and_parts (ltb p x) _ e in
      let (v, e) = and_parts (ltb q 1) _ e in
      let (w, o) = and_parts (ltb r 1) (ltb s 1) e in
      (cc (unused q v, unused r w, unused s o), u)

  two : (x y : ℕ) → (ltb p x && (ltb q y && (ltb r 1 && ltb s 1))) ≡ true → (line f p q 0 0 ≡ line f p q r s) × ((ltb p x && ltb q y) ≡ true)
  two x y e =
      let (u, e) = and_parts (ltb p x) _ e in
      let (v, e) = and_parts (ltb q y) _ e in
      let (w, o) = and_parts (ltb r 1) (ltb s 1) e in
      (cc (unused r w, unused s o), and_from (ltb p x) _ u v)

  three : (x y z : ℕ) → (ltb p x && (ltb q y && (ltb r z && ltb s 1))) ≡ true → (line f p q r 0 ≡ line f p q r s) × ((ltb p x && (ltb q y && ltb r z)) ≡ true)
  three x y z e =
      let (u, e) = and_parts (ltb p x) _ e in
      let (v, e) = and_parts (ltb q y) _ e in
      let (w, o) = and_parts (ltb r z) (ltb s 1) e in
      (cc (unused s o), and_from (ltb p x) _ u (and_from (ltb q y) _ v w))

said_by : (t : Table) (f p q r s : ℕ) → fits_line t (line f p q r s) ≡ true → Says t (line f p q r s)
said_by t zero p q r s e = absurd (both_ways _ refl e)
said_by t (suc zero) p q r s e = let (l, d) = two 1 p q r s t.roles t.roles e in (sub_role p q, refl, l, d)
said_by t (suc (suc zero)) p q r s e = let (l, d) = two 2 p q r s t.roles t.roles e in (sub_inverse p q, refl, l, d)
said_by t (suc (suc (suc zero))) p q r s e = let (l, d) = one 3 p q r s t.roles e in (transitive p, refl, l, d)
said_by t (suc (suc (suc (suc zero)))) p q r s e = (conjunction p q r s, refl, refl, e)
said_by t (suc (suc (suc (suc (suc zero))))) p q r s e = let (l, d) = two 5 p q r s t.concepts t.individuals e in (nominal p q, refl, l, d)
said_by t (suc (suc (suc (suc (suc (suc zero)))))) p q r s e = let (l, d) = three 6 p q r s t.roles t.concepts t.concepts e in (filler p q r, refl, l, d)
said_by t (suc (suc (suc (suc (suc (suc (suc zero))))))) p q r s e = let (l, d) = three 7 p q r s t.concepts t.roles t.concepts e in (at_most_one p q r, refl, l, d)
said_by t (suc (suc (suc (suc (suc (suc (suc (suc zero)))))))) p q r s e = let (l, d) = three 8 p q r s t.concepts t.roles t.concepts e in (exists p q r, refl, l, d)
said_by t (suc (suc (suc (suc (suc (suc (suc (suc (suc zero))))))))) p q r s e = let (l, d) = two 9 p q r s t.roles t.concepts e in (range p q, refl, l, d)
said_by t (suc (suc (suc (suc (suc (suc (suc (suc (suc (suc zero)))))))))) p q r s e = let (l, d) = three 10 p q r s t.concepts t.roles t.individuals e in (has_value p q r, refl, l, d)
said_by t (suc (suc (suc (suc (suc (suc (suc (suc (suc (suc (suc zero))))))))))) p q r s e = let (l, d) = one 11 p q r s t.concepts e in (open_concept p, refl, l, d)
said_by t (suc (suc (suc (suc (suc (suc (suc (suc (suc (suc (suc (suc zero)))))))))))) p q r s e = let (l, d) = one 12 p q r s t.roles e in (open_role p, refl, l, d)
said_by t (suc (suc (suc (suc (suc (suc (suc (suc (suc (suc (suc (suc (suc f))))))))))))) p q r s e = absurd (both_ways _ refl e)

pub line_says : (t : Table) (l : Line) → fits_line t l ≡ true → Says t l
line_says t l e = said_by t l.form l.p l.q l.r l.s e

-- and the line of such an axiom fits
then_unused : (a b : Bool) → (a && b) ≡ true → (a && (b && true)) ≡ true
then_unused a b e = let (u, v) = and_parts a b e in and_from a _ u (and_from b true v refl)

after_two : (a b c : Bool) → (a && (b && c)) ≡ true → (a && (b && (c && true))) ≡ true
after_two a b c e = let (u, v) = and_parts a (b && c) e in and_from a _ u (then_unused b c v)

pub declared_fits : (t : Table) (a : Axiom) → declares t a ≡ true → fits_line t (line_of a) ≡ true
declared_fits t (sub_role p q) d = then_unused (ltb p t.roles) (ltb q t.roles) d
declared_fits t (sub_inverse p q) d = then_unused (ltb p t.roles) (ltb q t.roles) d
declared_fits t (transitive p) d = and_from (ltb p t.roles) true d refl
declared_fits t (conjunction p q r s) d = d
declared_fits t (nominal p q) d = then_unused (ltb p t.concepts) (ltb q t.individuals) d
declared_fits t (filler p q r) d = after_two (ltb p t.roles) (ltb q t.concepts) (ltb r t.concepts) d
declared_fits t (at_most_one p q r) d = after_two (ltb p t.concepts) (ltb q t.roles) (ltb r t.concepts) d
declared_fits t (exists p q r) d = after_two (ltb p t.concepts) (ltb q t.roles) (ltb r t.concepts) d
declared_fits t (range p q) d = then_unused (ltb p t.roles) (ltb q t.concepts) d
declared_fits t (has_value p q r) d = after_two (ltb p t.concepts) (ltb q t.roles) (ltb r t.individuals) d
declared_fits t (open_concept p) d = and_from (ltb p t.concepts) true d refl
declared_fits t (open_role p) d = and_from (ltb p t.roles) true d refl

-- what fits has a form
pub fits_has_kinds : (t : Table) (l : Line) → fits_line t l ≡ true → has_kinds (kinds_of l.form) ≡ true
fits_has_kinds t l e = go (kinds_of l.form) e
  where
    go : (o : Option Kinds) → fits_by t o l ≡ true → has_kinds o ≡ true
    go None e = e
    go (Some k) e = refl
