-- What checking answers, by how far it came.
use Rattle.std.proofs.Common.{◌≡◌, ℕ, ◌+◌, ◌*◌, ◌<◌, ◌≤◌, Bool, true, false, cond, not, eqb, ltb, List, [], ◌∷◌, ◌++◌, map, length, drop, Some, None, Ok, Err, Option, Result, sym, refl, ap, ◌∙◌, subst, zero-add, arith, length-drop}
use mathlib.Core.List.Memᴰ
use Rattle.std.proofs.lemmas.Bool.{cond-true, cond-false, not-false}
use Rattle.std.proofs.lemmas.Bool.Decides.{nat_tests}
use Rattle.arrayvec.specs.ArrayVec.{ArrayVec}
use Rattle.theory.specs.Table as theory
use Rattle.theory.specs.Lists.{◌∈◌, any_of, all_of, up_from, each}
use Rattle.theory.specs.Table.{Table, Line, axiom_of, same_line}
use Rattle.theory.specs.WellFormed.{declares}
use Rattle.layout.specs.declared.axiom.Axiom.{Axiom}
use Rattle.layout.specs.declared.refusal.Refusal.{Refusal}
use Rattle.layout.specs.declared.refusal.Refusal.TheVariants.{TooShort, SizeOutOfLimits, WrongLength, UnknownForm, BadArgument, Repeated, TooManyWitnesses, NotSimple}
use Rattle.layout.specs.Forms.{Kind, Concept, Role, Individual, Unused, Kinds}
use Rattle.layout.specs.declared.sizes.Size.TheVariants.{Concepts, Roles, Individuals, Axioms}
use Rattle.layout.specs.declared.sizes.Sizes.{Sizes}
use Rattle.layout.specs.Checking.{applies, line_tests, header_tests, first, outcome, checked, accepted, refused}
use Rattle.layout.specs.Forms.{kinds_of, has_kinds, limit, fits_by, fits_line}
use Rattle.layout.specs.Limits.{line_refusal}
use Rattle.layout.specs.Meaning.{axiom_in, table_of}
use Rattle.layout.specs.Words.{axioms_in, line_at, lines_to, said, says}
use Rattle.theory.proofs.Members.{all_of_decides}
use Rattle.theory.proofs.Places.{each_in, up_in}
use Rattle.layout.proofs.Fitting.{line_says}
use Rattle.layout.proofs.Passing.{first_none}
use Rattle.table.specs.Stages.{Header, sizes_of, lines_no, refusal_no, says_no, LinesRead, FirstPlace, too_many, not_simple}
use Rattle.table.proofs.Checking.{passed, found, each_none, each_some, place_none, place_some, line_at_reads, lines_at}

abbrev size_tests : List Refusal
size_tests = SizeOutOfLimits Concepts ∷ SizeOutOfLimits Roles ∷ SizeOutOfLimits Individuals ∷ SizeOutOfLimits Axioms ∷ []

-- limits go by the sizes alone
same_limit : (t u : Table) → t.concepts ≡ u.concepts → t.roles ≡ u.roles → t.individuals ≡ u.individuals → (k : Kind) → limit t k ≡ limit u k
same_limit t u c r i Concept = c
same_limit t u c r i Role = r
same_limit t u c r i Individual = i
same_limit t u c r i Unused = refl

same_fits : (t u : Table) → t.concepts ≡ u.concepts → t.roles ≡ u.roles → t.individuals ≡ u.individuals → (l : Line) → fits_line t l ≡ fits_line u l
same_fits t u c r i l = go (kinds_of l.form)
  where
    go : (o : Option Kinds) → fits_by t o l ≡ fits_by u o l
    go None = refl
    go (Some k) =
        let a = same_limit t u c r i k.p in
        let b = same_limit t u c r i k.q in
        let d = same_limit t u c r i k.r in
        let e = same_limit t u c r i k.s in
        cc

-- what comes after the header
abbrev later : ℕ → List Refusal
later n = each line_tests (up_from 0 n) ++ (map TooManyWitnesses (up_from 0 n) ++ map NotSimple (up_from 0 n))

module _ (bs : List ℕ) where
  pub too_short : length bs < 8 → checked bs ≡ refused TooShort
  too_short h = ap (outcome (says bs)) (cond-true (ltb (length bs) 8) (Some TooShort) _ (grind (arith, nat_tests)))

  long_enough : 8 ≤ length bs → applies bs TooShort ≡ false
  long_enough h = grind (arith, nat_tests)

  pub bad_size : 8 ≤ length bs → (f : Refusal) → sizes_of bs ≡ Some f → checked bs ≡ refused f
  bad_size h f e =
      ap (outcome (says bs)) (cond-false (applies bs TooShort) (Some TooShort) _ (long_enough h) ∙ found (applies bs) size_tests (WrongLength ∷ later (axioms_in bs)) f e)

  pub wrong_length : 8 ≤ length bs → sizes_of bs ≡ None → (length (drop 8 bs) ≡ 10 * axioms_in bs → ⊥) → checked bs ≡ refused WrongLength
  wrong_length h e ne =
      let n = length-drop 8 bs in
      let other : (length bs ≡ 8 + 10 * axioms_in bs) → ⊥ = λ q. ne (omega arith) in
      ap (outcome (says bs))
      (cond-false (applies bs TooShort) (Some TooShort) _ (long_enough h) ∙ passed (applies bs) size_tests (WrongLength ∷ later (axioms_in bs)) e
      ∙ cond-true (applies bs WrongLength) (Some WrongLength) (first (applies bs) (later (axioms_in bs))) (differs other))
    where
      differs : ((length bs ≡ 8 + 10 * axioms_in bs) → ⊥) → not (eqb (length bs) (8 + 10 * axioms_in bs)) ≡ true
      differs ne = grind (arith, nat_tests)

  module _ (z : Sizes) (header : Header bs z) where
    header_none : first (applies bs) header_tests ≡ None
    header_none =
        cond-false (applies bs TooShort) (Some TooShort) _ (long_enough header.long) ∙ passed (applies bs) size_tests (WrongLength ∷ []) header.within
        ∙ cond-false (applies bs WrongLength) (Some WrongLength) None (equal (omega (arith, header.whole, header.axioms, length-drop 8 bs, header.long)))
      where
        equal : length bs ≡ 8 + 10 * axioms_in bs → not (eqb (length bs) (8 + 10 * axioms_in bs)) ≡ false
        equal e = grind (arith, nat_tests)

    -- the test of line k is the one that checking makes
    test_at : (k : ℕ) → refusal_no (table_of z []) (drop 8 bs) z.axioms k ≡ first (applies bs) (line_tests k)
    test_at k =
        ap (λ n. refusal_no (table_of z []) (drop 8 bs) n k) header.axioms
        ∙ ap (λ l. line_refusal (table_of z []) (lines_no (drop 8 bs) (axioms_in bs) k) k l) (line_at_reads bs k)
        ∙ ap (λ ls. line_refusal (table_of z []) ls k (line_at bs k)) (lines_at bs k)
        ∙ ap
        (λ b.
        cond (not (has_kinds (kinds_of (line_at bs k).form))) (Some (UnknownForm k))
        (cond (not b) (Some (BadArgument k)) (cond (any_of (same_line (line_at bs k)) (lines_to bs k)) (Some (Repeated k)) None)))
        (same_fits (table_of z []) (says bs) header.concepts header.roles header.individuals (line_at bs k))

    header_passed : checked bs ≡ outcome (says bs) (first (applies bs) (later (axioms_in bs)))
    header_passed = ap (outcome (says bs)) (passed (applies bs) header_tests (later (axioms_in bs)) header_none)

    bad_line : (f : Refusal) → LinesRead (table_of z []) (drop 8 bs) z.axioms (Err f) → checked bs ≡ refused f
    bad_line f (k, h, e, before) =
        header_passed
        ∙ ap (outcome (says bs))
        (found (applies bs) (each line_tests (up_from 0 (axioms_in bs))) _ f
        (each_some (applies bs) line_tests 0 (axioms_in bs) k f (omega (arith, header.axioms)) (at k ∙ e) (λ j l. at j ∙ before j l)))
      where
        at : (k : ℕ) → first (applies bs) (line_tests (0 + k)) ≡ refusal_no (table_of z []) (drop 8 bs) z.axioms k
        at k = ap (λ j. first (applies bs) (line_tests j)) (zero-add k) ∙ sym (test_at k)

    module _ (l : ArrayVec Axiom) (read : LinesRead (table_of z []) (drop 8 bs) z.axioms (Ok l)) where
      -- the axioms that were read are those that the bytes say
      axioms_said : (says bs).axioms ≡ map axiom_in l.items
      axioms_said =
          sym
          (read.0 ∙ ap (λ n. says_no (drop 8 bs) n n) header.axioms
          ∙ ap (each (λ x. said (axiom_of x))) (lines_at bs (axioms_in bs)))

      table_said : says bs ≡ table_of z l.items
      table_said i =
          record { concepts = sym header.concepts i; roles = sym header.roles i; individuals = sym header.individuals i; axioms = axioms_said i }

      lines_passed : checked bs ≡ outcome (says bs) (first (applies bs) (map TooManyWitnesses (up_from 0 (axioms_in bs)) ++ map NotSimple (up_from 0 (axioms_in bs))))
      lines_passed =
          header_passed
          ∙ ap (outcome (says bs))
          (passed (applies bs) (each line_tests (up_from 0 (axioms_in bs))) _
          (each_none (applies bs) line_tests 0 (axioms_in bs)
          (λ k h. ap (λ j. first (applies bs) (line_tests j)) (zero-add k) ∙ sym (test_at k) ∙ read.1 k (omega (arith, header.axioms)))))

      said_declared : all_of (declares (says bs)) (says bs).axioms ≡ true
      said_declared = (all_of_decides (declares (says bs)) (says bs).axioms).1 at
        where
          by_line : (k : ℕ) → k < axioms_in bs → (a : theory.Axiom) → a ∈ said (axiom_of (line_at bs k)) → declares (says bs) a ≡ true
          by_line k h a m =
              let passed = first_none (applies bs) (line_tests k) (sym (test_at k) ∙ read.1 k (omega (arith, header.axioms))) (BadArgument k) (Memᴰ.tail (Memᴰ.head refl)) in
              let (b, e, _, d) = line_says (says bs) (line_at bs k) (not-false (fits_line (says bs) (line_at bs k)) passed) in
              let same = Memᴰ.eq_of_singleton (subst (λ o. a ∈ said o) e m) in
              ap (declares (says bs)) same ∙ d

          at : (a : theory.Axiom) → a ∈ (says bs).axioms → declares (says bs) a ≡ true
          at a m =
              let (l, i, j) = each_in (λ x. said (axiom_of x)) (lines_to bs (axioms_in bs)) a m in
              let (k, u, e) = Memᴰ.of_map (line_at bs) (up_from 0 (axioms_in bs)) i in
              let (_, low) = up_in 0 (axioms_in bs) k u in
              by_line k (omega arith) a (subst (λ x. a ∈ said (axiom_of x)) (sym e) j)

      declared_read : all_of (declares (table_of z l.items)) (map axiom_in l.items) ≡ true
      declared_read = subst (λ t. all_of (declares t) t.axioms ≡ true) table_said said_declared

      witness_test : (k : ℕ) → applies bs (TooManyWitnesses k) ≡ too_many (map axiom_in l.items) k
      witness_test k = ap (λ as'. too_many as' k) axioms_said

      simple_test : (k : ℕ) → applies bs (NotSimple k) ≡ not_simple (table_of z l.items) k
      simple_test k = ap (λ t. not_simple t k) table_said

      bad_witness : (f : Refusal) → FirstPlace (too_many (map axiom_in l.items)) TooManyWitnesses (axioms_in bs) (Err f) → checked bs ≡ refused f
      bad_witness f h =
          lines_passed
          ∙ ap (outcome (says bs))
          (found (applies bs) (map TooManyWitnesses (up_from 0 (axioms_in bs))) _ f (place_some (applies bs) TooManyWitnesses _ witness_test (axioms_in bs) f h))

      module _ (few : FirstPlace (too_many (map axiom_in l.items)) TooManyWitnesses (axioms_in bs) (Ok tt)) where
        witnesses_passed : checked bs ≡ outcome (says bs) (first (applies bs) (map NotSimple (up_from 0 (axioms_in bs))))
        witnesses_passed =
            lines_passed
            ∙ ap (outcome (says bs))
            (passed (applies bs) (map TooManyWitnesses (up_from 0 (axioms_in bs))) _ (place_none (applies bs) TooManyWitnesses _ witness_test (axioms_in bs) tt few))

        bad_count : (f : Refusal) → FirstPlace (not_simple (table_of z l.items)) NotSimple (axioms_in bs) (Err f) → checked bs ≡ refused f
        bad_count f h = witnesses_passed ∙ ap (outcome (says bs)) (place_some (applies bs) NotSimple _ simple_test (axioms_in bs) f h)

        accepts : FirstPlace (not_simple (table_of z l.items)) NotSimple (axioms_in bs) (Ok tt) → checked bs ≡ accepted (table_of z l.items)
        accepts h = witnesses_passed ∙ ap (outcome (says bs)) (place_none (applies bs) NotSimple _ simple_test (axioms_in bs) tt h) ∙ ap accepted table_said

-- the same by what the program holds: the bytes after the sizes
pub line_refused : (bs rest : List ℕ) (z : Sizes) → rest ≡ drop 8 bs → Header bs z → (f : Refusal) → LinesRead (table_of z []) rest z.axioms (Err f) → checked bs ≡ refused f
line_refused bs rest z e header f h = bad_line bs z header f (subst (λ x. LinesRead (table_of z []) x z.axioms (Err f)) e h)

-- and as many axioms as the sizes say, seen as a slice
pub record AxiomsRead (bs : List ℕ) (z : Sizes) (l : ArrayVec Axiom) (ys : List Axiom) : Type 0 where
  pub header : Header bs z
  pub counted : length l.items ≡ z.axioms
  pub read : LinesRead (table_of z []) (drop 8 bs) z.axioms (Ok l)
  pub seen : ys ≡ l.items

module _ {bs : List ℕ} {z : Sizes} {l : ArrayVec Axiom} {ys : List Axiom} (held : AxiomsRead bs z l ys) where
  count : length l.items ≡ axioms_in bs
  count = held.counted ∙ held.header.axioms

  -- a first place among the slice's axioms is one among those that the bytes say
  place_at : (test : List Axiom → ℕ → Bool) (made : ℕ → Refusal) (r : Result (Unit {0}) Refusal) → FirstPlace (test ys) made (length ys) r → FirstPlace (test l.items) made (axioms_in bs) r
  place_at test made r p =
      subst (λ k. FirstPlace (test l.items) made k r) count
      (subst (λ xs. FirstPlace (test xs) made (length xs) r) held.seen p)

  few_at : (r : Result (Unit {0}) Refusal) → FirstPlace (too_many (map axiom_in ys)) TooManyWitnesses (length ys) r → FirstPlace (too_many (map axiom_in l.items)) TooManyWitnesses (axioms_in bs) r
  few_at = place_at (λ xs. too_many (map axiom_in xs)) TooManyWitnesses

  simple_at : (r : Result (Unit {0}) Refusal) → FirstPlace (not_simple (table_of z ys)) NotSimple (length ys) r → FirstPlace (not_simple (table_of z l.items)) NotSimple (axioms_in bs) r
  simple_at = place_at (λ xs. not_simple (table_of z xs)) NotSimple

  pub all_declared : all_of (declares (table_of z ys)) (map axiom_in ys) ≡ true
  all_declared = subst (λ xs. all_of (declares (table_of z xs)) (map axiom_in xs) ≡ true) (sym held.seen) (declared_read bs z held.header l held.read)

  pub witness_refused : (f : Refusal) → FirstPlace (too_many (map axiom_in ys)) TooManyWitnesses (length ys) (Err f) → checked bs ≡ refused f
  witness_refused f p = bad_witness bs z held.header l held.read f (few_at (Err f) p)

  module _ (few : FirstPlace (too_many (map axiom_in ys)) TooManyWitnesses (length ys) (Ok tt)) where
    pub count_refused : (f : Refusal) → FirstPlace (not_simple (table_of z ys)) NotSimple (length ys) (Err f) → checked bs ≡ refused f
    count_refused f p = bad_count bs z held.header l held.read (few_at (Ok tt) few) f (simple_at (Err f) p)

    pub all_passed : FirstPlace (not_simple (table_of z ys)) NotSimple (length ys) (Ok tt) → checked bs ≡ accepted (table_of z l.items)
    all_passed p = accepts bs z held.header l held.read (few_at (Ok tt) few) (simple_at (Ok tt) p)
