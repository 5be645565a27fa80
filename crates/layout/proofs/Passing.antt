-- What is accepted is well-formed.
use Rattle.std.proofs.Common.{◌≡◌, ℕ, ◌+◌, ◌*◌, ◌<◌, ◌≤◌, Bool, true, false, not, eqb, leb, List, [], ◌∷◌, ◌++◌, map, length, take, Some, None, Option, sym, refl, ap, ◌∙◌, subst, ⊎_elim, zero-add, arith}
use mathlib.Core.List.Memᴰ
use Rattle.std.specs.List.{slice_get}
use Rattle.std.proofs.lemmas.List.{length-map}
use Rattle.std.proofs.lemmas.Bool.{both_ways, and_parts, and_from, not-false, cases_Bool, cond-true, cond-false, eq-eqb, leb-true}
use Rattle.std.proofs.lemmas.Bool.Decides.{nat_tests}
use Rattle.theory.specs.Lists.{◌∈◌, any_of, count_of, up_from, each}
use Rattle.theory.specs.Table.{Axiom, Table, Line, at_most_one, line_of, has_form, axiom_of, same_line}
use Rattle.theory.specs.Roles.{Simple}
use Rattle.theory.specs.WellFormed.{declares, Declared, Apart, WellFormed, counts_simple}
use Rattle.theory.proofs.Members.{any_of_decides}
use Rattle.theory.proofs.Places.{no_some, in_nth, nth_map, length_up, nth_up, in_up, up_in, in_each, each_in, apart_from, count_limit}
use Rattle.std.proofs.lemmas.Option.{slice_get_within}
use Rattle.theory.proofs.Forms.{same_axiom}
use Rattle.theory.proofs.Accepting.{same_line_decides, counts_simple_reads}
use Rattle.layout.specs.declared.refusal.Refusal.{Refusal}
use Rattle.layout.specs.declared.refusal.Refusal.TheVariants.{TooShort, SizeOutOfLimits, WrongLength, UnknownForm, BadArgument, Repeated, TooManyWitnesses, NotSimple}
use Rattle.layout.specs.declared.sizes.Size.{Size}
use Rattle.layout.specs.declared.sizes.Size.TheVariants.{Concepts, Roles, Individuals, Axioms}
use Rattle.layout.specs.Refusals.{word_of}
use Rattle.layout.specs.Words.{word_at, axioms_in, line_at, lines_to, said, says}
use Rattle.layout.specs.Checking.{size_fits, passes, applies, line_tests, header_tests, order, first, accepted, outcome, checked}
use Rattle.layout.proofs.Fitting.{Says, line_says}

-- none of a list applies just where there is no first
pub first_none : (p : Refusal → Bool) (l : List Refusal) → first p l ≡ None → (f : Refusal) → f ∈ l → p f ≡ false
first_none p [] e f m = elim m [ ]
first_none p (g ∷ l) e f m = ⊎_elim here (go (first_none p l) f m) (cases_Bool (p g))
  where
    here : p g ≡ true → p f ≡ false
    here t = no_some (sym e ∙ cond-true (p g) (Some g) (first p l) t)

    go : (first p l ≡ None → (f : Refusal) → f ∈ l → p f ≡ false) → (f : Refusal) → f ∈ (g ∷ l) → p g ≡ false → p f ≡ false
    go below f (Memᴰ.head h) t = ap p h ∙ t
    go below f (Memᴰ.tail m) t = below (sym (cond-false (p g) (Some g) (first p l) t) ∙ e) f m

pub none_first : (p : Refusal → Bool) (l : List Refusal) → ((f : Refusal) → f ∈ l → p f ≡ false) → first p l ≡ None
none_first p [] h = refl
none_first p (g ∷ l) h = cond-false (p g) _ _ (h g (Memᴰ.head refl)) ∙ none_first p l (λ f m. h f (Memᴰ.tail m))

-- what is looked for at so many axioms
abbrev pub Due : ℕ → Refusal → Type 0
Due n TooShort = Unit {0}
Due n (SizeOutOfLimits z) = Unit {0}
Due n WrongLength = Unit {0}
Due n (UnknownForm k) = k < n
Due n (BadArgument k) = k < n
Due n (Repeated k) = k < n
Due n (TooManyWitnesses k) = k < n
Due n (NotSimple k) = k < n

module _ (n : ℕ) where
  abbrev at_lines : List Refusal
  at_lines = each line_tests (up_from 0 n)

  abbrev at_witnesses : List Refusal
  at_witnesses = map TooManyWitnesses (up_from 0 n)

  in_line : (k : ℕ) (f : Refusal) → k < n → f ∈ line_tests k → f ∈ order n
  in_line k f h m = Memᴰ.append_right header_tests (Memᴰ.append_left _ (in_each line_tests (up_from 0 n) k f (in_up 0 n k (omega arith) (omega arith)) m))

  pub in_order : (f : Refusal) → Due n f → f ∈ order n
  in_order TooShort h = Memᴰ.head refl
  in_order (SizeOutOfLimits Concepts) h = Memᴰ.tail (Memᴰ.head refl)
  in_order (SizeOutOfLimits Roles) h = Memᴰ.tail (Memᴰ.tail (Memᴰ.head refl))
  in_order (SizeOutOfLimits Individuals) h = Memᴰ.tail (Memᴰ.tail (Memᴰ.tail (Memᴰ.head refl)))
  in_order (SizeOutOfLimits Axioms) h = Memᴰ.tail (Memᴰ.tail (Memᴰ.tail (Memᴰ.tail (Memᴰ.head refl))))
  in_order WrongLength h = Memᴰ.tail (Memᴰ.tail (Memᴰ.tail (Memᴰ.tail (Memᴰ.tail (Memᴰ.head refl)))))
  in_order (UnknownForm k) h = in_line k (UnknownForm k) h (Memᴰ.head refl)
  in_order (BadArgument k) h = in_line k (BadArgument k) h (Memᴰ.tail (Memᴰ.head refl))
  in_order (Repeated k) h = in_line k (Repeated k) h (Memᴰ.tail (Memᴰ.tail (Memᴰ.head refl)))
  in_order (TooManyWitnesses k) h =
      Memᴰ.append_right header_tests (Memᴰ.append_right at_lines (Memᴰ.append_left _ (Memᴰ.map TooManyWitnesses (in_up 0 n k (omega arith) (omega arith)))))
  in_order (NotSimple k) h =
      Memᴰ.append_right header_tests (Memᴰ.append_right at_lines (Memᴰ.append_right at_witnesses (Memᴰ.map NotSimple (in_up 0 n k (omega arith) (omega arith)))))

  due_by : (f g : Refusal) → f ≡ g → Due n g → Due n f
  due_by f g e h = subst (Due n) (sym e) h

  up_below : (k : ℕ) → k ∈ up_from 0 n → k < n
  up_below k m = let (_, h) = up_in 0 n k m in omega arith

  pub order_in : (f : Refusal) → f ∈ order n → Due n f
  order_in f m = ⊎_elim header (λ m. ⊎_elim lines (λ m. ⊎_elim witnesses simples (Memᴰ.append_cases at_witnesses m)) (Memᴰ.append_cases at_lines m)) (Memᴰ.append_cases header_tests m)
    where
      header : f ∈ header_tests → Due n f
      header (Memᴰ.head e) = due_by f TooShort e tt
      header (Memᴰ.tail (Memᴰ.head e)) = due_by f (SizeOutOfLimits Concepts) e tt
      header (Memᴰ.tail (Memᴰ.tail (Memᴰ.head e))) = due_by f (SizeOutOfLimits Roles) e tt
      header (Memᴰ.tail (Memᴰ.tail (Memᴰ.tail (Memᴰ.head e)))) = due_by f (SizeOutOfLimits Individuals) e tt
      header (Memᴰ.tail (Memᴰ.tail (Memᴰ.tail (Memᴰ.tail (Memᴰ.head e))))) = due_by f (SizeOutOfLimits Axioms) e tt
      header (Memᴰ.tail (Memᴰ.tail (Memᴰ.tail (Memᴰ.tail (Memᴰ.tail (Memᴰ.head e)))))) = due_by f WrongLength e tt
      header (Memᴰ.tail (Memᴰ.tail (Memᴰ.tail (Memᴰ.tail (Memᴰ.tail (Memᴰ.tail m)))))) = elim m [ ]

      at_line : (k : ℕ) → k < n → f ∈ line_tests k → Due n f
      at_line k h (Memᴰ.head e) = due_by f (UnknownForm k) e h
      at_line k h (Memᴰ.tail (Memᴰ.head e)) = due_by f (BadArgument k) e h
      at_line k h (Memᴰ.tail (Memᴰ.tail (Memᴰ.head e))) = due_by f (Repeated k) e h
      at_line k h (Memᴰ.tail (Memᴰ.tail (Memᴰ.tail m))) = elim m [ ]

      lines : f ∈ at_lines → Due n f
      lines m = let (k, i, j) = each_in line_tests (up_from 0 n) f m in at_line k (up_below k i) j

      witnesses : f ∈ at_witnesses → Due n f
      witnesses m = let (k, i, e) = Memᴰ.of_map TooManyWitnesses (up_from 0 n) m in due_by f (TooManyWitnesses k) (sym e) (up_below k i)

      simples : f ∈ map NotSimple (up_from 0 n) → Due n f
      simples m = let (k, i, e) = Memᴰ.of_map NotSimple (up_from 0 n) m in due_by f (NotSimple k) (sym e) (up_below k i)

outcome_accepted : (t u : Table) (o : Option Refusal) → outcome t o ≡ accepted u → (u ≡ t) × (o ≡ None)
outcome_accepted t u None e = (cc, refl)
outcome_accepted t u (Some f) e = let z : ◌≡◌ {A = ℕ} 0 1 = cc in absurd (omega arith)

pub none_applies : (bs : List ℕ) → first (applies bs) (order (axioms_in bs)) ≡ None → (f : Refusal) → f ∈ order (axioms_in bs) → applies bs f ≡ false
none_applies bs = first_none (applies bs) (order (axioms_in bs))

pub accepted_says : (bs : List ℕ) (t : Table) → checked bs ≡ accepted t → t ≡ says bs
accepted_says bs t e = (outcome_accepted (says bs) t _ e).0

pub accepted_none : (bs : List ℕ) (t : Table) → checked bs ≡ accepted t → first (applies bs) (order (axioms_in bs)) ≡ None
accepted_none bs t e = (outcome_accepted (says bs) t _ e).1

-- lines that say axioms are the lines of those
lines_said : (t : Table) (ls : List Line) → ((l : Line) → l ∈ ls → Says t l) → map line_of (each (λ l. said (axiom_of l)) ls) ≡ ls
lines_said t [] h = refl
lines_said t (l ∷ ls) h =
    let (a, e, q, d) = h l (Memᴰ.head refl) in
    let rest = lines_said t ls (λ k m. h k (Memᴰ.tail m)) in
    ap (λ o. map line_of (said o ++ each (λ l. said (axiom_of l)) ls)) e ∙ cc

pub length_lines : (bs : List ℕ) (n : ℕ) → length (lines_to bs n) ≡ n
length_lines bs n = length-map (up_from 0 n) (line_at bs) ∙ length_up 0 n

pub nth_line : (bs : List ℕ) (n k : ℕ) → k < n → slice_get (lines_to bs n) k ≡ Some (line_at bs k)
nth_line bs n k h = nth_map (line_at bs) (up_from 0 n) k (0 + k) (nth_up 0 n k h) ∙ ap (λ j. Some (line_at bs j)) (zero-add k)

module _ (bs : List ℕ) (none : first (applies bs) (order (axioms_in bs)) ≡ None) where
  due : (f : Refusal) → Due (axioms_in bs) f → applies bs f ≡ false
  due f h = none_applies bs none f (in_order (axioms_in bs) f h)

  says_at : (k : ℕ) → k < axioms_in bs → Says (says bs) (line_at bs k)
  says_at k h = line_says (says bs) (line_at bs k) (not-false _ (due (BadArgument k) h))

  pub said_lines : map line_of (says bs).axioms ≡ lines_to bs (axioms_in bs)
  said_lines = lines_said (says bs) (lines_to bs (axioms_in bs)) at
    where
      at : (l : Line) → l ∈ lines_to bs (axioms_in bs) → Says (says bs) l
      at l m = let (k, i, e) = Memᴰ.of_map (line_at bs) (up_from 0 (axioms_in bs)) m in subst (Says (says bs)) e (says_at k (up_below (axioms_in bs) k i))

  pub length-said : length (says bs).axioms ≡ axioms_in bs
  length-said = sym (length-map (says bs).axioms line_of) ∙ ap length said_lines ∙ length_lines bs (axioms_in bs)

  -- axiom k has line k
  pub said_line : (k : ℕ) (a : Axiom) → slice_get (says bs).axioms k ≡ Some a → (k < axioms_in bs) × (line_of a ≡ line_at bs k)
  said_line k a e =
      let low : k < axioms_in bs = omega (arith, slice_get_within (says bs).axioms k a e, length-said) in
      let u = nth_map line_of (says bs).axioms k a e in
      let v = nth_line bs (axioms_in bs) k low in
      let w = ap (λ l. slice_get l k) said_lines in
      (low, cc)

  said_declared : Declared (says bs)
  said_declared a m =
      let (k, at) = in_nth m in
      let (h, e) = said_line k a at in
      let (b, _, q, d) = says_at k h in
      let same = same_axiom a b (e ∙ sym q) in
      ap (declares (says bs)) same ∙ d

  said_apart : Apart (says bs).axioms
  said_apart =
      apart_from (says bs).axioms
      (λ j k a h u v.
      let (_, x) = said_line j a u in
      let (low, y) = said_line k a v in
      both_ways (any_of (same_line (line_at bs k)) (lines_to bs k)) (due (Repeated k) low)
      ((any_of_decides (same_line (line_at bs k)) (lines_to bs k)).1 (line_at bs j, Memᴰ.map (line_at bs) (in_up 0 k j (omega arith) (omega arith)), (same_line_decides (line_at bs k) (line_at bs j)).1 (sym y ∙ x))))

  said_few : count_of (has_form 8) (says bs).axioms ≤ 32
  said_few = omega (arith, count_limit (has_form 8) 32 (says bs).axioms 0 (omega arith) stops)
    where
      stops : (k : ℕ) (a : Axiom) → slice_get (says bs).axioms k ≡ Some a → has_form 8 a ≡ true → 0 + count_of (has_form 8) (take k (says bs).axioms) ≡ 32 → ⊥
      stops k a at q s =
          let (low, _) = said_line k a at in
          both_ways _ (due (TooManyWitnesses k) low)
          (and_from (passes (has_form 8) (slice_get (says bs).axioms k)) _ (ap (passes (has_form 8)) at ∙ q) (eq-eqb _ 32 (omega arith)))

  said_simple : (p q r : ℕ) → at_most_one p q r ∈ (says bs).axioms → Simple (says bs) q
  said_simple p q r m =
      let (k, at) = in_nth m in
      let (low, _) = said_line k (at_most_one p q r) at in
      let passed = sym (ap (passes (λ a. not (counts_simple (says bs) a))) at) ∙ due (NotSimple k) low in
      counts_simple_reads (says bs) said_declared (at_most_one p q r) m (not-false (counts_simple (says bs) (at_most_one p q r)) passed) p q r refl

  size : (z : Size) → size_fits (word_of z) (word_at bs (word_of z)) ≡ true
  size z = not-false _ (due (SizeOutOfLimits z) tt)

  pub said_length : length bs ≡ 8 + 10 * axioms_in bs
  said_length = let h = not-false (eqb (length bs) (8 + 10 * axioms_in bs)) (due WrongLength tt) in grind (arith, nat_tests)

  pub said_well_formed : WellFormed (says bs)
  said_well_formed =
      let (c, d) = and_parts (leb 2 (word_at bs 0)) _ (size Concepts) in
      let (_, r) = and_parts (leb 0 (word_at bs 1)) _ (size Roles) in
      let (i, j) = and_parts (leb 1 (word_at bs 2)) _ (size Individuals) in
      let (_, m) = and_parts (leb 0 (axioms_in bs)) _ (size Axioms) in
      record {
        concepts = (leb-true 2 (word_at bs 0) c, leb-true (word_at bs 0) 32 d);
        roles = leb-true (word_at bs 1) 7 r;
        individuals = (leb-true 1 (word_at bs 2) i, leb-true (word_at bs 2) 16 j);
        few = omega (arith, length-said, leb-true (axioms_in bs) 64 m);
        declared = said_declared;
        apart = said_apart;
        witnesses = said_few;
        simple = said_simple;
      }

pub accepted_well_formed : (bs : List ℕ) (t : Table) → checked bs ≡ accepted t → WellFormed t
accepted_well_formed bs t e = subst WellFormed (sym (accepted_says bs t e)) (said_well_formed bs (accepted_none bs t e))
