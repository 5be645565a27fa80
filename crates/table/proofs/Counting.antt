-- Chains that count the elements of a list, or find the place of one.
use Rattle.std.proofs.Common.{◌≡◌, ℕ, zero, suc, ◌+◌, ◌<◌, ◌≤◌, Bool, true, false, cond, ◌&&◌, ◌⊎◌, inl, inr, eqb, ltb, List, [], ◌∷◌, map, length, take, filter, Some, None, Ok, Err, Option, sym, refl, ap, ◌∙◌, subst, ⊎_elim, add-zero, add-one, zero-add, arith, take_all}
use lib.ListN.{length-map}
use Rattle.std.specs.Option.{MatchOption}
use Rattle.std.specs.List.{slice_get, enumerate_from, range_with_len, AllWithin, HoldsAt}
use Rattle.std.proofs.lemmas.Bool.{cases_Bool, cond-true, cond-false, eqb-true, eq-eqb, and_from}
use Rattle.std.proofs.lemmas.Bool.Decides.{nat_tests}
use Rattle.theory.specs.Lists.{count_of, up_from}
use Rattle.theory.specs.Table.{Axiom, has_form}
use Rattle.theory.proofs.Places.{no_some, nth_some, nth_map}
use Rattle.std.proofs.lemmas.Option.{slice_get_within, get_or_from_slice_get}
use Rattle.layout.specs.declared.axiom.Axiom as stated
use Rattle.layout.specs.declared.refusal.Refusal.{Refusal}
use Rattle.layout.specs.declared.refusal.Refusal.TheVariants.{TooManyWitnesses}
use Rattle.layout.specs.Meaning.{axiom_in}
use Rattle.layout.specs.Checking.{passes}
use Rattle.table.specs.Stages.{FirstPlace, too_many}

-- the numbers of a range are those that count up
pub range_up : (a n : ℕ) → range_with_len a n ≡ up_from a n
range_up a zero = refl
range_up a (suc n) = ap (λ l. a ∷ l) (ap (λ k. range_with_len k n) (add-one a) ∙ range_up (suc a) n)

-- how many elements are kept
pub length_kept : {A : Type 0} (p : A → Bool) (l : List A) → length (filter p l) ≡ count_of p l
length_kept p [] = refl
length_kept p (a ∷ l) = go (p a) (length_kept p l)
  where
    go : (b : Bool) → length (filter p l) ≡ count_of p l → length (cond b (a ∷ filter p l) (filter p l)) ≡ cond b (suc (count_of p l)) (count_of p l)
    go true e = ap suc e
    go false e = e

-- the places of the elements that pass, in order
module _ {A B : Type 0} (f : A → B) (p : B → Bool) where
  abbrev pub kept : ℕ → List A → List (ℕ × A)
  kept from l = filter (λ (e : ℕ × A). p (f e.1)) (enumerate_from from l)

  -- element n of those that pass, by its place
  abbrev Found : ℕ → List A → ℕ → ℕ × A → Type 0
  Found from l n e = (j : ℕ) × (e.0 ≡ from + j) × (slice_get l j ≡ Some e.1) × (p (f e.1) ≡ true) × (count_of p (take j (map f l)) ≡ n)

  pub found_at : (from : ℕ) (l : List A) (n : ℕ) (e : ℕ × A) → slice_get (kept from l) n ≡ Some e → Found from l n e
  found_at from [] n e h = no_some h
  found_at from (a ∷ l) n e h = go (found_at (from + 1) l) (p (f a)) refl n h
    where
      go :
          ((m : ℕ) (e : ℕ × A) → slice_get (kept (from + 1) l) m ≡ Some e → Found (from + 1) l m e) → (b : Bool) → p (f a) ≡ b → (n : ℕ)
          → slice_get (cond b ((from, a) ∷ kept (from + 1) l) (kept (from + 1) l)) n ≡ Some e → Found from (a ∷ l) n e
      go below true q zero h =
          let same : (from, a) ≡ e = cc in
          (zero, ap (λ (x : ℕ × A). x.0) (sym same) ∙ sym (add-zero from), ap (λ (x : ℕ × A). Some x.1) same, ap (λ (x : ℕ × A). p (f x.1)) (sym same) ∙ q, refl)
      go below true q (suc n) h =
          let (j, at, is, r, count) = below n e h in
          (suc j, omega arith, is, r, cond-true (p (f a)) _ _ q ∙ ap suc count)
      go below false q n h =
          let (j, at, is, r, count) = below n e h in
          (suc j, omega arith, is, r, cond-false (p (f a)) _ _ q ∙ count)

  pub few_kept : (from : ℕ) (l : List A) (n : ℕ) → slice_get (kept from l) n ≡ None → count_of p (map f l) ≤ n
  few_kept from [] n h = omega arith
  few_kept from (a ∷ l) n h = go (few_kept (from + 1) l) (p (f a)) n h
    where
      go :
          ((m : ℕ) → slice_get (kept (from + 1) l) m ≡ None → count_of p (map f l) ≤ m) → (b : Bool) → (n : ℕ)
          → slice_get (cond b ((from, a) ∷ kept (from + 1) l) (kept (from + 1) l)) n ≡ None → cond b (suc (count_of p (map f l))) (count_of p (map f l)) ≤ n
      go below true zero h = no_some (sym h)
      go below true (suc n) h = let few = below n h in omega arith
      go below false n h = below n h

-- an element that passes counts from its place on
pub count_within : {A : Type 0} (p : A → Bool) (l : List A) (j k : ℕ) (a : A) → j < k → slice_get l j ≡ Some a → p a ≡ true → count_of p (take j l) < count_of p (take k l)
count_within p [] j k a h at q = no_some at
count_within p (b ∷ l) j zero a h at q = absurd (omega arith)
count_within p (b ∷ l) zero (suc k) a h at q =
    let same : b ≡ a = cc in
    let c = cond-true (p b) (suc (count_of p (take k l))) (count_of p (take k l)) (ap p same ∙ q) in
    omega arith
count_within p (b ∷ l) (suc j) (suc k) a h at q = go (p b) (count_within p l j k a (omega arith) at q)
  where
    go : (t : Bool) → count_of p (take j l) < count_of p (take k l) → cond t (suc (count_of p (take j l))) (count_of p (take j l)) < cond t (suc (count_of p (take k l))) (count_of p (take k l))
    go true h = omega arith
    go false h = omega arith

-- no place among those that do not come after the 33rd witness is that of a 33rd
module _ (l : List Axiom) where
  not_here : (k : ℕ) → ((a : Axiom) → slice_get l k ≡ Some a → has_form 8 a ≡ true → count_of (has_form 8) (take k l) ≡ 32 → ⊥) → too_many l k ≡ false
  not_here k out = go (slice_get l k) out (cases_Bool (eqb (count_of (has_form 8) (take k l)) 32))
    where
      go : (o : Option Axiom) → ((a : Axiom) → o ≡ Some a → has_form 8 a ≡ true → count_of (has_form 8) (take k l) ≡ 32 → ⊥) → (eqb (count_of (has_form 8) (take k l)) 32 ≡ true) ⊎ (eqb (count_of (has_form 8) (take k l)) 32 ≡ false) → (passes (has_form 8) o && eqb (count_of (has_form 8) (take k l)) 32) ≡ false
      go None out d = refl
      go (Some a) out (inl e) = ⊎_elim (λ q. absurd (out a refl q (eqb-true _ 32 e))) (λ q. ap (λ b. b && eqb (count_of (has_form 8) (take k l)) 32) q) (cases_Bool (has_form 8 a))
      go (Some a) out (inr e) = ⊎_elim (λ q. ap (λ b. b && eqb (count_of (has_form 8) (take k l)) 32) q ∙ e) (λ q. ap (λ b. b && eqb (count_of (has_form 8) (take k l)) 32) q) (cases_Bool (has_form 8 a))

  pub none_yet : (j k : ℕ) → j < k → count_of (has_form 8) (take k l) ≤ 32 → too_many l j ≡ false
  none_yet j k h few = not_here j (λ a at q count. let more = count_within (has_form 8) l j k a h at q in omega arith)

-- the first axiom at which a test passes
module _ {A : Type 0} (xs : List A) (test : ℕ → Bool) (made : ℕ → Refusal) (passing : A → Bool) (at : (k : ℕ) (x : A) → slice_get xs k ≡ Some x → test k ≡ passing x) where
  none_before : (n : ℕ) → n ≤ length xs → AllWithin (λ x. passing x ≡ false) xs 0 n → (j : ℕ) → j < n → test j ≡ false
  none_before n few none j h =
      let (x, is) = nth_some xs j (omega arith) in
      at j x is ∙ ap passing (sym (get_or_from_slice_get xs j x x is)) ∙ none j x (omega arith) h

  pub at_first :
      (r : Option ℕ) → MatchOption r (AllWithin (λ x. passing x ≡ false) xs 0 (length xs)) (λ i. (i < length xs) × HoldsAt (λ x. passing x ≡ true) xs i × AllWithin (λ x. passing x ≡ false) xs 0 i)
      → MatchOption r (FirstPlace test made (length xs) (Ok tt)) (λ i. FirstPlace test made (length xs) (Err (made i)))
  at_first None none = none_before (length xs) (omega arith) none
  at_first (Some i) (h, here, none) =
      let (x, is) = nth_some xs i h in
      (i, h, at i x is ∙ ap passing (sym (get_or_from_slice_get xs i x x is)) ∙ here x, refl, none_before i (omega arith) none)

-- the 33rd witness, by its place among the axioms
module _ (xs : List stated.Axiom) where
  pub witness_place : (e : ℕ × stated.Axiom) → slice_get (kept axiom_in (has_form 8) 0 xs) 32 ≡ Some e → FirstPlace (too_many (map axiom_in xs)) TooManyWitnesses (length xs) (Err (TooManyWitnesses e.0))
  witness_place e h =
      let (j, at, is, q, count) = found_at axiom_in (has_form 8) 0 xs 32 e h in
      let l = map axiom_in xs in
      let here = nth_map axiom_in xs j e.1 is in
      (j, slice_get_within xs j e.1 is, and_from _ _ (ap (passes (has_form 8)) here ∙ q) (eq-eqb _ 32 count), ap TooManyWitnesses (at ∙ zero-add j), λ i h. none_yet (map axiom_in xs) i j h (omega arith))

  pub no_witness_place : slice_get (kept axiom_in (has_form 8) 0 xs) 32 ≡ None → FirstPlace (too_many (map axiom_in xs)) TooManyWitnesses (length xs) (Ok tt)
  no_witness_place h k low = none_yet (map axiom_in xs) k (length xs) low (subst (λ l. count_of (has_form 8) l ≤ 32) (sym (take_all (length xs) (map axiom_in xs) (omega (arith, length-map xs axiom_in)))) (few_kept axiom_in (has_form 8) 0 xs 32 h))

-- of the numbers below n, all pass that they are
pub count_below : (p : ℕ → Bool) (n : ℕ) → count_of (λ k. ltb k n && p k) (up_from 0 n) ≡ count_of p (up_from 0 n)
count_below p n = go 0 n (omega arith)
  where
    go : (from m : ℕ) → from + m ≡ n → count_of (λ k. ltb k n && p k) (up_from from m) ≡ count_of p (up_from from m)
    go from zero h = refl
    go from (suc m) h =
        let below : ltb from n ≡ true = grind (arith, nat_tests) in
        ap (λ b. cond (b && p from) (suc (count_of (λ k. ltb k n && p k) (up_from (suc from) m))) (count_of (λ k. ltb k n && p k) (up_from (suc from) m))) below
        ∙ ap (λ c. cond (p from) (suc c) c) (go (suc from) m (omega arith))
