-- Elements of a list by their place.
use Rattle.std.proofs.Common.{◌≡◌, ℕ, zero, suc, ◌+◌, ◌<◌, ◌≤◌, Bool, true, false, cond, ◌⊎◌, List, [], ◌∷◌, map, length, get_or, take, Some, None, sym, refl, ap, ◌∙◌, ⊎_elim, add-one, arith}
use mathlib.Core.List.Memᴰ
use Rattle.std.specs.List.{slice_get}
use Rattle.std.specs.Option.{option_map}
use Rattle.std.proofs.lemmas.Option.{slice_get-map, slice_get_within, slice_get_read, slice_get_cases}
use Rattle.std.proofs.lemmas.Bool.{cases_Bool, cond-true, cond-false}
use Rattle.theory.specs.Lists.{◌∈◌, count_of, up_from, each}
use Rattle.theory.specs.Table.{Axiom}
use Rattle.theory.specs.WellFormed.{Apart}

-- there is nothing at a place
pub no_some : {A B : Type 0} {a : A} → None ≡ Some a → B
no_some e = let z : ◌≡◌ {A = ℕ} 0 1 = cc in absurd (omega arith)

pub nth_in : {A : Type 0} (l : List A) (k : ℕ) (a : A) → slice_get l k ≡ Some a → a ∈ l
nth_in [] k a e = no_some e
nth_in (b ∷ l) zero a e = Memᴰ.head (cc)
nth_in (b ∷ l) (suc k) a e = Memᴰ.tail (nth_in l k a e)

pub in_nth : {A : Type 0} {a : A} {l : List A} → a ∈ l → (k : ℕ) × (slice_get l k ≡ Some a)
in_nth (Memᴰ.head e) = (zero, ap Some (sym e))
in_nth (Memᴰ.tail m) = let (k, e) = in_nth m in (suc k, e)

pub nth_below : {A : Type 0} (l : List A) (k : ℕ) (a : A) → slice_get l k ≡ Some a → k < length l
nth_below = slice_get_within

pub nth_some : {A : Type 0} (l : List A) (k : ℕ) → k < length l → (a : A) × (slice_get l k ≡ Some a)
nth_some l k h = ⊎_elim (λ (a, _, e, _). (a, e)) (λ (past, _). absurd (omega arith)) (slice_get_cases l k).1

pub nth_map : {A B : Type 0} (f : A → B) (l : List A) (k : ℕ) (a : A) → slice_get l k ≡ Some a → slice_get (map f l) k ≡ Some (f a)
nth_map f l k a e = slice_get-map f l k ∙ ap (option_map f) e

pub nth_mapped : {A B : Type 0} (f : A → B) (xs : List A) (i : ℕ) (x : A) → i < length xs → x ≡ get_or xs i x → slice_get (map f xs) i ≡ Some (f x)
nth_mapped f xs i x h e = nth_map f xs i x (slice_get_read xs (length xs) i x refl h e)

-- a list with these elements at these places
pub same_places : {A : Type 0} (l m : List A) → length l ≡ length m → ((k : ℕ) (a : A) → slice_get l k ≡ Some a → slice_get m k ≡ Some a) → l ≡ m
same_places [] [] n h = refl
same_places [] (b ∷ m) n h = absurd (omega arith)
same_places (a ∷ l) [] n h = absurd (omega arith)
same_places (a ∷ l) (b ∷ m) n h =
    let here = h zero a refl in
    let rest : l ≡ m = same_places l m (omega arith) (λ k. h (suc k)) in
    cc

-- the numbers from, from + 1, ..
pub length_up : (from n : ℕ) → length (up_from from n) ≡ n
length_up from zero = refl
length_up from (suc n) = ap suc (length_up (suc from) n)

pub nth_up : (from n k : ℕ) → k < n → slice_get (up_from from n) k ≡ Some (from + k)
nth_up from zero k h = absurd (omega arith)
nth_up from (suc n) zero h = ap Some (omega arith)
nth_up from (suc n) (suc k) h = nth_up (suc from) n k (omega arith) ∙ ap Some (omega arith)

pub in_up : (from n k : ℕ) → from ≤ k → k < from + n → k ∈ up_from from n
in_up from zero k l h = absurd (omega arith)
in_up from (suc n) k l h = ⊎_elim (λ e. Memᴰ.head e) (λ l. Memᴰ.tail (in_up (suc from) n k l (omega arith))) (next from k l)
  where
    next : (from k : ℕ) → from ≤ k → (k ≡ from) ⊎ (suc from ≤ k)
    next from k l = grind arith

pub up_in : (from n k : ℕ) → k ∈ up_from from n → (from ≤ k) × (k < from + n)
up_in from zero k m = elim m [ ]
up_in from (suc n) k (Memᴰ.head e) = (omega arith, omega arith)
up_in from (suc n) k (Memᴰ.tail m) = let (l, h) = up_in (suc from) n k m in (omega arith, omega arith)

pub in_each : {A B : Type 0} (f : A → List B) (l : List A) (a : A) (b : B) → a ∈ l → b ∈ f a → b ∈ each f l
in_each f [] a b m h = elim m [ ]
in_each f (c ∷ l) a b (Memᴰ.head e) h = Memᴰ.append_left (each f l) (rw e at h)
in_each f (c ∷ l) a b (Memᴰ.tail m) h = Memᴰ.append_right (f c) (in_each f l a b m h)

pub each_in : {A B : Type 0} (f : A → List B) (l : List A) (b : B) → b ∈ each f l → (a : A) × (a ∈ l) × (b ∈ f a)
each_in f [] b m = elim m [ ]
each_in f (c ∷ l) b m = ⊎_elim (λ h. (c, Memᴰ.head refl, h)) (λ m. let (a, i, h) = each_in f l b m in (a, Memᴰ.tail i, h)) (Memᴰ.append_cases (f c) m)

-- no axiom stands twice: none is at two places
pub apart_at : (l : List Axiom) (j k : ℕ) (a : Axiom) → Apart l → j < k → slice_get l j ≡ Some a → slice_get l k ≡ Some a → ⊥
apart_at [] j k a p h u v = no_some u
apart_at (b ∷ l) j zero a p h u v = omega arith
apart_at (b ∷ l) zero (suc k) a (out, p) h u v = let e : b ≡ a = cc in out (nth_in l k b (v ∙ ap Some (sym e)))
apart_at (b ∷ l) (suc j) (suc k) a (out, p) h u v = apart_at l j k a p (omega arith) u v

pub apart_from : (l : List Axiom) → ((j k : ℕ) (a : Axiom) → j < k → slice_get l j ≡ Some a → slice_get l k ≡ Some a → ⊥) → Apart l
apart_from [] never = tt
apart_from (a ∷ l) never =
    (λ m. let (k, e) = in_nth m in never zero (suc k) a (omega arith) refl e, apart_from l (λ j k b h. never (suc j) (suc k) b (omega arith)))

module _ {A : Type 0} (p : A → Bool) where
  -- an element that passes counts after those before it
  pub count_before : (l : List A) (k : ℕ) (a : A) → slice_get l k ≡ Some a → p a ≡ true → count_of p (take k l) < count_of p l
  count_before [] k a e q = no_some e
  count_before (b ∷ l) zero a e q =
      let h : b ≡ a = cc in
      let c = cond-true (p b) (suc (count_of p l)) (count_of p l) (ap p h ∙ q) in
      omega arith
  count_before (b ∷ l) (suc k) a e q = go (p b) (count_before l k a e q)
    where
      go : (t : Bool) → count_of p (take k l) < count_of p l → cond t (suc (count_of p (take k l))) (count_of p (take k l)) < cond t (suc (count_of p l)) (count_of p l)
      go true h = omega arith
      go false h = omega arith

  -- a limit that no element passes holds of all
  abbrev Stops : ℕ → List A → ℕ → Type 0
  Stops limit l c = (k : ℕ) (a : A) → slice_get l k ≡ Some a → p a ≡ true → c + count_of p (take k l) ≡ limit → ⊥

  pub count_limit : (limit : ℕ) (l : List A) (c : ℕ) → c ≤ limit → Stops limit l c → c + count_of p l ≤ limit
  count_limit limit [] c h stops = omega arith
  count_limit limit (b ∷ l) c h stops = ⊎_elim (counted (count_limit limit l (suc c))) (passed (count_limit limit l c h)) (cases_Bool (p b))
    where
      counted : (suc c ≤ limit → Stops limit l (suc c) → suc c + count_of p l ≤ limit) → p b ≡ true → c + count_of p (b ∷ l) ≤ limit
      counted below e =
          let here = stops zero b refl e in
          let rest = below (omega arith) (λ k a at q s. stops (suc k) a at q (ap (λ x. c + x) (cond-true (p b) _ _ e) ∙ omega arith)) in
          let same = cond-true (p b) (suc (count_of p l)) (count_of p l) e in
          omega arith

      passed : (Stops limit l c → c + count_of p l ≤ limit) → p b ≡ false → c + count_of p (b ∷ l) ≤ limit
      passed below e =
          let rest = below (λ k a at q s. stops (suc k) a at q (ap (λ x. c + x) (cond-false (p b) _ _ e) ∙ s)) in
          let same = cond-false (p b) (suc (count_of p l)) (count_of p l) e in
          omega arith

-- one element more is counted
pub count_more : {A : Type 0} (p : A → Bool) (l : List A) (i : ℕ) (a : A) → slice_get l i ≡ Some a → count_of p (take (i + 1) l) ≡ cond (p a) (suc (count_of p (take i l))) (count_of p (take i l))
count_more p [] i a e = let z : ◌≡◌ {A = ℕ} 0 1 = cc in absurd (omega arith)
count_more p (b ∷ l) zero a e = ap (λ c. cond (p c) 1 0) (cc)
count_more p (b ∷ l) (suc i) a e = ap (λ k. count_of p (take k (b ∷ l))) (add-one (suc i)) ∙ go (p b) (p a) _ _ (ap (λ k. count_of p (take k l)) (sym (add-one i)) ∙ count_more p l i a e)
  where
    go : (here there : Bool) (m n : ℕ) → m ≡ cond there (suc n) n → cond here (suc m) m ≡ cond there (suc (cond here (suc n) n)) (cond here (suc n) n)
    go true true m n h = ap suc h
    go true false m n h = ap suc h
    go false true m n h = h
    go false false m n h = h
