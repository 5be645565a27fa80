-- The stages of checking, put together.
use Rattle.std.proofs.Common.{◌≡◌, ℕ, zero, suc, ◌+◌, ◌*◌, ◌<◌, Bool, true, false, cond, List, [], ◌∷◌, ◌++◌, map, get_or, drop, Some, None, Ok, Err, Option, sym, refl, ap, ◌∙◌, le_of_suc-le-suc, add-zero, add-suc, suc-add, zero-add, arith, get_or-drop, drop-drop}
use Rattle.std.proofs.lemmas.Bool.{cond-true, cond-false}
use Rattle.theory.specs.Lists.{up_from, each}
use Rattle.theory.specs.Table.{line}
use Rattle.layout.specs.declared.refusal.Refusal.{Refusal}
use Rattle.layout.specs.Words.{word_at, axioms_in, record_at, line_at, lines_to}
use Rattle.layout.specs.Checking.{first}
use Rattle.table.specs.Stages.{line_from, line_no, lines_no, FirstPlace}

-- the first, or else the second
abbrev pub or_else : Option Refusal → Option Refusal → Option Refusal
or_else None o = o
or_else (Some f) o = Some f

module _ (p : Refusal → Bool) where
  pub first_append : (l k : List Refusal) → first p (l ++ k) ≡ or_else (first p l) (first p k)
  first_append [] k = refl
  first_append (f ∷ l) k = go (p f) (first_append l k)
    where
      go : (b : Bool) → first p (l ++ k) ≡ or_else (first p l) (first p k) → cond b (Some f) (first p (l ++ k)) ≡ or_else (cond b (Some f) (first p l)) (first p k)
      go true e = refl
      go false e = e

  pub passed : (l k : List Refusal) → first p l ≡ None → first p (l ++ k) ≡ first p k
  passed l k e = first_append l k ∙ ap (λ o. or_else o (first p k)) e

  pub found : (l k : List Refusal) (f : Refusal) → first p l ≡ Some f → first p (l ++ k) ≡ Some f
  found l k f e = first_append l k ∙ ap (λ o. or_else o (first p k)) e

  module _ (g : ℕ → List Refusal) where
    pub each_none : (from n : ℕ) → ((k : ℕ) → k < n → first p (g (from + k)) ≡ None) → first p (each g (up_from from n)) ≡ None
    each_none from zero h = refl
    each_none from (suc n) h =
        passed (g from) (each g (up_from (suc from) n)) (ap (λ k. first p (g k)) (sym (add-zero from)) ∙ h 0 (omega arith))
        ∙ each_none (suc from) n (λ k l. ap (λ j. first p (g j)) (suc-add from k ∙ sym (add-suc from k)) ∙ h (suc k) (omega arith))

    pub each_some :
        (from n k : ℕ) (f : Refusal) → k < n → first p (g (from + k)) ≡ Some f → ((j : ℕ) → j < k → first p (g (from + j)) ≡ None) → first p (each g (up_from from n)) ≡ Some f
    each_some from zero k f h e before = absurd (omega arith)
    each_some from (suc n) zero f h e before = found (g from) (each g (up_from (suc from) n)) f (ap (λ k. first p (g k)) (sym (add-zero from)) ∙ e)
    each_some from (suc n) (suc k) f h e before =
        passed (g from) (each g (up_from (suc from) n)) (ap (λ k. first p (g k)) (sym (add-zero from)) ∙ before 0 (omega arith))
        ∙ each_some (suc from) n k f (le_of_suc-le-suc h) (ap (λ j. first p (g j)) (suc-add from k ∙ sym (add-suc from k)) ∙ e)
        (λ j l. ap (λ i. first p (g i)) (suc-add from j ∙ sym (add-suc from j)) ∙ before (suc j) (omega arith))

each_one : (made : ℕ → Refusal) (ks : List ℕ) → map made ks ≡ each (λ k. made k ∷ []) ks
each_one made [] = refl
each_one made (k ∷ ks) = ap (λ l. made k ∷ l) (each_one made ks)

-- the first place as the first refusal
module _ (p : Refusal → Bool) (made : ℕ → Refusal) (test : ℕ → Bool) (is : (k : ℕ) → p (made k) ≡ test k) (n : ℕ) where
  one_none : (k : ℕ) → test k ≡ false → first p (made (0 + k) ∷ []) ≡ None
  one_none k e = cond-false (p (made (0 + k))) _ None (ap (λ j. p (made j)) (zero-add k) ∙ is k ∙ e)

  pub place_none : (r : Unit {0}) → FirstPlace test made n (Ok r) → first p (map made (up_from 0 n)) ≡ None
  place_none r h = ap (first p) (each_one made (up_from 0 n)) ∙ each_none p (λ k. made k ∷ []) 0 n (λ k l. one_none k (h k l))

  pub place_some : (f : Refusal) → FirstPlace test made n (Err f) → first p (map made (up_from 0 n)) ≡ Some f
  place_some f (k, l, e, q, before) =
      ap (first p) (each_one made (up_from 0 n))
      ∙ each_some p (λ k. made k ∷ []) 0 n k f l (cond-true (p (made (0 + k))) _ None (ap (λ j. p (made j)) (zero-add k) ∙ is k ∙ e) ∙ ap (λ j. Some (made j)) (zero-add k) ∙ ap Some (sym q))
      (λ j h. one_none j (before j h))

-- words after some that are dropped
word_drop : (bs : List ℕ) (m i : ℕ) → word_at (drop (2 * m) bs) i ≡ word_at bs (m + i)
word_drop bs m i =
    let low : 2 * m + 2 * i ≡ 2 * (m + i) = omega arith in
    let high : 2 * m + (2 * i + 1) ≡ 2 * (m + i) + 1 = omega arith in
    ap (λ x. x + 256 * get_or (drop (2 * m) bs) (2 * i + 1) 0) (get_or-drop (2 * m) bs (2 * i) 0 ∙ ap (λ j. get_or bs j 0) low)
    ∙ ap (λ x. get_or bs (2 * (m + i)) 0 + 256 * x) (get_or-drop (2 * m) bs (2 * i + 1) 0 ∙ ap (λ j. get_or bs j 0) high)

pub line_at_reads : (bs : List ℕ) (k : ℕ) → line_no (drop 8 bs) (axioms_in bs) k ≡ line_at bs k
line_at_reads bs k =
    let n = axioms_in bs in
    let forms : drop (2 * k) (drop 8 bs) ≡ drop (2 * (4 + k)) bs = drop-drop (2 * k) 8 bs ∙ ap (λ j. drop j bs) (omega arith) in
    let records : drop (2 * n + 8 * k) (drop 8 bs) ≡ drop (2 * record_at bs k) bs = drop-drop (2 * n + 8 * k) 8 bs ∙ ap (λ j. drop j bs) (omega arith) in
    ap (λ x. line_from (word_at x 0) (drop (2 * n + 8 * k) (drop 8 bs))) forms
    ∙ ap (λ x. line_from (word_at (drop (2 * (4 + k)) bs) 0) x) records
    ∙ together (word_drop bs (4 + k) 0 ∙ ap (word_at bs) (add-zero (4 + k))) (word_drop bs (record_at bs k) 0 ∙ ap (word_at bs) (add-zero (record_at bs k))) (word_drop bs (record_at bs k) 1) (word_drop bs (record_at bs k) 2) (word_drop bs (record_at bs k) 3)
  where
    together : {f g p q r s p' q' r' s' : ℕ} → f ≡ g → p ≡ p' → q ≡ q' → r ≡ r' → s ≡ s' → line f p q r s ≡ line g p' q' r' s'
    together a b c d e = cc

pub lines_at : (bs : List ℕ) (k : ℕ) → lines_no (drop 8 bs) (axioms_in bs) k ≡ lines_to bs k
lines_at bs k = go (up_from 0 k)
  where
    go : (ks : List ℕ) → map (line_no (drop 8 bs) (axioms_in bs)) ks ≡ map (line_at bs) ks
    go [] = refl
    go (j ∷ ks) = let a = line_at_reads bs j in let b = go ks in cc
