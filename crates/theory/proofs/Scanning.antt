-- What chains over a program's list answer of what its elements mean.
use Rattle.std.proofs.Common.{◌≡◌, ℕ, suc, arith, ◌+◌, Bool, cond, List, [], ◌∷◌, true, false, Option, refl, map, sym, ap, ◌∙◌}
use denote.Param.Members.{Mut}
use denote.Ref.{Bor}
use Rattle.std.specs.declared.slice.Iter.{Iter}
use Rattle.std.proofs.iter.Yields.{fronts}
use Rattle.std.specs.Fn.{Called}
use Rattle.std.specs.Iterator.{YieldsThen}
use Rattle.std.specs.Option.{MatchOption}
use Rattle.std.specs.Slice.Iter.{iter_rest}
use Rattle.std.proofs.lemmas.Iterator.{YieldsList-from_slice}
use Rattle.std.proofs.lemmas.Iterator.Search.{any_from_yields_List}
use Rattle.std.specs.List.{FoldsTo, list_any, list_all, count_by}
use Rattle.std.proofs.lemmas.List.Recursion.{is_count_by}
use Rattle.theory.specs.Lists.{any_of, all_of, count_of}

-- what a search by `any` answers, where the test reads what an element means
pub any_mapped : {A B : Type 0} (p : A → Bool) (q : B → Bool) (f : A → B) → ((a : A) → p a ≡ q (f a)) → (xs : List A) → list_any p xs ≡ any_of q (map f xs)
any_mapped p q f same [] = refl
any_mapped p q f same (a ∷ xs) = let here = same a in let rest = any_mapped p q f same xs in cc

-- the same of `all`, and of a count
pub all_mapped : {A B : Type 0} (p : A → Bool) (q : B → Bool) (f : A → B) → ((a : A) → p a ≡ q (f a)) → (xs : List A) → list_all p xs ≡ all_of q (map f xs)
all_mapped p q f same [] = refl
all_mapped p q f same (a ∷ xs) = let here = same a in let rest = all_mapped p q f same xs in cc

pub count_mapped : {A B : Type 0} (p : A → Bool) (q : B → Bool) (f : A → B) → ((a : A) → p a ≡ q (f a)) → (xs : List A) → count_by p xs ≡ count_of q (map f xs)
count_mapped p q f same xs =
    sym (is_count_by (λ xs. count_of q (map f xs)) p refl (λ x xs. step (count_of q (map f xs)) (same x)) xs)
  where
    step : {b d : Bool} (n : ℕ) → d ≡ b → cond b (suc n) n ≡ cond d (1 + n) n
    step {b} {d} n e = ap (λ c. cond c (suc n) n) (sym e) ∙ ap (λ m. cond d m n) (omega arith)

-- the same by a closure that tests what an element means
pub any_means :
    {A B F : Type 0} {g : Mut F (Bor A × Unit {0}) Bool} {s : Iter A} (q : B → Bool) (f : A → B) (xs : List A) (u : Iter A) (c : F) (r : Bool)
    → (ys : List (Bor A)) × (o : Option (Bor A)) × (j : F) × YieldsThen fronts s ys o u × FoldsTo (λ p x k. Called g p (x, tt) false k) c ys j × MatchOption o (r ≡ false) (λ x. (r ≡ true) × ((h : F) × Called g j (x, tt) true h))
    → iter_rest s ≡ xs
    → ((x : Bor A) (b : Bool) (k : F) → Called g c (x, tt) b k → (k ≡ c) × (b ≡ q (f x.now)))
    → r ≡ any_of q (map f xs)
any_means q f xs u c r ran e says = any_from_yields_List (λ a. q (f a)) u c r ran (YieldsList-from_slice xs e) says ∙ any_mapped _ q f (λ a. refl) xs
