-- The loop that reads lines, over plain lists.
use Rattle.std.proofs.Common.{◌≡◌, ℕ, zero, suc, ◌+◌, ◌-◌, ◌*◌, List, [], ◌∷◌, ◌++◌, map, length, drop, Some, Option, sym, refl, ap, ◌∙◌, append_assoc, append-nil, add-zero, add-suc, suc-add, add-one, arith, length-drop, drop-drop}
use mathlib.Core.List.{map-append}
use Rattle.theory.specs.Lists.{up_from, each}
use Rattle.theory.specs.Table.{Axiom, Table, Line, axiom_of}
use Rattle.layout.specs.declared.refusal.Refusal.{Refusal}
use Rattle.layout.specs.Limits.{line_refusal}
use Rattle.layout.specs.Words.{word_at, said}
use Rattle.table.specs.Stages.{line_from, line_no, lines_no, refusal_no, says_no}

-- what is left of a list
pub left_over : (bs rest : List ℕ) (i : ℕ) → rest ≡ drop i bs → length rest ≡ length bs - i
left_over bs rest i e = ap length e ∙ length-drop i bs

pub drop_on : (bs rest later : List ℕ) (i n j : ℕ) → rest ≡ drop i bs → later ≡ drop n rest → i + n ≡ j → later ≡ drop j bs
drop_on bs rest later i n j e l h = l ∙ ap (drop n) e ∙ drop-drop n i bs ∙ ap (λ k. drop k bs) h

pub up_last : (from n : ℕ) → up_from from (n + 1) ≡ up_from from n ++ ((from + n) ∷ [])
up_last from zero = ap (λ (k : ℕ). k ∷ []) (sym (add-zero from))
up_last from (suc n) =
    ap (λ (k : ℕ). up_from from k) (add-one (suc n)) ∙ ap (λ (l : List ℕ). from ∷ l) (sym (ap (λ (k : ℕ). up_from (suc from) k) (add-one n)) ∙ up_last (suc from) n ∙ ap (λ (k : ℕ). up_from (suc from) n ++ (k ∷ [])) (suc-add from n ∙ sym (add-suc from n)))

pub up_more : (n : ℕ) → up_from 0 (n + 1) ≡ up_from 0 n ++ (n ∷ [])
up_more n = up_last 0 n ∙ ap (λ (k : ℕ). up_from 0 n ++ (k ∷ [])) (omega arith)

pub each_append : {A B : Type 0} (f : A → List B) (l k : List A) → each f (l ++ k) ≡ each f l ++ each f k
each_append f [] k = refl
each_append f (a ∷ l) k = ap (λ r. f a ++ r) (each_append f l k) ∙ sym (append_assoc (f a) (each f l) (each f k))

-- one line more
pub mapped_more : {A : Type 0} (g : ℕ → A) (k : ℕ) → map g (up_from 0 (k + 1)) ≡ map g (up_from 0 k) ++ (g k ∷ [])
mapped_more g k = ap (map g) (up_more k) ∙ map-append g (up_from 0 k) (k ∷ [])

pub pushed_more : {A B : Type 0} (f : A → B) (xs : List A) (x : A) (zs : List A) (ys : List B) → zs ≡ xs ++ (x ∷ []) → map f xs ≡ ys → map f zs ≡ ys ++ (f x ∷ [])
pushed_more f xs x zs ys h e = ap (map f) h ∙ map-append f xs (x ∷ []) ∙ ap (λ l. l ++ (f x ∷ [])) e

pub said_more : (rest : List ℕ) (n k : ℕ) (a : Axiom) → axiom_of (line_no rest n k) ≡ Some a → says_no rest n (k + 1) ≡ says_no rest n k ++ (a ∷ [])
said_more rest n k a e =
    ap (each (λ l. said (axiom_of l))) (mapped_more (line_no rest n) k) ∙ each_append (λ l. said (axiom_of l)) (lines_no rest n k) (line_no rest n k ∷ [])
    ∙ ap (λ l. says_no rest n k ++ l) (append-nil (said (axiom_of (line_no rest n k))) ∙ ap said e)

-- the test of line k, by what the program holds
pub test_now :
    (t : Table) (rest : List ℕ) (n k : ℕ) (earlier earlier' : List Line) (l : Line) (r : Option Refusal)
    → earlier' ≡ earlier → earlier ≡ lines_no rest n k → l ≡ line_no rest n k → line_refusal t earlier' k l ≡ r → refusal_no t rest n k ≡ r
test_now t rest n k earlier earlier' l r d e f g = sym (ap (λ x. line_refusal t x k l) (d ∙ e) ∙ ap (line_refusal t (lines_no rest n k) k) f) ∙ g

pub line_now :
    (rest forms records : List ℕ) (n k f : ℕ) (l : Line)
    → forms ≡ drop (2 * k) rest → records ≡ drop (2 * n + 8 * k) rest → f ≡ word_at forms 0 → l ≡ line_from f records → l ≡ line_no rest n k
line_now rest forms records n k f l a b c d =
    d ∙ ap (λ x. line_from x records) (c ∙ ap (λ bs. word_at bs 0) a) ∙ ap (line_from (word_at (drop (2 * k) rest) 0)) b
