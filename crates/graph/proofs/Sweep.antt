-- What a search from a node keeps: which nodes it knows, and which of them it has followed.
use Rattle.std.proofs.Common.{◌≡◌, ℕ, zero, suc, ◌+◌, ◌<◌, ◌≤◌, ◌≢◌, ◌↔◌, ◌⊎◌, ap, List, [], ◌∷◌, length, set, replicate, inl, inr, sym, refl, ◌∙◌, subst, ⊎_elim, arith, get_or-set_other, get_or-set_same, length-set}
use Rattle.std.proofs.lemmas.Bool.{cases_eq, cases_lt}
use Rattle.std.proofs.lemmas.List.{get_or_past}
use Rattle.graph.specs.declared.reach.Visit.{Visit}
use Rattle.graph.specs.declared.reach.Visit.TheVariants.{Unseen, Seen, Followed}
use Rattle.graph.specs.Digraph.{Digraph, Step, Leads, stay, step}
use Rattle.graph.specs.Visits.{visit_at, IsKnown, Follows}
use Rattle.graph.proofs.Made.{get_or-replicate_same}
use Rattle.graph.proofs.Walks.{join, one}

-- how many nodes are not followed
abbrev pub left : Visit → ℕ
left Followed = 0
left Seen = 1
left Unseen = 1

abbrev pub spare : List Visit → ℕ
spare [] = 0
spare (v ∷ l) = left v + spare l

left_less : (v w : Visit) → (v ≡ Followed → w ≡ Followed) → left w ≤ left v
left_less Followed w h = let e = ap left (h refl) in omega arith
left_less Seen Followed h = omega arith
left_less Seen Seen h = omega arith
left_less Seen Unseen h = omega arith
left_less Unseen Followed h = omega arith
left_less Unseen Seen h = omega arith
left_less Unseen Unseen h = omega arith

-- those that are followed stay so
abbrev Stays : List Visit → List Visit → Type 0
Stays old new = (k : ℕ) → visit_at old k ≡ Followed → visit_at new k ≡ Followed

spare_most : (old new : List Visit) → length old ≡ length new → Stays old new → spare new ≤ spare old
spare_most [] [] e h = omega arith
spare_most [] (w ∷ ws) e h = absurd (omega arith)
spare_most (v ∷ vs) [] e h = absurd (omega arith)
spare_most (v ∷ vs) (w ∷ ws) e h = omega (arith, left_less v w (h 0), spare_most vs ws (omega arith) (λ k. h (suc k)))

-- one more is followed
pub spare_less : (old new : List Visit) → length old ≡ length new → Stays old new → (x : ℕ) → visit_at old x ≡ Seen → visit_at new x ≡ Followed → spare new < spare old
spare_less [] new e h x was now = absurd (cc)
spare_less (v ∷ vs) [] e h x was now = absurd (omega arith)
spare_less (v ∷ vs) (w ∷ ws) e h zero was now = omega (arith, ap left was, ap left now, spare_most vs ws (omega arith) (λ k. h (suc k)))
spare_less (v ∷ vs) (w ∷ ws) e h (suc x) was now = omega (arith, left_less v w (h 0), spare_less vs ws (omega arith) (λ k. h (suc k)) x was now)

pub record Swept (g : Digraph) (a : ℕ) (visits : List Visit) : Type 0 where
  pub long : length visits ≡ 48
  pub start : IsKnown (visit_at visits a)
  pub sound : (k : ℕ) → IsKnown (visit_at visits k) → (k < g.nodes) × Leads g a k
  pub closed : (x y : ℕ) → Step g x y → visit_at visits x ≡ Followed → IsKnown (visit_at visits y)

-- the search begins: one node is known
pub swept_none : (g : Digraph) (a : ℕ) → a < 48 → a < g.nodes → Swept g a (set (replicate 48 Unseen) a Seen)
swept_none g a h i =
    let same = get_or-set_same (replicate 48 Unseen) a Seen Unseen h in
    let other : (k : ℕ) → k ≢ a → visit_at (set (replicate 48 Unseen) a Seen) k ≡ Unseen = λ k ne. get_or-set_other (replicate 48 Unseen) a k Seen Unseen ne ∙ get_or-replicate_same 48 k Unseen in
    record {
      long = length-set (replicate 48 Unseen) a Seen;
      start = λ q. cc;
      sound = λ k e. ⊎_elim (λ q. (omega arith, subst (λ x. Leads g a x) (sym q) stay)) (λ ne. absurd (e (other k ne))) (cases_eq k a);
      closed = λ x y s e. ⊎_elim (λ (q : x ≡ a). absurd (cc)) (λ ne. let o = other x ne in absurd (cc)) (cases_eq x a);
    }

-- one node is followed
module _ (g : Digraph) (a x : ℕ) (old new : List Visit) (s : Swept g a old) (few : g.nodes ≤ 48) (was : visit_at old x ≡ Seen) (f : (y : ℕ) → y < 48 → Follows g x y (visit_at old y) (visit_at new y)) where
  was_known : IsKnown (visit_at old x)
  was_known q = cc

  pub swept_more : length new ≡ 48 → Swept g a new
  swept_more long = record {
    long = long;
    start = (f a (omega (arith, (s.sound a s.start).0))).known.1 (inr (inl s.start));
    sound = λ k e. ⊎_elim (λ h. reached k ((f k h).known.0 e)) (λ far. absurd (e (get_or_past new k Unseen (omega arith)))) (cases_lt k 48);
    closed = λ u v t e. (f v (omega (arith, t.to))).known.1 (along u v t ((f u (omega (arith, t.from))).followed.0 e));
  }
    where
      reached : (k : ℕ) → (k ≡ x) ⊎ (IsKnown (visit_at old k) ⊎ Step g x k) → (k < g.nodes) × Leads g a k
      reached k (inl e) = subst (λ j. (j < g.nodes) × Leads g a j) (sym e) (s.sound x was_known)
      reached k (inr (inl e)) = s.sound k e
      reached k (inr (inr t)) = (t.to, join (s.sound x was_known).1 (one t))

      along : (u v : ℕ) → Step g u v → (u ≡ x) ⊎ (visit_at old u ≡ Followed) → (v ≡ x) ⊎ (IsKnown (visit_at old v) ⊎ Step g x v)
      along u v t (inl e) = inr (inr (subst (λ w. Step g w v) e t))
      along u v t (inr e) = inr (inl (s.closed u v t e))

  pub spare_more : length new ≡ 48 → x < 48 → spare new < spare old
  spare_more long h =
      let same = s.long in
      spare_less old new (omega arith)
      (λ k e. ⊎_elim (λ i. (f k i).followed.1 (inr e)) (λ far. let q = get_or_past old k Unseen (omega arith) in absurd (cc)) (cases_lt k 48))
      x was ((f x h).followed.1 (inl refl))

-- all that is known is followed: every path stays in what is known
module _ (g : Digraph) (a : ℕ) (visits : List Visit) (s : Swept g a visits) (quiet : (k : ℕ) → k < g.nodes → visit_at visits k ≡ Seen → ⊥) where
  settled : (v : Visit) → IsKnown v → (v ≡ Seen → ⊥) → v ≡ Followed
  settled Unseen i q = absurd (i refl)
  settled Seen i q = absurd (q refl)
  settled Followed i q = refl

  stays_known : {x b : ℕ} → IsKnown (visit_at visits x) → Leads g x b → IsKnown (visit_at visits b)
  stays_known known stay = known
  stays_known {x} known (step t p) = stays_known (s.closed _ _ t (settled (visit_at visits x) known (quiet x t.from))) p

  pub swept_all : (b : ℕ) → IsKnown (visit_at visits b) ↔ Leads g a b
  swept_all b = (λ e. (s.sound b e).1, λ p. stays_known s.start p)
