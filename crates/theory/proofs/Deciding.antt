-- The tests that compute tell the truth.
use Rattle.std.proofs.Common.{◌≡◌, ℕ, zero, suc, ◌+◌, ◌-◌, ◌<◌, ◌≤◌, true, not, ◌&&◌, ◌||◌, eqb, ltb, Some, None, Decides, Option, sym, refl, ap, ◌∙◌, subst, ⊎_elim, arith, ltb-true}
use mathlib.Core.List.Memᴰ
use Rattle.std.specs.List.{slice_get}
use Rattle.std.proofs.lemmas.Bool.{both_ways, cases_lt, eq-eqb, eqb-true, or_cases, or_left, or_right, and_parts, and_from, cond-true, cond-false}
use Rattle.std.proofs.lemmas.Bool.Decides.{nat_tests, Decides-eqb, Decides-and, Decides-not, Decides-like}
use Rattle.graph.specs.Digraph.{Step, Leads, stay, step}
use Rattle.graph.proofs.Computing.{some_of, reach_computes}
use Rattle.graph.specs.Reached.{reached_in, reached}
use Rattle.theory.specs.Lists.{◌∈◌, any_of}
use Rattle.theory.specs.Table.{Axiom, Table, transitive, filler, at_most_one, exists}
use Rattle.theory.specs.Roles.{Expression, plain, inverse, name_of, Inclusion, within, inclusions, Included, same, more, Simple, UnsafeRole, counted, counted_back, filled, Unsafe, same_expression, is_inclusion, node_of, expression_at, includes_by, inclusion_graph, included, spoils, is_simple, endangers, unsafe_in, is_unsafe}
use Rattle.theory.specs.WellFormed.{Declared}
use Rattle.theory.proofs.Members.{any_of_decides}
use Rattle.theory.proofs.Places.{nth_in}
use Rattle.theory.proofs.Forms.{inclusion_names, spoils_is, endangers_is, has_unsafe_is}

pub same_expression_decides : (e f : Expression) → Decides (same_expression e f) (e ≡ f)
same_expression_decides (plain p) (plain q) = Decides-like (eqb p q) (ap plain) (λ h. cc) (Decides-eqb p q)
same_expression_decides (plain p) (inverse q) = (λ h. absurd (both_ways _ refl h), λ h. cc)
same_expression_decides (inverse p) (plain q) = (λ h. absurd (both_ways _ refl h), λ h. cc)
same_expression_decides (inverse p) (inverse q) = Decides-like (eqb p q) (ap inverse) (λ h. cc) (Decides-eqb p q)

is_inclusion_decides : (e f : Expression) (i : Inclusion) → Decides (is_inclusion e f i) (i ≡ within e f)
is_inclusion_decides e f (within a b) =
    Decides-like (is_inclusion e f (within a b)) (λ (x, y). cc) (λ h. (cc, cc))
    (Decides-and (same_expression e a) (same_expression f b) (same_expression_decides e a) (same_expression_decides f b))

includes_by_decides : (e f : Expression) (a : Axiom) → Decides (includes_by e f a) (within e f ∈ inclusions a)
includes_by_decides e f a =
    Decides-like (includes_by e f a) (λ (i, m, q). Memᴰ.cast (sym ((is_inclusion_decides e f i).0 q)) m) (λ m. (within e f, m, (is_inclusion_decides e f (within e f)).1 refl))
    (any_of_decides (is_inclusion e f) (inclusions a))

module _ (t : Table) where
  pub node_below : (e : Expression) → name_of e < t.roles → node_of t e < t.roles + t.roles
  node_below (plain p) h = omega arith
  node_below (inverse p) h = omega arith

  at_node : (e : Expression) → name_of e < t.roles → expression_at t (node_of t e) ≡ e
  at_node (plain p) h = cond-true (ltb p t.roles) _ _ (grind (arith, nat_tests))
  at_node (inverse p) h = cond-false (ltb (t.roles + p) t.roles) _ _ (grind (arith, nat_tests)) ∙ ap inverse (omega arith)

module _ (t : Table) (declared : Declared t) where
  to_step : (a : Axiom) (e f : Expression) → a ∈ t.axioms → within e f ∈ inclusions a → Step (inclusion_graph t) (node_of t e) (node_of t f)
  to_step a e f m i =
      let (h, k) = inclusion_names t a e f (declared a m) i in
      record {
        from = node_below t e h;
        to = node_below t f k;
        runs = rw (at_node t e h, at_node t f k) ((any_of_decides (includes_by e f) t.axioms).1 (a, m, (includes_by_decides e f a).1 i));
      }

  to_leads : {e f : Expression} → Included t e f → Leads (inclusion_graph t) (node_of t e) (node_of t f)
  to_leads same = stay
  to_leads (more {e} {f} {g} a m i rest) = step (to_step a e f m i) (to_leads rest)

from_leads : (t : Table) {a b : ℕ} → Leads (inclusion_graph t) a b → Included t (expression_at t a) (expression_at t b)
from_leads t stay = same
from_leads t (step {a} {b} {c} s rest) =
    let (x, m, q) = (any_of_decides (includes_by (expression_at t a) (expression_at t b)) t.axioms).0 s.runs in
    more x m ((includes_by_decides (expression_at t a) (expression_at t b) x).0 q) (from_leads t rest)

module _ (t : Table) (declared : Declared t) where
  pub included_decides : (e f : Expression) → name_of e < t.roles → name_of f < t.roles → Decides (included t e f) (Included t e f)
  included_decides e f h k =
      Decides-like (included t e f)
      (λ p. subst (λ x. Included t x f) (at_node t e h) (subst (λ y. Included t (expression_at t (node_of t e)) y) (at_node t f k) (from_leads t p)))
      (to_leads t declared) (reach_computes (inclusion_graph t) (node_of t e) (node_of t f) (node_below t e h))

  pub transitive_declared : (p : ℕ) → transitive p ∈ t.axioms → p < t.roles
  transitive_declared p m = omega (arith, ltb-true p t.roles (declared (transitive p) m))

  reaches_back : (s : ℕ) → s < t.roles → (e : Expression) → Included t e (plain s) → transitive (name_of e) ∈ t.axioms → spoils t s (transitive (name_of e)) ≡ true
  reaches_back s h (plain p) i m = or_left _ _ ((included_decides (plain p) (plain s) (transitive_declared p m) h).1 i)
  reaches_back s h (inverse p) i m = or_right (included t (plain p) (plain s)) _ ((included_decides (inverse p) (plain s) (transitive_declared p m) h).1 i)

  pub simple_decides : (s : ℕ) → s < t.roles → Decides (is_simple t s) (Simple t s)
  simple_decides s h =
      Decides-like (is_simple t s) (λ none e i m. none (transitive (name_of e), m, reaches_back s h e i m)) (λ simple found. spoiled simple found)
      (Decides-not (any_of (spoils t s) t.axioms) (any_of_decides (spoils t s) t.axioms))
    where
      spoiled : Simple t s → (a : Axiom) × (a ∈ t.axioms) × (spoils t s a ≡ true) → ⊥
      spoiled simple (a, m, q) =
          let (p, e, o) = spoils_is t s a q in
          let there = Memᴰ.cast (sym e) m in
          let low = transitive_declared p there in
          ⊎_elim (λ u. simple (plain p) ((included_decides (plain p) (plain s) low h).0 u) there)
          (λ u. simple (inverse p) ((included_decides (inverse p) (plain s) low h).0 u) there)
          (or_cases (included t (plain p) (plain s)) (included t (inverse p) (plain s)) o)

  pub counted_declared : (p s c : ℕ) → at_most_one p s c ∈ t.axioms → s < t.roles
  counted_declared p s c m =
      let (_, rest) = and_parts (ltb p t.concepts) (ltb s t.roles && ltb c t.concepts) (declared (at_most_one p s c) m) in
      let (here, _) = and_parts (ltb s t.roles) (ltb c t.concepts) rest in omega (arith, ltb-true s t.roles here)

  filled_declared : (s q c : ℕ) → filler s q c ∈ t.axioms → s < t.roles
  filled_declared s q c m =
      let (here, _) = and_parts (ltb s t.roles) (ltb q t.concepts && ltb c t.concepts) (declared (filler s q c) m) in omega (arith, ltb-true s t.roles here)

  pub exists_declared : (p r c : ℕ) → exists p r c ∈ t.axioms → r < t.roles
  exists_declared p r c m =
      let (_, rest) = and_parts (ltb p t.concepts) (ltb r t.roles && ltb c t.concepts) (declared (exists p r c) m) in
      let (here, _) = and_parts (ltb r t.roles) (ltb c t.concepts) rest in omega (arith, ltb-true r t.roles here)

  endangered : (r : ℕ) → r < t.roles → (a : Axiom) → a ∈ t.axioms → endangers t r a ≡ true → UnsafeRole t r
  endangered r h a m e = ⊎_elim by_count by_filler (endangers_is t r a e)
    where
      by_count : (p s c : ℕ) × (a ≡ at_most_one p s c) × ((included t (plain r) (plain s) || included t (plain r) (inverse s)) ≡ true) → UnsafeRole t r
      by_count (p, s, c, q, o) =
          let there = Memᴰ.cast (sym q) m in
          let low = counted_declared p s c there in
          ⊎_elim (λ u. counted p s c there ((included_decides (plain r) (plain s) h low).0 u)) (λ u. counted_back p s c there ((included_decides (plain r) (inverse s) h low).0 u))
          (or_cases (included t (plain r) (plain s)) (included t (plain r) (inverse s)) o)

      by_filler : (s q c : ℕ) × (a ≡ filler s q c) × ((not (eqb q 0) && included t (plain r) (inverse s)) ≡ true) → UnsafeRole t r
      by_filler (s, q, c, k, o) =
          let there = Memᴰ.cast (sym k) m in
          let (u, v) = and_parts (not (eqb q 0)) (included t (plain r) (inverse s)) o in
          filled s q c there ((Decides-not (eqb q 0) (Decides-eqb q 0)).0 u) ((included_decides (plain r) (inverse s) h (filled_declared s q c there)).0 v)

  endangering : (r : ℕ) → r < t.roles → UnsafeRole t r → any_of (endangers t r) t.axioms ≡ true
  endangering r h (counted p s c m i) =
      (any_of_decides (endangers t r) t.axioms).1 (at_most_one p s c, m, or_left _ _ ((included_decides (plain r) (plain s) h (counted_declared p s c m)).1 i))
  endangering r h (counted_back p s c m i) =
      (any_of_decides (endangers t r) t.axioms).1
      (at_most_one p s c, m, or_right (included t (plain r) (plain s)) _ ((included_decides (plain r) (inverse s) h (counted_declared p s c m)).1 i))
  endangering r h (filled s q c m ne i) =
      (any_of_decides (endangers t r) t.axioms).1
      (filler s q c, m, and_from _ _ ((Decides-not (eqb q 0) (Decides-eqb q 0)).1 ne) ((included_decides (plain r) (inverse s) h (filled_declared s q c m)).1 i))

  pub unsafe_role_decides : (r : ℕ) → r < t.roles → Decides (any_of (endangers t r) t.axioms) (UnsafeRole t r)
  unsafe_role_decides r h = (λ e. let (a, m, q) = (any_of_decides (endangers t r) t.axioms).0 e in endangered r h a m q, endangering r h)

module _ (t : Table) (declared : Declared t) where
  to_unsafe : (k : ℕ) (o : Option Axiom) → slice_get t.axioms k ≡ o → unsafe_in t o ≡ true → Unsafe t k
  to_unsafe k None e q = absurd (both_ways _ refl q)
  to_unsafe k (Some a) e q =
      let (p, r, c, i, u) = has_unsafe_is t a q in
      let at : slice_get t.axioms k ≡ Some (exists p r c) = cc in
      (p, r, c, at, (unsafe_role_decides t declared r (exists_declared t declared p r c (nth_in t.axioms k (exists p r c) at))).0 u)

  pub unsafe_decides : (k : ℕ) → Decides (is_unsafe t k) (Unsafe t k)
  unsafe_decides k = (
    to_unsafe k (slice_get t.axioms k) refl,
    λ (p, r, c, at, u).
        ap (unsafe_in t) at ∙ (unsafe_role_decides t declared r (exists_declared t declared p r c (nth_in t.axioms k (exists p r c) at))).1 u,
  )

-- the same of any two nodes, where no axiom speaks of a number that is no node
module _ (t : Table) (declared : Declared t) where
  no_edge : (a b : ℕ) → t.roles + t.roles ≤ a → (inclusion_graph t).edge a b ≡ true → ⊥
  no_edge a b h e =
      let (x, m, q) = (any_of_decides (includes_by (expression_at t a) (expression_at t b)) t.axioms).0 e in
      let (low, _) = inclusion_names t x (expression_at t a) (expression_at t b) (declared x m) ((includes_by_decides (expression_at t a) (expression_at t b) x).0 q) in
      let at : expression_at t a ≡ inverse (a - t.roles) = cond-false (ltb a t.roles) _ _ (grind (arith, nat_tests)) in
      let name = ap name_of at in
      omega arith

  stays : (a b : ℕ) → t.roles + t.roles ≤ a → Leads (inclusion_graph t) a b → a ≡ b
  stays a b h stay = refl
  stays a b h (step s rest) = absurd (omega (arith, s.from))

  reached_same : (k a b : ℕ) → t.roles + t.roles ≤ a → reached_in (inclusion_graph t) k a b ≡ true → a ≡ b
  reached_same zero a b h e = eqb-true a b e
  reached_same (suc k) a b h e =
      ⊎_elim (λ q. eqb-true a b q)
      (λ q.
      let (y, i, r) = (some_of (λ y. (inclusion_graph t).edge a y && reached_in (inclusion_graph t) k y b) (t.roles + t.roles)).0 q in
      absurd (no_edge a y h (and_parts ((inclusion_graph t).edge a y) (reached_in (inclusion_graph t) k y b) r).0))
      (or_cases (eqb a b) _ e)

  reached_self : (k a : ℕ) → reached_in (inclusion_graph t) k a a ≡ true
  reached_self zero a = eq-eqb a a refl
  reached_self (suc k) a = or_left _ _ (eq-eqb a a refl)

  pub included_computes : (a b : ℕ) → Decides (reached (inclusion_graph t) a b) (Leads (inclusion_graph t) a b)
  included_computes a b = ⊎_elim (reach_computes (inclusion_graph t) a b) past (cases_lt a (t.roles + t.roles))
    where
      past : t.roles + t.roles ≤ a → Decides (reached (inclusion_graph t) a b) (Leads (inclusion_graph t) a b)
      past h = (
        λ e. subst (λ x. Leads (inclusion_graph t) a x) (reached_same (t.roles + t.roles) a b h e) stay,
        λ p. subst (λ x. reached (inclusion_graph t) a x ≡ true) (stays a b h p) (reached_self (t.roles + t.roles) a),
      )
