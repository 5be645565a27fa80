-- What a test of each node in turn decides.
use Rattle.std.proofs.Common.{◌≡◌, ℕ, ◌<◌, Bool, true, false, Decides, List, length, get_or, refl, sym, subst, arith}
use Rattle.std.proofs.lemmas.Bool.{false≢true}
use Rattle.std.proofs.lemmas.Bool.Decides.{Decides-like}
use Rattle.std.proofs.lemmas.Iterator.{YieldsList-from_range, cases_from_any}
use Rattle.std.proofs.lemmas.List.FromFn.{length-range_with_len, get_or-range_with_len}
use Rattle.std.proofs.iter.Yields.{nat_range_steps}
use Rattle.std.specs.Bool.{MatchBool}
use Rattle.std.specs.Fn.{Called}
use Rattle.std.specs.Iterator.{YieldsThen}
use Rattle.std.specs.List.{range_with_len, FoldsTo, AllWithin, HoldsAt}
use Rattle.std.specs.Option.{MatchOption}
use Rattle.std.specs.declared.option.Option.{Option}
use Rattle.std.specs.declared.ops.Range.{Range}
use denote.Param.Members.{Mut}
use Rattle.graph.specs.Digraph.{Digraph, Leads}
use Rattle.shapes.specs.Views.{undirected, without}
use Rattle.shapes.specs.Cycles.{Turns, DirectedCycle, UndirectedCycle, Rejoined}
use Rattle.shapes.proofs.Rings.{cycle_joined, joined_cycle}
use Rattle.shapes.proofs.Forests.{undirected_differ}

at : (n k : ℕ) → k < n → get_or (range_with_len 0 n) k 0 ≡ k
at n k h = let e = get_or-range_with_len 0 n k 0 h in omega arith

some_node :
    (P : ℕ → Type 0) (n : ℕ) (r : Bool)
    → MatchBool r ((k : ℕ) × (k < length (range_with_len 0 n)) × HoldsAt P (range_with_len 0 n) k) (AllWithin (λ x. P x → ⊥) (range_with_len 0 n) 0 (length (range_with_len 0 n)))
    → Decides r ((k : ℕ) × (k < n) × P k)
some_node P n true (k, h, p) =
    let long = length-range_with_len 0 n in
    (λ _. (k, omega arith, subst P (at n k (omega arith)) (p 0)), λ _. refl)
some_node P n false none =
    let long = length-range_with_len 0 n in
    (λ e. absurd (false≢true e), λ (k, h, p). absurd (none k 0 (omega arith) (omega arith) (subst P (sym (at n k h)) p)))

-- the closure decides P, and its calls leave it as it was
pub any_node :
    {F : Type 0} {g : Mut F (ℕ × Unit {0}) Bool} {s : Range ℕ}
    (P : ℕ → Type 0) (n m : ℕ) (u : Range ℕ) (f : F) (r : Bool)
    → (xs : List ℕ) × (o : Option ℕ) × (j : F) × YieldsThen nat_range_steps s xs o u × FoldsTo (λ p x q. Called g p (x, tt) false q) f xs j × MatchOption o (r ≡ false) (λ x. (r ≡ true) × ((h : F) × Called g j (x, tt) true h))
    → s ≡ record { start = 0; end = n }
    → n ≡ m
    → ((x : ℕ) (q : F) → Called g f (x, tt) true q → P x)
    → ((x : ℕ) (q : F) → Called g f (x, tt) false q → (q ≡ f) × (P x → ⊥))
    → Decides r ((k : ℕ) × (k < m) × P k)
any_node P n m u f r ran begins same passes fails =
    subst (λ k. Decides r ((x : ℕ) × (x < k) × P x)) same (some_node P n r (cases_from_any u f r P (λ x. P x → ⊥) ran (YieldsList-from_range 0 n n begins (omega arith)) passes fails))

module _ (g : Digraph) (r : Bool) where
  -- some node is the second of a path that leads back
  pub turns_by : (a : ℕ) → a < g.nodes → Decides r ((b : ℕ) × (b < g.nodes) × ((g.edge a b ≡ true) × Leads g b a)) → Decides r (Turns g a)
  turns_by a h d = Decides-like r (λ (b, i, (e, p)). (b, record { from = h; to = i; runs = e }, p)) (λ (b, s, p). (b, s.to, (s.runs, p))) d

  pub cycle_by : Decides r ((a : ℕ) × (a < g.nodes) × Turns g a) → Decides r (DirectedCycle g)
  cycle_by d = Decides-like r (λ (a, h, t). (a, t)) (λ (a, t). (a, t.1.from, t)) d

  -- some node is the other end of an edge that a path goes round
  pub rejoined_by :
      (a : ℕ) → a < g.nodes
      → Decides r ((b : ℕ) × (b < g.nodes) × (((undirected g).edge a b ≡ true) × Leads (without (undirected g) a b) a b))
      → Decides r (Rejoined g a)
  rejoined_by a h d = Decides-like r (λ (b, i, (e, p)). (b, record { from = h; to = i; runs = e }, p)) (λ (b, s, p). (b, s.to, (s.runs, p))) d

  pub ring_by : (DirectedCycle g → ⊥) → Decides r ((a : ℕ) × (a < g.nodes) × Rejoined g a) → Decides r (UndirectedCycle g)
  ring_by free d =
      Decides-like r (λ (a, h, (b, s, p)). joined_cycle g a b (undirected_differ g free a b s) s p)
      (λ c. let (a, j) = cycle_joined g c in (a, j.1.from, j)) d
