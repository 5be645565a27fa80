use Rattle.std.proofs.Common.{◌≡◌, ℕ, ◌<◌, Decides, rules, ◌≤◌, ◌⊎◌, ◌∙◌, List, length, take, sym, subst, inl, inr, ⊎_elim, arith}
use Rattle.std.proofs.lemmas.Bool.Decides.{Decides-like, Decides-eqb}
use Rattle.std.proofs.lemmas.List.{length-take, length-take-le, get_or-take}
use Rattle.graph.specs.declared.reach.Visit.{Visit}
use Rattle.graph.specs.declared.reach.Visit.TheVariants.{Unseen, Seen}
use Rattle.graph.specs.Digraph.{Leads, stay}
use Rattle.graph.specs.Visits.{visit_at, IsKnown}
use Rattle.graph.proofs.Walks.{outside}
use Rattle.graph.proofs.Sweep.{swept_none, swept_more, spare_more, swept_all}
use Rattle.graph.proofs.reach.reaches.Goals as goal

pub returns-then-a-n : goal.returns-then-a-n
returns-then-a-n g c =
    let d = g.G.Graph.digraph c.args.g.now in
    let far : (d.nodes ≤ c.args.a) ⊎ (d.nodes ≤ c.args.b) = ⊎_elim (λ h. inl (omega arith)) (λ h. inr (omega (arith, h.1))) c.then-a-n.either in
    Decides-like _ (λ e. subst (λ x. Leads d c.args.a x) e stay) (outside far) (Decides-eqb c.args.a c.args.b)

pub loop-x-init : goal.loop-x-init
loop-x-init g c = swept_none (g.G.Graph.digraph c.args.g.now) c.args.a (omega arith) (omega arith)

-- what a search among the nodes finds is one of them
found : (n x : ℕ) (visits : List Visit) → x < length (take n visits) → visit_at (take n visits) x ≡ Seen → (x < n) × (visit_at visits x ≡ Seen)
found n x visits h e =
    let below : x < n = let l = length-take n visits in omega arith in
    (below, sym (get_or-take n visits x Unseen below) ∙ e)

-- where it finds none, no node waits
none_waits : (n : ℕ) (visits : List Visit) → n ≤ length visits → ((k : ℕ) → k < length (take n visits) → visit_at (take n visits) k ≡ Seen → ⊥) → (k : ℕ) → k < n → visit_at visits k ≡ Seen → ⊥
none_waits n visits long none k h e =
    let l = length-take-le n visits long in
    none k (omega arith) (get_or-take n visits k Unseen h ∙ e)

pub loop-x-smaller : goal.loop-x-smaller
loop-x-smaller g c =
    let (below, waits) = found _ _ _ c.in-Some.ensures.0 c.in-Some.ensures.1 in
    spare_more (g.G.Graph.digraph c.args.g.now) c.args.a c.in-Some.x c.loop-x.visits c.follow.new.visits c.loop-x.invariant (omega arith) waits
    (λ y h. c.follow.ensures y) (omega arith) (omega arith)

pub loop-x-preserved : goal.loop-x-preserved
loop-x-preserved g c =
    let (below, waits) = found _ _ _ c.in-Some.ensures.0 c.in-Some.ensures.1 in
    swept_more (g.G.Graph.digraph c.args.g.now) c.args.a c.in-Some.x c.loop-x.visits c.follow.new.visits c.loop-x.invariant (omega arith) waits
    (λ y h. c.follow.ensures y) (omega arith)

pub returns : goal.returns
returns g c =
    let d = g.G.Graph.digraph c.args.g.now in
    let all = swept_all d c.args.a c.loop-x.visits c.loop-x.invariant (subst (λ n. (k : ℕ) → k < n → visit_at c.loop-x.visits k ≡ Seen → ⊥) c.nodes-n.ensures.count (none_waits c.nodes-n.result c.loop-x.visits (omega arith) c.in_default.ensures)) c.args.b in
    let known : Decides c.ne.result (IsKnown (visit_at c.loop-x.visits c.args.b)) = search rules in
    Decides-like _ all.0 all.1 known
