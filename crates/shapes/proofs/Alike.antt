-- Graphs that are alike have one survey.
use Rattle.std.proofs.Common.{◌≡◌, ℕ, Bool, ◌||◌, List, sym, ◌∙◌, subst, ap₂, arith}
use Rattle.shapes.specs.declared.shape.Shape.{Shape}
use Rattle.shapes.specs.declared.shape.Shape.TheVariants.{Forest, Acyclic, Cyclic}
use Rattle.graph.specs.Digraph.{Digraph, Step, Leads, stay, step}
use Rattle.graph.proofs.Walks.{map_walk}
use Rattle.shapes.specs.Alike.{Alike}
use Rattle.shapes.specs.Views.{undirected}
use Rattle.shapes.specs.Cycles.{DirectedCycle, UndirectedCycle}
use Rattle.shapes.specs.Heights.{MarkedPath, IsHeight}
use Rattle.shapes.specs.Shapes.{Shaped, OneShape}
use Rattle.shapes.specs.Surveys.{HeightBy, OneSurvey}
use Rattle.shapes.proofs.Chains.{height_one}

-- by cases of the two shapes
shape_one : OneShape
shape_one g s t p q = grind arith

-- the other way round
back : {g h : Digraph} → Alike g h → Alike h g
back a = let e = a.nodes in record { nodes = sym e; edges = λ x y i j. sym (a.edges x y (omega arith) (omega arith)) }

-- with each edge taken both ways
undirected_alike : {g h : Digraph} → Alike g h → Alike (undirected g) (undirected h)
undirected_alike a = record { nodes = a.nodes; edges = λ x y i j. ap₂ (λ p q. p || q) (a.edges x y i j) (a.edges y x j i) }

-- an edge of one is an edge of the other
steps : {g h : Digraph} → Alike g h → (x y : ℕ) → Step g x y → Step h x y
steps a x y s =
    let e = a.nodes in
    let i = s.from in
    let j = s.to in
    record { from = omega arith; to = omega arith; runs = sym (a.edges x y i j) ∙ s.runs }

-- a path of one is a path of the other
leads : {g h : Digraph} → Alike g h → {x y : ℕ} → Leads g x y → Leads h x y
leads a stay = stay
leads a (step s p) = step (steps a _ _ s) (leads a p)

-- and so for directed cycles
cycle : {g h : Digraph} → Alike g h → DirectedCycle g → DirectedCycle h
cycle a (x, (y, s, p)) = (x, (y, steps a x y s, leads a p))

-- for undirected ones
ring : {g h : Digraph} → Alike g h → UndirectedCycle g → UndirectedCycle h
ring a r = record {
  a = r.a;
  l = r.l;
  z = r.z;
  three = r.three;
  distinct = r.distinct;
  around = map_walk (steps (undirected_alike a)) r.a r.l r.z r.around;
  home = steps (undirected_alike a) r.z r.a r.home;
}

-- so what is the shape of one is that of the other
shaped : {g h : Digraph} → Alike g h → (s : Shape) → Shaped g s → Shaped h s
shaped a Forest (f, t) = (λ c. f (cycle (back a) c), λ r. t (ring (back a) r))
shaped a Acyclic (f, r) = (λ c. f (cycle (back a) c), ring a r)
shaped a Cyclic c = cycle a c

-- a path of marked nodes of one is one of the other
path : {g h : Digraph} → Alike g h → (marked : ℕ → Bool) (x : ℕ) (l : List ℕ) → MarkedPath g marked x l → MarkedPath h marked x l
path a marked x l p = record {
  end = p.end;
  walk = map_walk (steps a) x l p.end p.walk;
  nodes = λ y m. let (i, e) = p.nodes y m in let n = a.nodes in (omega arith, e);
}

-- so what is the height of one is that of the other
height : {g h : Digraph} → Alike g h → (marked : ℕ → Bool) (k : ℕ) → IsHeight g marked k → IsHeight h marked k
height a marked k t = record {
  reached = λ i. let (x, l, p, e) = t.reached i in (x, l, path a marked x l p, e);
  most = λ x l p. t.most x l (path (back a) marked x l p);
}

-- graphs that are alike and of one shape have one height
heights : {g h : Digraph} → Alike g h → (marked : ℕ → Bool) (s : Shape) (j k : ℕ) → HeightBy s g marked j → HeightBy s h marked k → j ≡ k
heights a marked Forest j k p q = height_one _ marked j k (height a marked j p) q
heights a marked Acyclic j k p q = height_one _ marked j k (height a marked j p) q
heights a marked Cyclic j k p q = p ∙ sym q

-- one shape, and so one height
pub one_survey : OneSurvey
one_survey g h marked s t j k a (p, i) (q, l) =
    let e = shape_one h s t (shaped a s p) q in
    (e, heights a marked s j k i (subst (λ r. HeightBy r h marked k) (sym e) l))
