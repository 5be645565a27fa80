-- Role expressions, ⊑*, simple roles and unsafe axioms: as relations, and as tests that compute.
use Rattle.std.specs.Prelude.{◌≡◌, ℕ, ◌+◌, ◌-◌, Bool, false, not, ◌&&◌, ◌||◌, List, [], ◌∷◌, Some, None, Option, ◌==◌, ◌≢◌, nat_lt, if◌then◌else◌}
use Rattle.std.specs.List.{slice_get}
use Rattle.graph.specs.Digraph.{Digraph}
use Rattle.graph.specs.Reached.{reached}
use Rattle.theory.specs.Lists.{◌∈◌, any_of}
use Rattle.theory.specs.Table.{Axiom, Table, sub_role, sub_inverse, transitive, conjunction, nominal, filler, at_most_one, exists, range, has_value, open_concept, open_role}

-- A role or its inverse.
pub data Expression : Type 0 where
  plain : ℕ → Expression
  inverse : ℕ → Expression

abbrev pub name_of : Expression → ℕ
name_of (plain p) = p
name_of (inverse p) = p

-- The first expression is included in the second.
pub data Inclusion : Type 0 where
  within : Expression → Expression → Inclusion

-- What an axiom includes in what.
abbrev pub inclusions : Axiom → List Inclusion
inclusions (sub_role p q) = within (plain p) (plain q) ∷ within (inverse p) (inverse q) ∷ []
inclusions (sub_inverse p q) = within (plain p) (inverse q) ∷ within (inverse p) (plain q) ∷ []
inclusions (transitive p) = []
inclusions (conjunction p q r s) = []
inclusions (nominal p q) = []
inclusions (filler p q r) = []
inclusions (at_most_one p q r) = []
inclusions (exists p q r) = []
inclusions (range p q) = []
inclusions (has_value p q r) = []
inclusions (open_concept p) = []
inclusions (open_role p) = []

-- ⊑*: a path of zero or more inclusions.
pub data Included (t : Table) : Expression → Expression → Type 0 where
  same : {e : Expression} → Included t e e
  more : {e f g : Expression} (a : Axiom) → a ∈ t.axioms → within e f ∈ inclusions a → Included t f g → Included t e g

-- No expression that is included in s is on a transitive role.
abbrev pub Simple : Table → ℕ → Type 0
Simple t s = (e : Expression) → Included t e (plain s) → transitive (name_of e) ∈ t.axioms → ⊥

-- The role r is included, one way or the other, in a role that some concept has at most once, or its inverse is in a role whose filler counts.
pub data UnsafeRole (t : Table) (r : ℕ) : Type 0 where
  counted : (p s c : ℕ) → at_most_one p s c ∈ t.axioms → Included t (plain r) (plain s) → UnsafeRole t r
  counted_back : (p s c : ℕ) → at_most_one p s c ∈ t.axioms → Included t (plain r) (inverse s) → UnsafeRole t r
  filled : (s q c : ℕ) → filler s q c ∈ t.axioms → (q ≢ 0) → Included t (plain r) (inverse s) → UnsafeRole t r

-- Axiom k asks for a witness by an unsafe role.
abbrev pub Unsafe : Table → ℕ → Type 0
Unsafe t k = (p r c : ℕ) × (slice_get t.axioms k ≡ Some (exists p r c)) × UnsafeRole t r

-- The same by tests that compute.
abbrev pub same_expression : Expression → Expression → Bool
same_expression (plain p) (plain q) = p == q
same_expression (plain p) (inverse q) = false
same_expression (inverse p) (plain q) = false
same_expression (inverse p) (inverse q) = p == q

abbrev pub is_inclusion : Expression → Expression → Inclusion → Bool
is_inclusion e f (within a b) = same_expression e a && same_expression f b

-- an expression as a node: the roles, then their inverses
abbrev pub node_of : Table → Expression → ℕ
node_of t (plain p) = p
node_of t (inverse p) = t.roles + p

abbrev pub expression_at : Table → ℕ → Expression
expression_at t k = if nat_lt k t.roles then plain k else (inverse (k - t.roles))

abbrev pub includes_by : Expression → Expression → Axiom → Bool
includes_by e f a = any_of (is_inclusion e f) (inclusions a)

-- an edge for each inclusion of an axiom
abbrev pub inclusion_graph : Table → Digraph
inclusion_graph t = record { nodes = t.roles + t.roles; edge = λ a b. any_of (includes_by (expression_at t a) (expression_at t b)) t.axioms }

abbrev pub included : Table → Expression → Expression → Bool
included t e f = reached (inclusion_graph t) (node_of t e) (node_of t f)

-- whether the axiom makes a transitive role reach s
abbrev pub spoils : Table → ℕ → Axiom → Bool
spoils t s (sub_role p q) = false
spoils t s (sub_inverse p q) = false
spoils t s (transitive p) = included t (plain p) (plain s) || included t (inverse p) (plain s)
spoils t s (conjunction p q r c) = false
spoils t s (nominal p q) = false
spoils t s (filler p q r) = false
spoils t s (at_most_one p q r) = false
spoils t s (exists p q r) = false
spoils t s (range p q) = false
spoils t s (has_value p q r) = false
spoils t s (open_concept p) = false
spoils t s (open_role p) = false

abbrev pub is_simple : Table → ℕ → Bool
is_simple t s = not (any_of (spoils t s) t.axioms)

-- whether the axiom makes witnesses by r unsafe
abbrev pub endangers : Table → ℕ → Axiom → Bool
endangers t r (sub_role p q) = false
endangers t r (sub_inverse p q) = false
endangers t r (transitive p) = false
endangers t r (conjunction p q c s) = false
endangers t r (nominal p q) = false
endangers t r (filler s q c) = not (q == 0) && included t (plain r) (inverse s)
endangers t r (at_most_one p s c) = included t (plain r) (plain s) || included t (plain r) (inverse s)
endangers t r (exists p q c) = false
endangers t r (range p q) = false
endangers t r (has_value p q c) = false
endangers t r (open_concept p) = false
endangers t r (open_role p) = false

abbrev pub has_unsafe : Table → Axiom → Bool
has_unsafe t (sub_role p q) = false
has_unsafe t (sub_inverse p q) = false
has_unsafe t (transitive p) = false
has_unsafe t (conjunction p q r s) = false
has_unsafe t (nominal p q) = false
has_unsafe t (filler p q r) = false
has_unsafe t (at_most_one p q r) = false
has_unsafe t (exists p r c) = any_of (endangers t r) t.axioms
has_unsafe t (range p q) = false
has_unsafe t (has_value p q r) = false
has_unsafe t (open_concept p) = false
has_unsafe t (open_role p) = false

abbrev pub unsafe_in : Table → Option Axiom → Bool
unsafe_in t (Some a) = has_unsafe t a
unsafe_in t None = false

-- whether axiom k is unsafe
abbrev pub is_unsafe : Table → ℕ → Bool
is_unsafe t k = unsafe_in t (slice_get t.axioms k)
