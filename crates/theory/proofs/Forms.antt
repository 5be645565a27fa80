-- What is known of an axiom's form: the only places that go through all twelve.
use Rattle.std.proofs.Common.{◌≡◌, ℕ, ◌<◌, true, not, ◌&&◌, ◌||◌, eqb, ltb, ◌⊎◌, Some, refl, ap, inl, inr, arith, ltb-true}
use mathlib.Core.List.Memᴰ
use Rattle.std.proofs.lemmas.Bool.{both_ways, and_parts}
use Rattle.theory.specs.Lists.{◌∈◌, any_of}
use Rattle.theory.specs.Table.{Axiom, Table, sub_role, sub_inverse, transitive, conjunction, nominal, filler, at_most_one, exists, range, has_value, open_concept, open_role, line_of, has_form, axiom_of}
use Rattle.theory.specs.Roles.{Expression, plain, inverse, name_of, within, inclusions, included, spoils, endangers, has_unsafe}
use Rattle.theory.specs.WellFormed.{declares}

-- a line says the axiom whose line it is
pub axiom_of-line_of : (a : Axiom) → axiom_of (line_of a) ≡ Some a
axiom_of-line_of (sub_role p q) = refl
axiom_of-line_of (sub_inverse p q) = refl
axiom_of-line_of (transitive p) = refl
axiom_of-line_of (conjunction p q r s) = refl
axiom_of-line_of (nominal p q) = refl
axiom_of-line_of (filler p q r) = refl
axiom_of-line_of (at_most_one p q r) = refl
axiom_of-line_of (exists p q r) = refl
axiom_of-line_of (range p q) = refl
axiom_of-line_of (has_value p q r) = refl
axiom_of-line_of (open_concept p) = refl
axiom_of-line_of (open_role p) = refl

pub same_axiom : (a b : Axiom) → line_of a ≡ line_of b → a ≡ b
same_axiom a b e = let u = axiom_of-line_of a in let v = axiom_of-line_of b in let w = ap axiom_of e in cc

declared_both : (n : ℕ) (e f u v : Expression) → (ltb (name_of u) n && ltb (name_of v) n) ≡ true → within e f ≡ within u v → (name_of e < n) × (name_of f < n)
declared_both n e f u v d h =
    let first : e ≡ u = cc in
    let second : f ≡ v = cc in
    let (x, y) = and_parts (ltb (name_of u) n) (ltb (name_of v) n) d in
    let i = ap name_of first in
    let j = ap name_of second in
    (omega (arith, ltb-true), omega (arith, ltb-true))

-- the roles of an inclusion are those of its axiom
pub inclusion_names : (t : Table) (a : Axiom) (e f : Expression) → declares t a ≡ true → within e f ∈ inclusions a → (name_of e < t.roles) × (name_of f < t.roles)
inclusion_names t (sub_role p q) e f d (Memᴰ.head h) = declared_both t.roles e f _ _ d h
inclusion_names t (sub_role p q) e f d (Memᴰ.tail (Memᴰ.head h)) = declared_both t.roles e f _ _ d h
inclusion_names t (sub_role p q) e f d (Memᴰ.tail (Memᴰ.tail m)) = elim m [ ]
inclusion_names t (sub_inverse p q) e f d (Memᴰ.head h) = declared_both t.roles e f _ _ d h
inclusion_names t (sub_inverse p q) e f d (Memᴰ.tail (Memᴰ.head h)) = declared_both t.roles e f _ _ d h
inclusion_names t (sub_inverse p q) e f d (Memᴰ.tail (Memᴰ.tail m)) = elim m [ ]
inclusion_names t (transitive p) e f d m = elim m [ ]
inclusion_names t (conjunction p q r s) e f d m = elim m [ ]
inclusion_names t (nominal p q) e f d m = elim m [ ]
inclusion_names t (filler p q r) e f d m = elim m [ ]
inclusion_names t (at_most_one p q r) e f d m = elim m [ ]
inclusion_names t (exists p q r) e f d m = elim m [ ]
inclusion_names t (range p q) e f d m = elim m [ ]
inclusion_names t (has_value p q r) e f d m = elim m [ ]
inclusion_names t (open_concept p) e f d m = elim m [ ]
inclusion_names t (open_role p) e f d m = elim m [ ]

-- the axioms that the tests pass
pub spoils_is : (t : Table) (s : ℕ) (a : Axiom) → spoils t s a ≡ true → (p : ℕ) × (a ≡ transitive p) × ((included t (plain p) (plain s) || included t (inverse p) (plain s)) ≡ true)
spoils_is t s (sub_role p q) e = absurd (both_ways _ refl e)
spoils_is t s (sub_inverse p q) e = absurd (both_ways _ refl e)
spoils_is t s (transitive p) e = (p, refl, e)
spoils_is t s (conjunction p q r c) e = absurd (both_ways _ refl e)
spoils_is t s (nominal p q) e = absurd (both_ways _ refl e)
spoils_is t s (filler p q r) e = absurd (both_ways _ refl e)
spoils_is t s (at_most_one p q r) e = absurd (both_ways _ refl e)
spoils_is t s (exists p q r) e = absurd (both_ways _ refl e)
spoils_is t s (range p q) e = absurd (both_ways _ refl e)
spoils_is t s (has_value p q r) e = absurd (both_ways _ refl e)
spoils_is t s (open_concept p) e = absurd (both_ways _ refl e)
spoils_is t s (open_role p) e = absurd (both_ways _ refl e)

abbrev pub Endangers : Table → ℕ → Axiom → Type 0
Endangers t r a =
    ((p s c : ℕ) × (a ≡ at_most_one p s c) × ((included t (plain r) (plain s) || included t (plain r) (inverse s)) ≡ true))
    ⊎ ((s q c : ℕ) × (a ≡ filler s q c) × ((not (eqb q 0) && included t (plain r) (inverse s)) ≡ true))

pub endangers_is : (t : Table) (r : ℕ) (a : Axiom) → endangers t r a ≡ true → Endangers t r a
endangers_is t r (sub_role p q) e = absurd (both_ways _ refl e)
endangers_is t r (sub_inverse p q) e = absurd (both_ways _ refl e)
endangers_is t r (transitive p) e = absurd (both_ways _ refl e)
endangers_is t r (conjunction p q c s) e = absurd (both_ways _ refl e)
endangers_is t r (nominal p q) e = absurd (both_ways _ refl e)
endangers_is t r (filler s q c) e = inr (s, q, c, refl, e)
endangers_is t r (at_most_one p s c) e = inl (p, s, c, refl, e)
endangers_is t r (exists p q c) e = absurd (both_ways _ refl e)
endangers_is t r (range p q) e = absurd (both_ways _ refl e)
endangers_is t r (has_value p q c) e = absurd (both_ways _ refl e)
endangers_is t r (open_concept p) e = absurd (both_ways _ refl e)
endangers_is t r (open_role p) e = absurd (both_ways _ refl e)

pub has_unsafe_is : (t : Table) (a : Axiom) → has_unsafe t a ≡ true → (p r c : ℕ) × (a ≡ exists p r c) × (any_of (endangers t r) t.axioms ≡ true)
has_unsafe_is t (sub_role p q) e = absurd (both_ways _ refl e)
has_unsafe_is t (sub_inverse p q) e = absurd (both_ways _ refl e)
has_unsafe_is t (transitive p) e = absurd (both_ways _ refl e)
has_unsafe_is t (conjunction p q r s) e = absurd (both_ways _ refl e)
has_unsafe_is t (nominal p q) e = absurd (both_ways _ refl e)
has_unsafe_is t (filler p q r) e = absurd (both_ways _ refl e)
has_unsafe_is t (at_most_one p q r) e = absurd (both_ways _ refl e)
has_unsafe_is t (exists p q r) e = (p, q, r, refl, e)
has_unsafe_is t (range p q) e = absurd (both_ways _ refl e)
has_unsafe_is t (has_value p q r) e = absurd (both_ways _ refl e)
has_unsafe_is t (open_concept p) e = absurd (both_ways _ refl e)
has_unsafe_is t (open_role p) e = absurd (both_ways _ refl e)

pub seventh_is : (a : Axiom) → has_form 7 a ≡ true → (p q r : ℕ) × (a ≡ at_most_one p q r)
seventh_is (sub_role p q) e = absurd (both_ways _ refl e)
seventh_is (sub_inverse p q) e = absurd (both_ways _ refl e)
seventh_is (transitive p) e = absurd (both_ways _ refl e)
seventh_is (conjunction p q r s) e = absurd (both_ways _ refl e)
seventh_is (nominal p q) e = absurd (both_ways _ refl e)
seventh_is (filler p q r) e = absurd (both_ways _ refl e)
seventh_is (at_most_one p q r) e = (p, q, r, refl)
seventh_is (exists p q r) e = absurd (both_ways _ refl e)
seventh_is (range p q) e = absurd (both_ways _ refl e)
seventh_is (has_value p q r) e = absurd (both_ways _ refl e)
seventh_is (open_concept p) e = absurd (both_ways _ refl e)
seventh_is (open_role p) e = absurd (both_ways _ refl e)
