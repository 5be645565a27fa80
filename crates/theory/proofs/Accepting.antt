-- Whether a table is well-formed is decided by the test that computes.
use Rattle.std.proofs.Common.{◌≡◌, ℕ, ◌≤◌, true, not, ◌&&◌, leb, List, [], ◌∷◌, length, Decides, sym, refl, ap, ◌∙◌, ⊎_elim, arith}
use mathlib.Core.List.Memᴰ
use Rattle.std.proofs.lemmas.Bool.{cases_Bool, and_parts, and_from, cond-false}
use Rattle.std.proofs.lemmas.Bool.Decides.{nat_tests, Decides-eqb, Decides-and, Decides-not, Decides-like}
use Rattle.theory.specs.Lists.{◌∈◌, any_of, all_of, count_of}
use Rattle.theory.specs.Table.{Axiom, Table, Line, at_most_one, line_of, has_form, same_line}
use Rattle.theory.specs.Roles.{Simple}
use Rattle.theory.specs.WellFormed.{declares, Declared, Apart, WellFormed, sizes_fit, apart, counts_simple, well_formed}
use Rattle.theory.specs.Laws.{TestsAreTrue}
use Rattle.theory.proofs.Members.{any_of_decides, all_of_decides}
use Rattle.theory.proofs.Forms.{same_axiom, seventh_is}
use Rattle.theory.proofs.Deciding.{included_decides, simple_decides, unsafe_decides, counted_declared}

pub same_words : (k l : Line) → k.form ≡ l.form → k.p ≡ l.p → k.q ≡ l.q → k.r ≡ l.r → k.s ≡ l.s → k ≡ l
same_words k l a b c d e i = record { form = a i; p = b i; q = c i; r = d i; s = e i }

pub same_line_decides : (k l : Line) → Decides (same_line k l) (k ≡ l)
same_line_decides k l =
    Decides-like (same_line k l) (λ (a, b, c, d, e). same_words k l a b c d e) (λ h. (ap (λ (x : Line). x.form) h, ap (λ (x : Line). x.p) h, ap (λ (x : Line). x.q) h, ap (λ (x : Line). x.r) h, ap (λ (x : Line). x.s) h))
    (Decides-like (same_line k l) (λ (a, (b, (c, (d, e)))). (a, b, c, d, e)) (λ (a, b, c, d, e). (a, (b, (c, (d, e)))))
    (Decides-and _ _ (Decides-eqb k.form l.form) (Decides-and _ _ (Decides-eqb k.p l.p) (Decides-and _ _ (Decides-eqb k.q l.q) (Decides-and _ _ (Decides-eqb k.r l.r) (Decides-eqb k.s l.s))))))

same_lines : (a b : Axiom) → Decides (same_line (line_of a) (line_of b)) (a ≡ b)
same_lines a b = Decides-like _ (same_axiom a b) (ap line_of) (same_line_decides (line_of a) (line_of b))

pub stands : (a : Axiom) (l : List Axiom) → Decides (any_of (λ b. same_line (line_of a) (line_of b)) l) (a ∈ l)
stands a l =
    Decides-like _ (λ (b, m, q). Memᴰ.cast ((same_lines a b).0 q) m) (λ m. (a, m, (same_lines a a).1 refl))
    (any_of_decides (λ b. same_line (line_of a) (line_of b)) l)

apart_decides : (l : List Axiom) → Decides (apart l) (Apart l)
apart_decides [] = (λ _. tt, λ _. refl)
apart_decides (a ∷ l) = Decides-and (not (any_of (λ b. same_line (line_of a) (line_of b)) l)) (apart l) (Decides-not _ (stands a l)) (apart_decides l)

module _ (t : Table) (declared : Declared t) where
  pub counts_simple_reads : (a : Axiom) → a ∈ t.axioms → counts_simple t a ≡ true → (p q r : ℕ) → a ≡ at_most_one p q r → Simple t q
  counts_simple_reads a m e p q r is =
      (simple_decides t declared q (counted_declared t declared p q r (Memᴰ.cast (sym is) m))).0 (sym (ap (counts_simple t) is) ∙ e)

  pub simple_counts : ((p q r : ℕ) → at_most_one p q r ∈ t.axioms → Simple t q) → (a : Axiom) → a ∈ t.axioms → counts_simple t a ≡ true
  simple_counts simple a m =
      ⊎_elim
      (λ e.
      let (p, q, r, is) = seventh_is a e in
      let there = Memᴰ.cast (sym is) m in
      ap (counts_simple t) is ∙ (simple_decides t declared q (counted_declared t declared p q r there)).1 (simple p q r there))
      (λ e. cond-false (has_form 7 a) _ true e) (cases_Bool (has_form 7 a))

pub sizes_within : (c r i n : ℕ) → sizes_fit c r i n ≡ true → (2 ≤ c) × (c ≤ 32) × (r ≤ 7) × (1 ≤ i) × (i ≤ 16) × (n ≤ 64)
sizes_within c r i n e =
    let (cs, e) = and_parts (leb 2 c && leb c 32) _ e in
    let (rs, e) = and_parts (leb r 7) _ e in
    let (is, ns) = and_parts (leb 1 i && leb i 16) _ e in
    (grind (arith, nat_tests), grind (arith, nat_tests), grind (arith, nat_tests), grind (arith, nat_tests), grind (arith, nat_tests), grind (arith, nat_tests))

pub well_formed_decides : (t : Table) → Decides (well_formed t) (WellFormed t)
well_formed_decides t = (accept, accepted)
  where
    accept : well_formed t ≡ true → WellFormed t
    accept e =
        let (sizes, e) = and_parts (sizes_fit t.concepts t.roles t.individuals (length t.axioms)) _ e in
        let (known, e) = and_parts (all_of (declares t) t.axioms) _ e in
        let (once, e) = and_parts (apart t.axioms) _ e in
        let (few, simple) = and_parts (leb (count_of (has_form 8) t.axioms) 32) _ e in
        let within = sizes_within t.concepts t.roles t.individuals (length t.axioms) sizes in
        let declared : Declared t = (all_of_decides (declares t) t.axioms).0 known in
        record {
          concepts = (within.0, within.1);
          roles = within.2;
          individuals = (within.3, within.4);
          few = within.5;
          declared = declared;
          apart = (apart_decides t.axioms).0 once;
          witnesses = grind (arith, nat_tests);
          simple = λ p q r m. counts_simple_reads t declared (at_most_one p q r) m ((all_of_decides (counts_simple t) t.axioms).0 simple (at_most_one p q r) m) p q r refl;
        }

    accepted : WellFormed t → well_formed t ≡ true
    accepted w =
        and_from _ _ (sizes_fit_test w.concepts.0 w.concepts.1 w.roles w.individuals.0 w.individuals.1 w.few)
        (and_from _ _ ((all_of_decides (declares t) t.axioms).1 w.declared)
        (and_from _ _ ((apart_decides t.axioms).1 w.apart)
        (and_from _ _ (few_enough w.witnesses) ((all_of_decides (counts_simple t) t.axioms).1 (simple_counts t w.declared w.simple)))))
      where
        sizes_fit_test : 2 ≤ t.concepts → t.concepts ≤ 32 → t.roles ≤ 7 → 1 ≤ t.individuals → t.individuals ≤ 16 → length t.axioms ≤ 64 → sizes_fit t.concepts t.roles t.individuals (length t.axioms) ≡ true
        sizes_fit_test a b c d e f = grind (arith, nat_tests)

        few_enough : count_of (has_form 8) t.axioms ≤ 32 → leb (count_of (has_form 8) t.axioms) 32 ≡ true
        few_enough h = grind (arith, nat_tests)

pub tests_are_true : TestsAreTrue
tests_are_true = record { includes = included_decides; simple = simple_decides; unsafe = unsafe_decides; well_formed_decides = well_formed_decides }
