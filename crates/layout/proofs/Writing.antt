-- Reading and writing are inverse.
use Rattle.std.proofs.Common.{◌≡◌, ℕ, zero, suc, ◌+◌, ◌-◌, ◌*◌, ◌/◌, ◌%◌, ◌<◌, ◌≤◌, Bool, true, false, not, ◌&&◌, eqb, List, [], ◌∷◌, ◌++◌, map, length, get_or, take, Some, None, sym, refl, ap, ◌∙◌, subst, ⊎_elim, arith}
use mathlib.Core.List.Memᴰ
use Rattle.std.specs.List.{slice_get}
use Rattle.std.proofs.lemmas.List.{length-map, length-append, get_or_append_left, get_or-append-add}
use Rattle.std.proofs.lemmas.Bool.{and_parts, and_from, cases_Bool, cases_lt, not_from_true, eq-eqb, eqb-true, le-leb, le-ltb}
use Rattle.theory.specs.Lists.{any_of, count_of, up_from, each}
use Rattle.theory.specs.Table.{Axiom, Table, Line, line_of, has_form, axiom_of, same_line}
use Rattle.theory.specs.WellFormed.{WellFormed, counts_simple}
use Rattle.theory.proofs.Members.{any_of_decides}
use Rattle.theory.proofs.Places.{no_some, nth_in, nth_some, nth_map, same_places, up_in, apart_at, count_before}
use Rattle.std.proofs.lemmas.Option.{slice_get_within, get_or_from_slice_get}
use Rattle.theory.proofs.Forms.{axiom_of-line_of, same_axiom}
use Rattle.theory.proofs.Accepting.{same_words, same_line_decides, simple_counts}
use Rattle.layout.specs.declared.refusal.Refusal.{Refusal}
use Rattle.layout.specs.declared.refusal.Refusal.TheVariants.{TooShort, SizeOutOfLimits, WrongLength, UnknownForm, BadArgument, Repeated, TooManyWitnesses, NotSimple}
use Rattle.layout.specs.Forms.{fits_line}
use Rattle.layout.specs.declared.sizes.Size.{Size}
use Rattle.layout.specs.declared.sizes.Size.TheVariants.{Concepts, Roles, Individuals, Axioms}
use Rattle.layout.specs.Refusals.{word_of}
use Rattle.layout.specs.Words.{Bytes, word, word_at, axioms_in, record_at, line_at, lines_to, said, says}
use Rattle.layout.specs.Checking.{size_fits, passes, applies, order, first, accepted, outcome, checked}
use Rattle.layout.specs.Encoding.{bytes_of, record_of, words_of, encode, ReadingInvertsWriting}
use Rattle.layout.proofs.Fitting.{declared_fits, fits_has_kinds}
use Rattle.layout.proofs.Passing.{Due, none_first, order_in, length_lines, nth_line, accepted_says, accepted_none, accepted_well_formed, length-said, said_line, said_length}

-- ---- words and bytes

word_further : (a b : ℕ) (l : List ℕ) (k : ℕ) → word_at (a ∷ b ∷ l) (suc k) ≡ word_at l k
word_further a b l k =
    let low : 2 * suc k ≡ suc (suc (2 * k)) = omega arith in
    let high : 2 * suc k + 1 ≡ suc (suc (2 * k + 1)) = omega arith in
    ap (λ i. word (get_or (a ∷ b ∷ l) i 0) (get_or (a ∷ b ∷ l) (2 * suc k + 1) 0)) low ∙ ap (λ i. word (get_or l (2 * k) 0) (get_or (a ∷ b ∷ l) i 0)) high

pub word_written : (ws : List ℕ) (k : ℕ) → word_at (each bytes_of ws) k ≡ get_or ws k 0
word_written [] k = refl
word_written (w ∷ ws) zero = omega arith
word_written (w ∷ ws) (suc k) = word_further (w % 256) (w / 256) (each bytes_of ws) k ∙ word_written ws k

length_written : (ws : List ℕ) → length (each bytes_of ws) ≡ 2 * length ws
length_written [] = refl
length_written (w ∷ ws) = let h = length_written ws in omega arith

-- bytes that hold these words are those that the words are written as
bytes_written : (ws bs : List ℕ) → length bs ≡ 2 * length ws → Bytes bs → ((k : ℕ) → k < length ws → get_or ws k 0 ≡ word_at bs k) → each bytes_of ws ≡ bs
bytes_written [] [] n small h = refl
bytes_written [] (b ∷ bs) n small h = absurd (omega arith)
bytes_written (w ∷ ws) [] n small h = absurd (omega arith)
bytes_written (w ∷ ws) (b ∷ []) n small h = absurd (omega arith)
bytes_written (w ∷ ws) (b ∷ c ∷ bs) n small h =
    let here : w ≡ b + 256 * c = h zero (omega arith) in
    let below = small b (Memᴰ.head refl) in
    let low : w % 256 ≡ b = omega arith in
    let high : w / 256 ≡ c = omega arith in
    let rest =
    bytes_written ws bs (omega arith) (λ x m. small x (Memᴰ.tail (Memᴰ.tail m)))
    (λ k l. h (suc k) (omega arith) ∙ word_further b c bs k) in
    cc

-- ---- the words of a table

length_records : (l : List Axiom) → length (each record_of l) ≡ 4 * length l
length_records [] = refl
length_records (a ∷ l) = let h = length_records l in omega arith

record_at_reads : (l : List Axiom) (k : ℕ) (a : Axiom) (r : ℕ) → slice_get l k ≡ Some a → r < 4 → get_or (each record_of l) (4 * k + r) 0 ≡ get_or (record_of a) r 0
record_at_reads [] k a r e h = no_some e
record_at_reads (b ∷ l) zero a r e h =
    let same : b ≡ a = cc in
    let at : 4 * 0 + r ≡ r = omega arith in
    ap (λ i. get_or (record_of b ++ each record_of l) i 0) at ∙ get_or_append_left (record_of b) (each record_of l) 0 r h ∙ ap (λ x. get_or (record_of x) r 0) same
record_at_reads (b ∷ l) (suc k) a r e h =
    let at : 4 * suc k + r ≡ suc (suc (suc (suc (4 * k + r)))) = omega arith in
    ap (λ i. get_or (record_of b ++ each record_of l) i 0) at ∙ record_at_reads l k a r e h

module _ (t : Table) where
  abbrev codes : List ℕ
  codes = map (λ a. (line_of a).form) t.axioms

  length-codes : length codes ≡ length t.axioms
  length-codes = length-map t.axioms (λ a. (line_of a).form)

  length_words : length (words_of t) ≡ 4 + 5 * length t.axioms
  length_words = let a = length-append codes (each record_of t.axioms) in let b = length-codes in let c = length_records t.axioms in omega arith

  pub length-encode : length (encode t) ≡ 8 + 10 * length t.axioms
  length-encode = let h = length_written (words_of t) in let k = length_words in omega arith

  form_word : (k : ℕ) (a : Axiom) → slice_get t.axioms k ≡ Some a → get_or (words_of t) (4 + k) 0 ≡ (line_of a).form
  form_word k a e =
      let at : 4 + k ≡ suc (suc (suc (suc k))) = omega arith in
      ap (λ i. get_or (words_of t) i 0) at
      ∙ get_or_append_left codes (each record_of t.axioms) 0 k (omega (arith, length-codes, slice_get_within t.axioms k a e))
      ∙ get_or_from_slice_get codes k (line_of a).form 0 (nth_map (λ a. (line_of a).form) t.axioms k a e)

  record_word : (k : ℕ) (a : Axiom) (r i : ℕ) → slice_get t.axioms k ≡ Some a → r < 4 → i ≡ 4 + length t.axioms + 4 * k + r → get_or (words_of t) i 0 ≡ get_or (record_of a) r 0
  record_word k a r i e h is =
      let at : i ≡ suc (suc (suc (suc (length codes + (4 * k + r))))) = omega (arith, length-codes) in
      ap (λ i. get_or (words_of t) i 0) at ∙ get_or-append-add codes (each record_of t.axioms) (4 * k + r) 0 ∙ record_at_reads t.axioms k a r e h

-- ---- a table is read back

same_table : (t u : Table) → t.concepts ≡ u.concepts → t.roles ≡ u.roles → t.individuals ≡ u.individuals → t.axioms ≡ u.axioms → t ≡ u
same_table t u a b c d i = record { concepts = a i; roles = b i; individuals = c i; axioms = d i }

-- the lines of axioms say those
axioms_said : (l : List Axiom) → each (λ l. said (axiom_of l)) (map line_of l) ≡ l
axioms_said [] = refl
axioms_said (a ∷ l) = ap (λ o. said o ++ each (λ l. said (axiom_of l)) (map line_of l)) (axiom_of-line_of a) ∙ ap (λ r. a ∷ r) (axioms_said l)

refuted : (b : Bool) → (b ≡ true → ⊥) → b ≡ false
refuted b h = ⊎_elim (λ e. absurd (h e)) (λ e. e) (cases_Bool b)

module _ (t : Table) where
  abbrev bytes : List ℕ
  bytes = encode t

  count_written : axioms_in bytes ≡ length t.axioms
  count_written = word_written (words_of t) 3

  pub line_written : (k : ℕ) (a : Axiom) → slice_get t.axioms k ≡ Some a → line_at bytes k ≡ line_of a
  line_written k a e =
      same_words (line_at bytes k) (line_of a) (word_written (words_of t) (4 + k) ∙ form_word t k a e) (at 0 (record_at bytes k) (omega arith) (omega arith))
      (at 1 (record_at bytes k + 1) (omega arith) refl) (at 2 (record_at bytes k + 2) (omega arith) refl) (at 3 (record_at bytes k + 3) (omega arith) refl)
    where
      at : (r i : ℕ) → r < 4 → i ≡ record_at bytes k + r → word_at bytes i ≡ get_or (record_of a) r 0
      at r i h is = word_written (words_of t) i ∙ record_word t k a r i e h (omega (arith, count_written))

  pub lines_written : map line_of t.axioms ≡ lines_to bytes (axioms_in bytes)
  lines_written =
      same_places (map line_of t.axioms) (lines_to bytes (axioms_in bytes)) (length-map t.axioms line_of ∙ sym count_written ∙ sym (length_lines bytes (axioms_in bytes))) at
    where
      at : (k : ℕ) (l : Line) → slice_get (map line_of t.axioms) k ≡ Some l → slice_get (lines_to bytes (axioms_in bytes)) k ≡ Some l
      at k l e =
          let low : k < length t.axioms = omega (arith, slice_get_within (map line_of t.axioms) k l e, length-map t.axioms line_of) in
          let (a, here) = nth_some t.axioms k low in
          let u = nth_map line_of t.axioms k a here in
          let v = line_written k a here in
          let w = nth_line bytes (axioms_in bytes) k (omega (arith, count_written)) in
          cc

  pub says_written : says bytes ≡ t
  says_written =
      same_table (says bytes) t (word_written (words_of t) 0) (word_written (words_of t) 1) (word_written (words_of t) 2)
      (ap (each (λ l. said (axiom_of l))) (sym lines_written) ∙ axioms_said t.axioms)

  module _ (w : WellFormed t) where
    axiom_at : (k : ℕ) → k < axioms_in bytes → (a : Axiom) × (slice_get t.axioms k ≡ Some a)
    axiom_at k h = nth_some t.axioms k (omega (arith, count_written))

    fits_written : (k : ℕ) → k < axioms_in bytes → fits_line (says bytes) (line_at bytes k) ≡ true
    fits_written k h =
        let (a, e) = axiom_at k h in
        ap (λ u. fits_line u (line_at bytes k)) says_written ∙ ap (fits_line t) (line_written k a e) ∙ declared_fits t a (w.declared a (nth_in t.axioms k a e))

    size_written : (z : Size) (x : ℕ) → get_or (words_of t) (word_of z) 0 ≡ x → size_fits (word_of z) x ≡ true → applies bytes (SizeOutOfLimits z) ≡ false
    size_written z x e h = ap (λ x. not (size_fits (word_of z) x)) (word_written (words_of t) (word_of z) ∙ e) ∙ not_from_true _ h

    fresh_written : (k : ℕ) → k < axioms_in bytes → any_of (same_line (line_at bytes k)) (lines_to bytes k) ≡ true → ⊥
    fresh_written k h e =
        let (l, m, q) = (any_of_decides (same_line (line_at bytes k)) (lines_to bytes k)).0 e in
        let (j, i, is) = Memᴰ.of_map (line_at bytes) (up_from 0 k) m in
        let (_, low) = up_in 0 k j i in
        let (a, u) = axiom_at j (omega arith) in
        let (b, v) = axiom_at k h in
        let same = same_axiom a b (sym (line_written j a u) ∙ is ∙ sym ((same_line_decides (line_at bytes k) l).0 q) ∙ line_written k b v) in
        apart_at t.axioms j k b w.apart (omega arith) (u ∙ ap Some same) v

    few_written : (k : ℕ) → k < axioms_in bytes → (passes (has_form 8) (slice_get t.axioms k) && eqb (count_of (has_form 8) (take k t.axioms)) 32) ≡ true → ⊥
    few_written k h e =
        let (a, at) = axiom_at k h in
        let (x, y) = and_parts (passes (has_form 8) (slice_get t.axioms k)) _ e in
        let full = eqb-true (count_of (has_form 8) (take k t.axioms)) 32 y in
        let more = count_before (has_form 8) t.axioms k a at (sym (ap (passes (has_form 8)) at) ∙ x) in
        omega (arith, w.witnesses)

    simple_written : (k : ℕ) → k < axioms_in bytes → passes (λ a. not (counts_simple t a)) (slice_get t.axioms k) ≡ false
    simple_written k h =
        let (a, at) = axiom_at k h in
        ap (passes (λ a. not (counts_simple t a))) at ∙ not_from_true _ (simple_counts t w.declared w.simple a (nth_in t.axioms k a at))

    none_due : (f : Refusal) → Due (axioms_in bytes) f → applies bytes f ≡ false
    none_due TooShort h = le-ltb (length bytes) 8 (omega (arith, length-encode t))
    none_due (SizeOutOfLimits Concepts) h = size_written Concepts t.concepts refl (and_from _ _ (le-leb 2 t.concepts w.concepts.0) (le-leb t.concepts 32 w.concepts.1))
    none_due (SizeOutOfLimits Roles) h = size_written Roles t.roles refl (and_from _ _ (le-leb 0 t.roles (omega arith)) (le-leb t.roles 7 w.roles))
    none_due (SizeOutOfLimits Individuals) h =
        size_written Individuals t.individuals refl (and_from _ _ (le-leb 1 t.individuals w.individuals.0) (le-leb t.individuals 16 w.individuals.1))
    none_due (SizeOutOfLimits Axioms) h =
        size_written Axioms (length t.axioms) refl (and_from _ _ (le-leb 0 (length t.axioms) (omega arith)) (le-leb (length t.axioms) 64 w.few))
    none_due WrongLength h = not_from_true _ (eq-eqb (length bytes) (8 + 10 * axioms_in bytes) (omega (arith, length-encode t, count_written)))
    none_due (UnknownForm k) h = not_from_true _ (fits_has_kinds (says bytes) (line_at bytes k) (fits_written k h))
    none_due (BadArgument k) h = not_from_true _ (fits_written k h)
    none_due (Repeated k) h = refuted _ (fresh_written k h)
    none_due (TooManyWitnesses k) h =
        ap (λ (u : Table). passes (has_form 8) (slice_get u.axioms k) && eqb (count_of (has_form 8) (take k u.axioms)) 32) says_written ∙ refuted _ (few_written k h)
    none_due (NotSimple k) h = ap (λ (u : Table). passes (λ a. not (counts_simple u a)) (slice_get u.axioms k)) says_written ∙ simple_written k h

    pub table_read_back : checked bytes ≡ accepted t
    table_read_back =
        ap (outcome (says bytes)) (none_first (applies bytes) (order (axioms_in bytes)) (λ f m. none_due f (order_in (axioms_in bytes) f m))) ∙ ap accepted says_written

-- ---- bytes are written back

module _ (bs : List ℕ) (none : first (applies bs) (order (axioms_in bs)) ≡ None) where
  abbrev table : Table
  table = says bs

  record_read : (k : ℕ) (a : Axiom) (r : ℕ) → line_of a ≡ line_at bs k → r < 4 → get_or (record_of a) r 0 ≡ word_at bs (record_at bs k + r)
  record_read k a zero e h = ap (λ (l : Line). l.p) e ∙ ap (word_at bs) (omega arith)
  record_read k a (suc zero) e h = ap (λ (l : Line). l.q) e
  record_read k a (suc (suc zero)) e h = ap (λ (l : Line). l.r) e
  record_read k a (suc (suc (suc zero))) e h = ap (λ (l : Line). l.s) e
  record_read k a (suc (suc (suc (suc r)))) e h = absurd (omega arith)

  -- the words after the sizes: a form code, or word r of record k
  word_read : (i : ℕ) → i < 5 * axioms_in bs → get_or (words_of table) (4 + i) 0 ≡ word_at bs (4 + i)
  word_read i h = ⊎_elim form arguments (cases_lt i (axioms_in bs))
    where
      form : i < axioms_in bs → get_or (words_of table) (4 + i) 0 ≡ word_at bs (4 + i)
      form low =
          let (a, at) = nth_some table.axioms i (omega (arith, length-said bs none)) in
          form_word table i a at ∙ ap (λ (l : Line). l.form) (said_line bs none i a at).1

      arguments : axioms_in bs ≤ i → get_or (words_of table) (4 + i) 0 ≡ word_at bs (4 + i)
      arguments past =
          let k = (i - axioms_in bs) / 4 in
          let r = (i - axioms_in bs) % 4 in
          let (a, at) = nth_some table.axioms k (omega (arith, length-said bs none)) in
          record_word table k a r (4 + i) at (omega arith) (omega (arith, length-said bs none))
          ∙ record_read k a r (said_line bs none k a at).1 (omega arith) ∙ ap (word_at bs) (omega arith)

  words_read : (i : ℕ) → i < length (words_of table) → get_or (words_of table) i 0 ≡ word_at bs i
  words_read zero h = refl
  words_read (suc zero) h = refl
  words_read (suc (suc zero)) h = refl
  words_read (suc (suc (suc zero))) h = length-said bs none
  words_read (suc (suc (suc (suc i)))) h =
      let at : 4 + i ≡ suc (suc (suc (suc i))) = omega arith in
      subst (λ j. get_or (words_of table) j 0 ≡ word_at bs j) at (word_read i (omega (arith, length_words table, length-said bs none)))

  pub bytes_written_back : Bytes bs → encode table ≡ bs
  bytes_written_back small = bytes_written (words_of table) bs (omega (arith, length_words table, length-said bs none, said_length bs none)) small words_read

pub reading_inverts_writing : ReadingInvertsWriting
reading_inverts_writing =
    record {
      read_back = table_read_back;
      written_back = λ bs t small e.
          (accepted_well_formed bs t e, ap encode (accepted_says bs t e) ∙ bytes_written_back bs (accepted_none bs t e) small);
    }
