-- Tables as bytes, and the law that reading and writing are inverse.
use Rattle.std.specs.Prelude.{◌≡◌, ℕ, ◌/◌, ◌%◌, List, [], ◌∷◌, ◌++◌, map, length}
use Rattle.theory.specs.Lists.{each}
use Rattle.theory.specs.Table.{Axiom, Table, line_of}
use Rattle.theory.specs.WellFormed.{WellFormed}
use Rattle.layout.specs.Words.{Bytes}
use Rattle.layout.specs.Checking.{checked, accepted}

abbrev pub bytes_of : ℕ → List ℕ
bytes_of w = w % 256 ∷ w / 256 ∷ []

abbrev pub record_of : Axiom → List ℕ
record_of a = (line_of a).p ∷ (line_of a).q ∷ (line_of a).r ∷ (line_of a).s ∷ []

-- four sizes, the form codes, the records
abbrev pub words_of : Table → List ℕ
words_of t = t.concepts ∷ t.roles ∷ t.individuals ∷ length t.axioms ∷ (map (λ a. (line_of a).form) t.axioms ++ each record_of t.axioms)

abbrev pub encode : Table → List ℕ
encode t = each bytes_of (words_of t)

-- The accepted byte strings are the encodings of the well-formed tables, each read back as itself.
pub record ReadingInvertsWriting : Type 0 where
  pub read_back : (t : Table) → WellFormed t → checked (encode t) ≡ accepted t
  pub written_back : (bs : List ℕ) (t : Table) → Bytes bs → checked bs ≡ accepted t → WellFormed t × (encode t ≡ bs)
