-- The bytes of a table: 16-bit words, low byte first.
use Rattle.std.specs.Prelude.{ℕ, ◌+◌, ◌*◌, ◌<◌, List, [], ◌∷◌, map, Some, None, Option, slice_index}
use Rattle.theory.specs.Lists.{◌∈◌, up_from, each}
use Rattle.theory.specs.Table.{Axiom, Table, Line, line, axiom_of}

abbrev pub word : ℕ → ℕ → ℕ
word low high = low + 256 * high

-- word k
abbrev pub word_at : List ℕ → ℕ → ℕ
word_at bs k = word (slice_index bs (2 * k)) (slice_index bs (2 * k + 1))

-- the fourth size: how many axioms there are
abbrev pub axioms_in : List ℕ → ℕ
axioms_in bs = word_at bs 3

-- after the sizes come the form codes, and then the records, four words each
abbrev pub record_at : List ℕ → ℕ → ℕ
record_at bs k = 4 + axioms_in bs + 4 * k

abbrev pub line_at : List ℕ → ℕ → Line
line_at bs k = line (word_at bs (4 + k)) (word_at bs (record_at bs k)) (word_at bs (record_at bs k + 1)) (word_at bs (record_at bs k + 2)) (word_at bs (record_at bs k + 3))

-- the first n lines
abbrev pub lines_to : List ℕ → ℕ → List Line
lines_to bs n = map (line_at bs) (up_from 0 n)

-- a line without a form says nothing
abbrev pub said : Option Axiom → List Axiom
said None = []
said (Some a) = a ∷ []

-- the table that the bytes say
abbrev pub says : List ℕ → Table
says bs =
    record {
      concepts = word_at bs 0;
      roles = word_at bs 1;
      individuals = word_at bs 2;
      axioms = each (λ l. said (axiom_of l)) (lines_to bs (axioms_in bs));
    }

-- every byte is one
abbrev pub Bytes : List ℕ → Type 0
Bytes bs = (b : ℕ) → b ∈ bs → b < 256
