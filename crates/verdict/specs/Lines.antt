-- What is printed of a verdict, and the line that says what became of a table, byte by byte.
use Rattle.std.specs.Prelude.{ℕ, List, [], ◌∷◌, ◌++◌, codes, decimal}
use Rattle.layout.specs.Refusals.{number_of, place_of, refused_at}
pub use Rattle.shapes.specs.Naming.{shape_text}
use Rattle.verdict.specs.declared.judgement.Judgement.{Judgement}
use Rattle.verdict.specs.declared.judgement.Judgement.TheVariants.{Found, Refused, Overfull}
use Rattle.verdict.specs.declared.verdict.Verdict.{Verdict}

abbrev pub newline : List ℕ
newline = 10 ∷ []

abbrev pub verdict_words : Verdict → List ℕ
verdict_words v = shape_text v.shape ++ (codes " h=" ++ (decimal v.height ++ (codes " u=" ++ decimal v.unsafe_axioms)))

abbrev pub verdict_text : Verdict → List ℕ
verdict_text v = verdict_words v ++ newline

-- refused N at P, as a line
abbrev pub refused_text : ℕ → ℕ → List ℕ
refused_text n p = refused_at n p ++ newline

-- the number of the refusal for want of rows
abbrev pub overfull : ℕ
overfull = 9

abbrev pub judgement_text : Judgement → List ℕ
judgement_text (Found v) = verdict_text v
judgement_text (Refused f) = refused_text (number_of f) (place_of f)
judgement_text (Overfull k) = refused_text overfull k
