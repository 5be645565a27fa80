-- The line that says what became of a table, byte by byte.
use Rattle.std.specs.Prelude.{ℕ, List, ◌++◌, Ok, Err, Result}
use Rattle.layout.specs.Refusals.{refusal_text}
use Rattle.judging.specs.Refusals.{overfull_text}
pub use Rattle.verdict.specs.Lines.{newline}
use Rattle.verdict.specs.Lines.{verdict_words}
use Rattle.judgement.specs.declared.judgement.Found.{Found}
use Rattle.judgement.specs.declared.judgement.Judgement.{Judgement}
use Rattle.judgement.specs.declared.judgement.Unjudged.{Unjudged}
use Rattle.judgement.specs.declared.judgement.Unjudged.TheVariants.{Refused, Overfull}

abbrev pub unjudged_text : Unjudged → List ℕ
unjudged_text (Refused f) = refusal_text f
unjudged_text (Overfull k o) = overfull_text o

abbrev pub outcome_text : Result Found Unjudged → List ℕ
outcome_text (Ok f) = verdict_words f.judged.verdict
outcome_text (Err u) = unjudged_text u

abbrev pub judgement_text : Judgement → List ℕ
judgement_text j = outcome_text j.0 ++ newline
