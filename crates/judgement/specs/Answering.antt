-- What becomes of the bytes of a table, and of the ledger.
use Rattle.std.specs.Prelude.{◌≡◌, ℕ, List, [], Ok, Err, Result}
use Rattle.theory.specs.Table.{Table}
use Rattle.chase.specs.Judging.{JudgingRefused}
use Rattle.chase.specs.Trials.{Entry, State}
use Rattle.layout.specs.Checking.{Outcome, accepted, refused}
use Rattle.table.specs.Answers.{meaning}
use Rattle.verdict.specs.declared.judgement.Judgement as short
use Rattle.verdict.specs.declared.judgement.Judgement.TheVariants as short_as
use Rattle.verdict.specs.Verdicts.{VerdictOf}
use Rattle.judging.specs.Judgings.{JudgesIn, OverfullIn, place_of}
use Rattle.judgement.specs.declared.judgement.Found.{Found}
use Rattle.judgement.specs.declared.judgement.Unjudged.{Unjudged}
use Rattle.judgement.specs.declared.judgement.Unjudged.TheVariants.{Refused, Overfull}

-- The table is judged and the entries are all derivable facts, or judging needs more rows and there are none.
abbrev pub JudgedAs : Table → ℕ → Result Found Unjudged → List Entry → Type 0
JudgedAs t rows (Ok f) es = (meaning f.judged.table ≡ t) × VerdictOf t f.judged.verdict × ((s : State) × JudgesIn t rows s f.done × (es ≡ s.entries))
JudgedAs t rows (Err (Refused f)) es = ⊥
JudgedAs t rows (Err (Overfull k o)) es = (meaning k ≡ t) × OverfullIn t rows o × JudgingRefused t rows (place_of o) × (es ≡ [])

-- what is refused by checking stays refused
abbrev pub Says : Outcome → ℕ → Result Found Unjudged → List Entry → Type 0
Says (accepted t) rows r es = JudgedAs t rows r es
Says (refused f) rows r es = r ≡ Err (Refused f)

-- Judging leaves the ledger ready for use, and a refusal by checking leaves it as it was.
abbrev pub Leaves : {L : Type 0} → Outcome → (L → Type 0) → L → L → Type 0
Leaves (accepted t) usable before after = usable after
Leaves (refused f) usable before after = after ≡ before

-- the verdict, the refusal, or the rule that needs more rows
abbrev pub shortened : Result Found Unjudged → short.Judgement
shortened (Ok f) = short_as.Found f.judged.verdict
shortened (Err (Refused f)) = short_as.Refused f
shortened (Err (Overfull k o)) = short_as.Overfull (place_of o)
