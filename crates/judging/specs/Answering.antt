-- What becomes of the bytes of a table.
use Rattle.std.specs.Prelude.{◌≡◌, ℕ}
use Rattle.theory.specs.Table.{Table}
use Rattle.chase.specs.Judging.{Judges, JudgingRefused}
use Rattle.chase.specs.Trials.{State}
use Rattle.layout.specs.Checking.{Outcome, accepted, refused}
use Rattle.verdict.specs.declared.judgement.Judgement.{Judgement}
use Rattle.verdict.specs.declared.judgement.Judgement.TheVariants.{Found, Refused, Overfull}
use Rattle.verdict.specs.Verdicts.{VerdictOf}

-- a table is judged, or judging needs more rows
abbrev pub JudgedAs : Table → ℕ → Judgement → Type 0
JudgedAs t rows (Found v) = VerdictOf t v × ((s : State) × Judges t rows s)
JudgedAs t rows (Refused f) = ⊥
JudgedAs t rows (Overfull k) = JudgingRefused t rows k

-- what is refused by checking stays refused
abbrev pub Says : Outcome → ℕ → Judgement → Type 0
Says (accepted t) rows j = JudgedAs t rows j
Says (refused f) rows j = j ≡ Refused f
