use Rattle.chase.proofs.Judging.{judging_stands}
use Rattle.verdict.proofs.Unique.{one_verdict}
use Rattle.judgement.proofs.telling.judge_table.Goals as goal

pub returns-in-Ok-clause-one : goal.returns-in-Ok-clause-one
returns-in-Ok-clause-one g c = one_verdict

pub returns-in-Ok-clause-law : goal.returns-in-Ok-clause-law
returns-in-Ok-clause-law g c = judging_stands

pub returns-in-Err-clause-one : goal.returns-in-Err-clause-one
returns-in-Err-clause-one g c = one_verdict

pub returns-in-Err-clause-law : goal.returns-in-Err-clause-law
returns-in-Err-clause-law g c = judging_stands
