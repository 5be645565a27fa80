use Rattle.shapes.proofs.Alike.{one_survey}
use Rattle.shapes.proofs.laws.survey_is_one.Goals as goal

pub returns : goal.returns
returns c = one_survey
