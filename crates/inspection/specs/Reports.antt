-- What a report shows.
use Rattle.std.specs.Prelude.{ℕ, List, Ok, Err, Result}
use Rattle.table.specs.Answers.{meaning}
use Rattle.table.specs.declared.checked.Checked.{Checked}
use Rattle.inspection.specs.declared.report.Report.{Report}
use Rattle.layout.specs.declared.refusal.Refusal.{Refusal}
use Rattle.inspection.specs.Notation.{refusal_text, table_text}

-- a table that was checked, or why it is refused
abbrev pub answer_text : Result Checked Refusal → List ℕ
answer_text (Ok c) = table_text (meaning c)
answer_text (Err f) = refusal_text f

abbrev pub report_text : Report → List ℕ
report_text r = answer_text r.0
