use Rattle.std.proofs.Common.{◌≡◌, ℕ, ◌+◌, ◌*◌, ◌<◌, [], map, length, drop, None}
use Rattle.layout.specs.Meaning.{axiom_in, line_in, table_of}
use Rattle.table.specs.Stages.{lines_no, says_no, refusal_no}
use Rattle.table.proofs.lines.read_lines.Given as goal

abbrev pub invariant-loop-place : goal.invariant-loop-place
invariant-loop-place l = record {
  forms : l.forms ≡ drop (2 * l.place) l.rest;
  records : l.records ≡ drop (2 * l.sizes.axioms + 8 * l.place) l.rest;
  lines : map line_in l.lines.items ≡ lines_no l.rest l.sizes.axioms l.place;
  says : map axiom_in l.axioms.items ≡ says_no l.rest l.sizes.axioms l.place;
  passed : (j : ℕ) → j < l.place → refusal_no (table_of l.sizes []) l.rest l.sizes.axioms j ≡ None;
  read : length l.lines.items ≡ l.place;
  counted : length l.axioms.items ≡ l.place;
}
