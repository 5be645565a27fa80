use Rattle.std.proofs.Common.{◌+◌, ◌*◌, [], ◌∷◌, ◌++◌, map, sym, ap, ◌∙◌, arith, below_more}
use Rattle.layout.specs.Meaning.{axiom_in, line_in, table_of}
use Rattle.table.specs.Stages.{line_no, lines_no}
use Rattle.theory.specs.Table.{axiom_of}
use Rattle.table.proofs.Reading.{left_over, drop_on, mapped_more, pushed_more, said_more, test_now, line_now}
use Rattle.table.proofs.lines.read_lines.Goals as goal

pub split_form-form-requires : goal.split_form-form-requires
split_form-form-requires c = let n = left_over c.args.rest.now c.loop-place.forms.now (2 * c.loop-place.place) c.loop-place.invariant.forms in omega arith

pub loop-place-preserved : goal.loop-place-preserved
loop-place-preserved c =
    let n = c.args.sizes.axioms in
    let k = c.loop-place.place in
    let rest = c.args.rest.now in
    let e = c.in_ok-read_line.ensures in
    let inv = c.loop-place.invariant in
    let line = line_now rest c.loop-place.forms.now c.loop-place.records.now n k _ (line_in c.split_record.result.0) inv.forms inv.records c.split_form-form.ensures.form c.split_record.ensures.line in
    record {
      forms = drop_on rest c.loop-place.forms.now _ (2 * k) 2 (2 * (k + 1)) inv.forms c.split_form-form.ensures.rest (omega arith);
      records = drop_on rest c.loop-place.records.now _ (2 * n + 8 * k) 8 (2 * n + 8 * (k + 1)) inv.records c.split_record.ensures.rest (omega arith);
      lines = pushed_more line_in c.loop-place.lines.items c.split_record.result.0 _ _ c.push-in-loop-place.ensures.items inv.lines ∙ ap (λ x. lines_no rest n k ++ (x ∷ [])) line ∙ sym (mapped_more (line_no rest n) k);
      says = pushed_more axiom_in c.loop-place.axioms.items c.in_ok-read_line.field-0 _ _ c.push.ensures.items inv.says ∙ sym (said_more rest n k (axiom_in c.in_ok-read_line.field-0) (ap axiom_of (sym line) ∙ e.1));
      passed = below_more _ _ inv.passed (test_now (table_of c.args.sizes []) rest n k (map line_in c.loop-place.lines.items) (map line_in c.as_slice.result.now) (line_in c.split_record.result.0) _ (ap (map line_in) c.as_slice.ensures.value) inv.lines line e.0);
      read = c.push-in-loop-place.ensures.len ∙ ap (λ m. m + 1) inv.read;
      counted = c.push.ensures.len ∙ ap (λ m. m + 1) inv.counted;
    }
