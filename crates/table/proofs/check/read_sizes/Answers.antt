use Rattle.std.proofs.Common.{◌*◌, ◌<◌, ◌≤◌, length, sym, ap, ◌∙◌, rules}
use Rattle.std.proofs.lemmas.Result.{err_from_is_err_and}
use Rattle.table.proofs.Deciding.{too_short, bad_size, wrong_length}
use Rattle.table.proofs.Rest.{rest_all, word_read}
use Rattle.table.proofs.check.read_sizes.Goals as goal

pub returns-in_default : goal.returns-in_default
returns-in_default c = let short : length c.args.bytes.now < 8 = search rules in too_short c.args.bytes.now short

pub returns-in_err-sizes : goal.returns-in_err-sizes
returns-in_err-sizes c =
    let long : 8 ≤ length c.args.bytes.now = search rules in
    let p = err_from_is_err_and c.from_residual.result c.from_residual.ensures.1 in
    let e = simp (c.from_le_bytes.ensures, c.from_le_bytes-2.ensures, c.from_le_bytes-3.ensures, c.from_le_bytes-4.ensures, word_read) at c.in_err-sizes.ensures in
    rw (p.1, p.2) (bad_size c.args.bytes.now long _ e)

pub returns-then-rest-sizes : goal.returns-then-rest-sizes
returns-then-rest-sizes c =
    let long : 8 ≤ length c.args.bytes.now = search rules in
    let e = simp (c.from_le_bytes.ensures, c.from_le_bytes-2.ensures, c.from_le_bytes-3.ensures, c.from_le_bytes-4.ensures, word_read) at c.in_ok-sizes.ensures in
    wrong_length c.args.bytes.now long e.0
    (λ h. c.if-rest-sizes.true (ap length (rest_all 8 c.args.bytes.now) ∙ h ∙ ap (λ n. 10 * n) (sym e.4)))

pub returns : goal.returns
returns c =
    let e = simp (c.from_le_bytes.ensures, c.from_le_bytes-2.ensures, c.from_le_bytes-3.ensures, c.from_le_bytes-4.ensures, word_read) at c.in_ok-sizes.ensures in
    record {
      long = search rules;
      within = e.0;
      concepts = e.1;
      roles = e.2;
      individuals = e.3;
      axioms = e.4;
      whole = sym (ap length (rest_all 8 c.args.bytes.now)) ∙ c.if-rest-sizes.false;
    }
