use Rattle.std.proofs.Common.{[], Ok, length, ap, subst, ◌∙◌}
use Rattle.std.proofs.lemmas.Result.{err_from_is_err_and}
use Rattle.theory.proofs.Accepting.{well_formed_decides}
use Rattle.layout.proofs.Passing.{accepted_well_formed}
use Rattle.layout.proofs.Writing.{reading_inverts_writing}
use Rattle.layout.specs.Meaning.{table_of}
use Rattle.table.specs.Stages.{LinesRead}
use Rattle.table.proofs.Deciding.{AxiomsRead, line_refused, all_declared, witness_refused, count_refused, all_passed}
use Rattle.table.proofs.Rest.{rest_all}
use Rattle.table.proofs.check.check.Goals as goal
use Rattle.table.proofs.check.check.Goals.{After-as_slice}

pub returns-in_err-sizes : goal.returns-in_err-sizes
returns-in_err-sizes c =
    let p = err_from_is_err_and c.from_residual.result c.from_residual.ensures.1 in
    record { says = rw (p.1, p.2) c.in_err-sizes.ensures; inverse = reading_inverts_writing }

pub read_lines-requires : goal.read_lines-requires
read_lines-requires c = ap length (rest_all 8 c.args.bytes.now) ∙ c.in_ok-sizes.ensures.whole

pub returns-in_err-axioms : goal.returns-in_err-axioms
returns-in_err-axioms c =
    let p = err_from_is_err_and c.from_residual-in_err-axioms.result c.from_residual-in_err-axioms.ensures.1 in
    record {
      says = rw (p.1, p.2) (line_refused c.args.bytes.now _ c.in_ok-sizes.sizes (rest_all 8 c.args.bytes.now) c.in_ok-sizes.ensures _ c.in_err-axioms.ensures.read);
      inverse = reading_inverts_writing;
    }

-- the axioms, as they were read
held : (c : After-as_slice) → AxiomsRead c.args.bytes.now c.in_ok-sizes.sizes c.in_ok-axioms.axioms c.as_slice.result.now
held c = record {
  header = c.in_ok-sizes.ensures;
  counted = c.in_ok-axioms.ensures.counted;
  read = subst (λ rest. LinesRead (table_of c.in_ok-sizes.sizes []) rest c.in_ok-sizes.sizes.axioms (Ok c.in_ok-axioms.axioms)) (rest_all 8 c.args.bytes.now) c.in_ok-axioms.ensures.read;
  seen = c.as_slice.ensures.value;
}

pub invariant_of-stated : goal.invariant_of-stated
invariant_of-stated c = record {
  counted = ap length c.as_slice.ensures.value ∙ c.in_ok-axioms.ensures.counted;
  declared = all_declared (held (goal.at.invariant_of-stated c).After-as_slice);
}

pub returns-in_err-few_witnesses : goal.returns-in_err-few_witnesses
returns-in_err-few_witnesses c =
    let p = err_from_is_err_and c.from_residual-in_err-few_witnesses.result c.from_residual-in_err-few_witnesses.ensures.1 in
    record {
      says = rw (p.1, p.2) (witness_refused (held (goal.at.returns-in_err-few_witnesses c).After-as_slice) _ c.in_err-few_witnesses.ensures);
      inverse = reading_inverts_writing;
    }

pub returns-in_err-simple_counts : goal.returns-in_err-simple_counts
returns-in_err-simple_counts c =
    let p = err_from_is_err_and c.from_residual-in_err-simple_counts.result c.from_residual-in_err-simple_counts.ensures.1 in
    record {
      says = rw (p.1, p.2) (count_refused (held (goal.at.returns-in_err-simple_counts c).After-as_slice) c.in_ok-few_witnesses.ensures _ c.in_err-simple_counts.ensures);
      inverse = reading_inverts_writing;
    }

pub invariant_of-result : goal.invariant_of-result
invariant_of-result c = record {
  counted = c.in_ok-axioms.ensures.counted;
  sound = (well_formed_decides _).1 (accepted_well_formed c.args.bytes.now _ (all_passed (held (goal.at.invariant_of-result c).After-as_slice) c.in_ok-few_witnesses.ensures c.in_ok-simple_counts.ensures));
}

pub returns : goal.returns
returns c = record {
  says = all_passed (held (goal.at.returns c).After-as_slice) c.in_ok-few_witnesses.ensures c.in_ok-simple_counts.ensures;
  inverse = reading_inverts_writing;
}
