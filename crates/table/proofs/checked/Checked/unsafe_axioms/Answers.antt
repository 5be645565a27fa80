use Rattle.std.proofs.Common.{length, rules, tests, ap, ◌∙◌, arith, sym}
use lib.ListN.{length-map}
use Rattle.std.proofs.lemmas.Iterator.{YieldsList-from_range}
use Rattle.std.proofs.lemmas.Iterator.Consumers.{YieldsList-at, YieldsList-from_filter, count_from_yields_List}
use Rattle.theory.specs.Lists.{count_of, up_from}
use Rattle.theory.specs.Roles.{is_unsafe}
use Rattle.layout.specs.Meaning.{axiom_in}
use Rattle.table.specs.Answers.{meaning}
use Rattle.table.proofs.Counting.{range_up, length_kept}
use Rattle.table.proofs.checked.Checked.unsafe_axioms.Goals as goal

pub returns : goal.returns
returns c =
    let p = is_unsafe (meaning c.args.self.now) in
    let n = length c.args.self.now.axioms.items in
    count_from_yields_List c.filter.result _ c.count.ensures.ran (YieldsList-from_filter _ p (YieldsList-at c.filter.ensures.source (YieldsList-from_range 0 n n (cc) (omega arith))) c.filter.ensures.closure (λ x b q k. search (rules, tests)))
    ∙ length_kept p _ ∙ ap (count_of p) (range_up 0 n) ∙ ap (λ n. count_of p (up_from 0 n)) (sym (length-map c.args.self.now.axioms.items axiom_in))
