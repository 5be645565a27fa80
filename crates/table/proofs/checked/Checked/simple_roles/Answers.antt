use Rattle.std.proofs.Common.{ℕ, ◌&&◌, ltb, rules, tests, ap, ◌∙◌, arith}
use Rattle.std.proofs.lemmas.Iterator.{YieldsList-from_range}
use Rattle.std.proofs.lemmas.Iterator.Consumers.{YieldsList-at, YieldsList-from_filter, count_from_yields_List}
use Rattle.theory.specs.Lists.{count_of}
use Rattle.theory.specs.Roles.{is_simple}
use Rattle.table.specs.Answers.{meaning}
use Rattle.table.proofs.Counting.{range_up, length_kept, count_below}
use Rattle.table.proofs.checked.Checked.simple_roles.Goals as goal

pub returns : goal.returns
returns c =
    let t = meaning c.args.self.now in
    let n = c.args.self.now.sizes.roles in
    let test = λ (k : ℕ). ltb k n && is_simple t k in
    count_from_yields_List c.filter.result _ c.count.ensures.ran (YieldsList-from_filter _ test (YieldsList-at c.filter.ensures.source (YieldsList-from_range 0 n n (cc) (omega arith))) c.filter.ensures.closure (λ x b q k. search (rules, tests, c.stated-stated.ensures)))
    ∙ length_kept test _ ∙ ap (count_of test) (range_up 0 n) ∙ count_below (is_simple t) n
