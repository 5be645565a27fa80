use Rattle.std.proofs.Common.{◌≡◌, ◌≤◌, ap, ◌∙◌, arith}
use Rattle.std.proofs.lemmas.Bool.Decides.{nat_tests}
use Rattle.std.proofs.lemmas.Option.{MatchOption-at_some, MatchOption-at_none}
use Rattle.theory.specs.Roles.{is_simple}
use Rattle.table.specs.Meaning.{table_in}
use Rattle.table.proofs.Viewing.{by_option}
use Rattle.table.proofs.stated.Stated.numbers_simple.Goals as goal

pub returns : goal.returns
returns c =
    let t = table_in c.args.self.now in
    by_option c.role.result c.is_some_and.ensures
    (λ e none. let out : c.args.self.now.sizes.roles ≤ c.args.word = MatchOption-at_none _ _ e c.role.ensures in grind (arith, nat_tests))
    (λ role e found.
    let (low, same) = MatchOption-at_some _ _ role e c.role.ensures in
    let simple : c.is_some_and.result ≡ is_simple t c.args.word = found ∙ ap (is_simple t) same in
    grind (arith, nat_tests))
