use Rattle.std.proofs.Common.{rules, tests, ap, not}
use Rattle.theory.proofs.Scanning.{any_means}
use Rattle.layout.specs.Meaning.{axiom_in}
use Rattle.theory.specs.Roles.{spoils}
use Rattle.table.specs.Meaning.{table_in}
use Rattle.table.proofs.stated.Stated.is_simple.Goals as goal

pub returns : goal.returns
returns c =
    ap not (any_means (spoils (table_in c.args.self.now) c.args.role.number) axiom_in c.args.self.now.axioms.now _ _ c.any.result c.any.ensures.ran (cc) (λ x b q k. search (rules, tests)))
