use Rattle.std.proofs.Common.{rules, tests}
use Rattle.theory.proofs.Scanning.{any_means}
use Rattle.layout.specs.Meaning.{axiom_in}
use Rattle.theory.specs.Roles.{endangers}
use Rattle.table.specs.Meaning.{table_in}
use Rattle.table.proofs.stated.Stated.is_unsafe_role.Goals as goal

pub returns : goal.returns
returns c =
    any_means (endangers (table_in c.args.self.now) c.args.role.number) axiom_in c.args.self.now.axioms.now _ _ c.any.result c.any.ensures.ran (cc) (λ x b q k. search (rules, tests))
