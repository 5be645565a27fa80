use Rattle.std.proofs.lemmas.Bool.Decides.{same_from_decides}
use Rattle.theory.specs.Roles.{included}
use Rattle.theory.specs.WellFormed.{declares}
use Rattle.theory.proofs.Deciding.{included_computes}
use Rattle.theory.proofs.Members.{all_of_decides}
use Rattle.table.specs.Meaning.{expression_in, table_in}
use Rattle.table.proofs.stated.Stated.includes.Goals as goal

pub returns : goal.returns
returns c =
    let t = table_in c.args.self.now in
    same_from_decides c.reaches.result (included t (expression_in c.args.lower) (expression_in c.args.upper)) (simp (c.node.ensures, c.node-2.ensures) at c.reaches.ensures)
    (included_computes t ((all_of_decides (declares t) t.axioms).0 c.args.self.now.declared) _ _)
