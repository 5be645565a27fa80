use Rattle.std.proofs.Common.{◌≡◌, Decides, sym, subst, rules, tests}
use Rattle.theory.specs.Roles.{Unsafe, is_unsafe}
use Rattle.theory.proofs.Deciding.{unsafe_decides}
use Rattle.table.specs.Answers.{meaning}
use Rattle.table.proofs.Viewing.{sound_declared}
use Rattle.table.proofs.checked.Checked.is_unsafe.Goals as goal

pub returns-clause-decides : goal.returns-clause-decides
returns-clause-decides c =
    let t = meaning c.args.self.now in
    let same : c.is_some_and.result ≡ is_unsafe t c.args.k = search (rules, tests) in
    subst (λ b. Decides b (Unsafe t c.args.k)) (sym same) (unsafe_decides t (sound_declared t c.args.self.now.sound) c.args.k)
