use Rattle.std.proofs.Common.{not, Decides, sym, ap, ◌∙◌, subst}
use Rattle.theory.specs.Roles.{Simple, is_simple}
use Rattle.theory.proofs.Deciding.{simple_decides}
use Rattle.table.specs.Answers.{meaning}
use Rattle.table.proofs.Viewing.{sound_declared, undeclared_simple, not_below}
use Rattle.table.proofs.checked.Checked.is_simple.Goals as goal

pub returns-then-not-declares : goal.returns-then-not-declares
returns-then-not-declares c =
    let t = meaning c.args.self.now in
    (λ _. undeclared_simple t (sound_declared t c.args.self.now.sound) c.args.role.number (not_below _ _ _ c.declares.ensures c.if-not-declares.true), λ _. ap not c.if-not-declares.true)

pub returns-else-not-declares : goal.returns-else-not-declares
returns-else-not-declares c =
    let t = meaning c.args.self.now in
    let s = c.args.role.number in
    subst (λ b. Decides b (Simple t s)) (sym (c.is_simple.ensures ∙ ap (λ u. is_simple u s) c.stated.ensures)) (simple_decides t (sound_declared t c.args.self.now.sound) s (c.declares.ensures.0 c.if-not-declares.false))
