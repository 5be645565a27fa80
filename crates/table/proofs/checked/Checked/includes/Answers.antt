use Rattle.std.proofs.Common.{◌<◌, Decides, sym, ap, ◌∙◌, subst}
use Rattle.theory.specs.Roles.{Included, included}
use Rattle.theory.proofs.Deciding.{included_decides}
use Rattle.table.specs.Answers.{meaning}
use Rattle.table.specs.Meaning.{expression_in}
use Rattle.table.proofs.Viewing.{sound_declared, undeclared_includes, eq_same}
use Rattle.table.proofs.checked.Checked.includes.Goals as goal
use Rattle.table.proofs.checked.Checked.includes.Goals.{else-declares-via-then-declares+else-declares-2, else-declares-via-else-declares}
use Rattle.std.proofs.lemmas.Bool.{both_ways}

pub returns-then-declares-2 : goal.returns-then-declares-2
returns-then-declares-2 c =
    let t = meaning c.args.self.now in
    let e = expression_in c.args.lower in
    let f = expression_in c.args.upper in
    subst (λ b. Decides b (Included t e f)) (sym (c.includes.ensures ∙ ap (λ u. included u e f) c.stated.ensures))
    (included_decides t (sound_declared t c.args.self.now.sound) e f (subst (λ n. n < t.roles) c.role.ensures (c.declares.ensures.0 c.if-declares.true))
    (subst (λ n. n < t.roles) c.role-then-declares.ensures (c.declares-then-declares.ensures.0 c.if-declares-2.true)))

pub returns-else-declares : goal.returns-else-declares
returns-else-declares c =
    let t = meaning c.args.self.now in
    let e = expression_in c.args.lower in
    let f = expression_in c.args.upper in
    subst (λ b. Decides b (Included t e f)) (sym (c.eq.ensures ∙ eq_same c.args.lower c.args.upper))
    (undeclared_includes t (sound_declared t c.args.self.now.sound) e f
    (λ h k.
    elim c.else-declares.branch [
      | else-declares-via-then-declares+else-declares-2 w ↦ both_ways _ w.if-declares-2.false (w.declares-then-declares.ensures.1 (subst (λ n. n < t.roles) (sym w.role-then-declares.ensures) k))
      | else-declares-via-else-declares w ↦ both_ways _ w.if-declares.false (c.declares.ensures.1 (subst (λ n. n < t.roles) (sym c.role.ensures) h))
    ]))
