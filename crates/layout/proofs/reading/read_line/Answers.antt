use Rattle.std.proofs.Common.{arith, ◌≡◌, [], map, Some, sym, ◌∙◌}
use Rattle.std.proofs.lemmas.Grind.{common_steps}
use Rattle.theory.specs.Table.{same_line}
use Rattle.theory.proofs.Scanning.{any_mapped}
use Rattle.layout.specs.Forms.{code_of}
use Rattle.layout.specs.Meaning.{line_in, table_of}
use Rattle.layout.proofs.Taking.{same_turned, says_axiom, only_repeated}
use Rattle.layout.proofs.reading.read_line.Goals as goal

pub returns-then-contains : goal.returns-then-contains
returns-then-contains c =
    let v = c.contains.ensures.value ∙ any_mapped _ (same_line (line_in c.args.line)) line_in (λ y. same_turned y c.args.line) c.args.earlier.now in
    let n : code_of c.in_ok-form.form ≡ c.args.line.form = grind (arith, common_steps) in
    let is : c.axiom_of.result ≡ Some c.in_ok-axiom.axiom = grind (arith, common_steps) in
    only_repeated (table_of c.args.sizes []) c.args.line _ c.in_ok-axiom.axiom n _ is c.axiom_of.ensures (map line_in c.args.earlier.now) c.args.place _ (sym v ∙ c.if-contains.true)

pub returns : goal.returns
returns c =
    let v = c.contains.ensures.value ∙ any_mapped _ (same_line (line_in c.args.line)) line_in (λ y. same_turned y c.args.line) c.args.earlier.now in
    let n : code_of c.in_ok-form.form ≡ c.args.line.form = grind (arith, common_steps) in
    let is : c.axiom_of.result ≡ Some c.in_ok-axiom.axiom = grind (arith, common_steps) in (
      only_repeated (table_of c.args.sizes []) c.args.line _ c.in_ok-axiom.axiom n _ is c.axiom_of.ensures (map line_in c.args.earlier.now) c.args.place _ (sym v ∙ c.if-contains.false),
      says_axiom (table_of c.args.sizes []) c.args.line _ c.in_ok-axiom.axiom n _ is c.axiom_of.ensures,
    )
