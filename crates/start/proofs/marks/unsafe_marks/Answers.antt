use Rattle.std.proofs.Common.{◌≡◌, ap, ◌∙◌, rules, false}
use Rattle.table.specs.Answers.{meaning}
use Rattle.chase.specs.Judging.{unsafe_term}
use Rattle.chase.specs.Trials.{term_at}
use Rattle.trial.specs.Rows.{terms_in}
use Rattle.trial.proofs.Admitting.{few_terms}
use Rattle.graph.proofs.Made.{made_each}
use Rattle.start.proofs.Marking.{marks_past}
use Rattle.start.proofs.marks.unsafe_marks.Goals as goal

pub returns : goal.returns
returns c =
    let t = meaning c.args.table.now in
    let l = c.first_terms-terms.result in
    let made = c.from_fn.ensures.items in
    let told = marks_past t (terms_in l) c.from_fn.result made.long (few_terms l)
    (λ j h. made_each _ (λ k v. v ≡ unsafe_term t (term_at (terms_in l) k)) _ (λ k y q call. search rules) made j h false) in
    λ i. told i ∙ ap (λ ts. unsafe_term t (term_at ts i)) c.first_terms-terms.ensures
