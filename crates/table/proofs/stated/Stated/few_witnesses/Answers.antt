use Rattle.std.proofs.Common.{◌≡◌, ℕ, rules, tests, sym, ap, ◌∙◌}
use Rattle.std.specs.List.{slice_get}
use Rattle.std.specs.Option.{option_map}
use Rattle.std.proofs.lemmas.Iterator.{YieldsList-from_slice}
use Rattle.std.proofs.lemmas.Iterator.Consumers.{YieldsList-at, YieldsList-from_filter, YieldsList-from_enumerate, nth_from_yields_List}
use Rattle.theory.specs.Table.{has_form}
use Rattle.layout.specs.declared.axiom.Axiom.{Axiom}
use Rattle.layout.specs.Meaning.{axiom_in}
use Rattle.table.proofs.Counting.{kept, witness_place, no_witness_place}
use Rattle.table.proofs.stated.Stated.few_witnesses.Goals as goal
use Rattle.table.proofs.stated.Stated.few_witnesses.Goals.{After-nth}

-- what the chain answers is the 33rd of those that ask for a witness, with its place
found : (c : After-nth) → option_map (λ (e : _). (e.0, e.1.now)) c.nth.result ≡ slice_get (kept axiom_in (has_form 8) 0 c.args.self.now.axioms.now) 32
found c =
    let xs = c.args.self.now.axioms.now in
    let numbered = YieldsList-from_enumerate (YieldsList-at c.enumerate.ensures.source (YieldsList-from_slice xs cc)) c.enumerate.ensures.count in
    nth_from_yields_List c.nth.result _ 32 c.nth.ensures.ran
    (YieldsList-from_filter _ (λ (e : ℕ × Axiom). has_form 8 (axiom_in e.1)) (YieldsList-at c.filter-witnesses.ensures.source numbered) c.filter-witnesses.ensures.closure (λ x b q k. search (rules, tests)))

pub returns-in-Some : goal.returns-in-Some
returns-in-Some c = witness_place c.args.self.now.axioms.now (c.in-Some.k, c.in-Some.field-0-1.now) (sym (found (goal.at.returns-in-Some c).After-nth) ∙ ap (option_map _) c.in-Some.is)

pub returns-in-None : goal.returns-in-None
returns-in-None c = no_witness_place c.args.self.now.axioms.now (sym (found (goal.at.returns-in-None c).After-nth) ∙ ap (option_map _) c.in-None.is)
