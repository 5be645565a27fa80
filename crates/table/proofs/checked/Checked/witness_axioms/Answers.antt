use Rattle.std.proofs.Common.{rules, tests, refl, ap, ◌∙◌}
use Rattle.std.proofs.lemmas.Iterator.{YieldsList-from_slice}
use Rattle.std.proofs.lemmas.Iterator.Consumers.{YieldsList-at, YieldsList-from_filter, count_from_yields_List}
use Rattle.std.proofs.lemmas.List.Sums.{length-filter}
use Rattle.theory.specs.Lists.{count_of}
use Rattle.theory.specs.Table.{has_form}
use Rattle.theory.proofs.Scanning.{count_mapped}
use Rattle.layout.specs.Meaning.{axiom_in}
use Rattle.table.proofs.checked.Checked.witness_axioms.Goals as goal

pub returns : goal.returns
returns c =
    let xs = c.axioms.result.now in
    count_from_yields_List c.filter-witnesses.result _ c.count.ensures.ran (YieldsList-from_filter _ (λ a. has_form 8 (axiom_in a)) (YieldsList-at c.filter-witnesses.ensures.source (YieldsList-from_slice xs cc)) c.filter-witnesses.ensures.closure (λ x b q k. search (rules, tests)))
    ∙ length-filter (λ a. has_form 8 (axiom_in a)) xs ∙ count_mapped _ (has_form 8) axiom_in (λ a. refl) xs ∙ ap (count_of (has_form 8)) c.axioms.ensures.means
