use Rattle.std.proofs.Common.{◌≡◌, true, false, not, length, Ok, Err, rules, tests, ap}
use Rattle.std.specs.Option.{MatchOption}
use Rattle.std.proofs.lemmas.Iterator.{YieldsList-from_slice, IsFirst-from_position}
use Rattle.std.proofs.lemmas.Option.{MatchOption-at_some, MatchOption-at_none}
use Rattle.theory.specs.WellFormed.{counts_simple}
use Rattle.theory.proofs.Places.{nth_map}
use Rattle.layout.specs.declared.axiom.Axiom.{Axiom}
use Rattle.layout.specs.declared.refusal.Refusal.TheVariants.{NotSimple}
use Rattle.layout.specs.Checking.{passes}
use Rattle.layout.specs.Meaning.{axiom_in}
use Rattle.table.specs.Meaning.{table_in}
use Rattle.table.specs.Stages.{not_simple, FirstPlace}
use Rattle.table.proofs.Counting.{at_first}
use Rattle.table.proofs.stated.Stated.simple_counts.Goals as goal
use Rattle.table.proofs.stated.Stated.simple_counts.Goals.{After-position-first}

-- where the search stops is the first place that is refused
found :
    (c : After-position-first) →
    let due = FirstPlace (not_simple (table_in c.args.self.now)) NotSimple (length c.args.self.now.axioms.now) in
    MatchOption c.position-first.result (due (Ok tt)) (λ k. due (Err (NotSimple k)))
found c =
    let t = table_in c.args.self.now in
    let xs = c.args.self.now.axioms.now in
    let refused = λ (a : Axiom). not (counts_simple t (axiom_in a)) in
    at_first xs (not_simple t) NotSimple refused (λ k a is. ap (passes (λ a. not (counts_simple t a))) (nth_map axiom_in xs k a is)) c.position-first.result
    (IsFirst-from_position _ _ c.position-first.result (λ a. refused a ≡ true) (λ a. refused a ≡ false) c.position-first.ensures.ran (YieldsList-from_slice xs cc) (λ x q k. search (rules, tests)) (λ x q k. search (rules, tests)))

pub returns-in-Some : goal.returns-in-Some
returns-in-Some c = MatchOption-at_some _ _ c.in-Some.k c.in-Some.is (found (goal.at.returns-in-Some c).After-position-first)

pub returns-in-None : goal.returns-in-None
returns-in-None c = MatchOption-at_none _ _ c.in-None.is (found (goal.at.returns-in-None c).After-position-first)
