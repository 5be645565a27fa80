use Rattle.std.proofs.Common.{◌≡◌, ℕ, List, Result, sym, refl, ap, ◌∙◌, subst}
use Rattle.theory.specs.Table.{Table}
use Rattle.chase.specs.Trials.{State, Entry}
use Rattle.judgement.specs.declared.judgement.Found.{Found}
use Rattle.judgement.specs.declared.judgement.Unjudged.{Unjudged}
use Rattle.table.specs.Answers.{meaning}
use Rattle.trial.specs.Desks.{state_of}
use Rattle.verdict.specs.Verdicts.{VerdictOf}
use Rattle.judging.proofs.Running.{moved}
use Rattle.judgement.specs.Answering.{JudgedAs}
use Rattle.judgement.proofs.telling.judge_checked.Goals as goal
use Rattle.judgement.proofs.telling.judge_checked.Goals.{in-Ok, in-Err}

pub new-requires : goal.new-requires
new-requires g c =
    let found = c.in-Ok.ensures in
    ∣ subst (λ k. VerdictOf (meaning k) c.in-Ok.finding.verdict) (sym found.table) found.judged.0 ∣₁

-- what is said of a result is said of an equal one, of an equal table and as many rows
said : {t u : Table} {n m : ℕ} (r k : Result Found Unjudged) (es : List Entry) → r ≡ k → t ≡ u → n ≡ m → JudgedAs t n k es → JudgedAs u m r es
said {t} {u} {n} {m} r k es is e f h = subst (λ x. JudgedAs u m x es) (sym is) (moved (λ v i. JudgedAs v i k es) e f h)

pub returns : goal.returns
returns g c =
    let table = ap meaning c.bench-desk.ensures.table in
    let rows = ap g.L.Ledger.capacity c.bench-desk.ensures.ledger in
    let kept = ap meaning c.judge-found.ensures.table in
    let after = state_of c.judge-found.new.desk.terms (g.L.Ledger.entries c.judge-found.new.desk.ledger) in
    record {
      judged = elim c.match-found.branch [
        | in-Ok w ↦
            let (own, judges) = w.in-Ok.ensures.judged in
            said _ _ _ w.judged-is table rows (ap meaning w.new.ensures.table ∙ kept, subst (λ v. VerdictOf _ v) (sym w.new.ensures.verdict) own, (after, judges, refl))
        | in-Err w ↦
            let (why, place, none) = w.in-Err.ensures.judged in
            said _ _ _ w.judged-is table rows (kept, why, place, ap (λ (s : State). s.entries) none)
      ];
      fixed = c.judge-found.ensures.fixed ∙ rows;
      ready = c.judge-found.ensures.ready;
    }
