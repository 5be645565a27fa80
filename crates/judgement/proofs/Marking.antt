-- The line of a table whose verdict is known and whose judging ends.
use Rattle.std.proofs.Common.{◌≡◌, ℕ, ◌+◌, ◌<◌, true, List, [], ◌∷◌, ◌++◌, codes, Ok, Err, Result, refl, ap, ◌∙◌, subst, arith}
use Rattle.std.proofs.lemmas.Fmt.{decimal_digit}
use Rattle.theory.specs.Table.{Table}
use Rattle.theory.specs.WellFormed.{well_formed}
use Rattle.theory.proofs.Accepting.{well_formed_decides}
use Rattle.layout.specs.Checking.{checked}
use Rattle.layout.specs.Encoding.{encode}
use Rattle.layout.proofs.Writing.{table_read_back}
use Rattle.chase.specs.Examples.{JudgedTo}
use Rattle.chase.specs.Fact.{Fact}
use Rattle.chase.specs.LawOfJudging.{Starts}
use Rattle.chase.specs.Trials.{Entry}
use Rattle.chase.proofs.Judging.{judging_stands}
use Rattle.shapes.specs.declared.shape.Shape.{Shape}
use Rattle.verdict.specs.Marked.{found}
use Rattle.verdict.specs.Verdicts.{VerdictOf}
use Rattle.verdict.proofs.Unique.{one_verdict}
use Rattle.judgement.specs.declared.judgement.Judgement.{Judgement}
use Rattle.judgement.specs.declared.judgement.Found.{Found}
use Rattle.judgement.specs.declared.judgement.Unjudged.{Unjudged}
use Rattle.judgement.specs.declared.judgement.Unjudged.TheVariants.{Refused, Overfull}
use Rattle.judgement.specs.Answering.{Says, JudgedAs}
use Rattle.judgement.specs.Lines.{newline, outcome_text, judgement_text}
use Rattle.shapes.specs.Naming.{shape_text}
use Rattle.verdict.specs.Lines.{verdict_words}

-- a verdict with numbers below ten, byte by byte
abbrev short_text : Shape → ℕ → ℕ → List ℕ
short_text s h u = shape_text s ++ (codes " h=" ++ ((48 + h) ∷ (codes " u=" ++ ((48 + u) ∷ []))))

short : (s : Shape) (h u : ℕ) → h < 10 → u < 10 → verdict_words (found s h u) ≡ short_text s h u
short s h u a b = rw (decimal_digit h a, decimal_digit u b) refl

pub line_of : (t : Table) (s : Shape) (h u : ℕ) (unsafe : List ℕ) (drawn : List (Fact ℕ)) → h < 10 → u < 10 → well_formed t ≡ true → Starts t 4096 → VerdictOf t (found s h u) → JudgedTo t unsafe drawn
    → (j : Judgement) (es : List Entry) → Says (checked (encode t)) 4096 j.0 es → judgement_text j ≡ short_text s h u ++ newline
line_of t s h u unsafe drawn a b ok fits own judged j es said =
    ap (λ l. l ++ newline) (go j.0 (subst (λ o. Says o 4096 j.0 es) (table_read_back t ((well_formed_decides t).0 ok)) said))
  where
    go : (r : Result Found Unjudged) → JudgedAs t 4096 r es → outcome_text r ≡ short_text s h u
    go (Ok f) (same, one, rest) = ap verdict_words (one_verdict t f.judged.verdict (found s h u) one own) ∙ short s h u a b
    go (Err (Refused f)) never = absurd never
    go (Err (Overfull k o)) (same, why, place, none) =
        let law = judging_stands t ((well_formed_decides t).0 ok) in
        absurd (omega (arith, law.refused_only 4096 _ place, law.judged_only 4096 _ (record { fits = fits; budget = 100000; quiet = judged.saturated; ends = refl })))
