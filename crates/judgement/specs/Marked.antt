-- The lines of the marked tables.
use Rattle.std.specs.Prelude.{◌≡◌, ℕ, List, ◌++◌, length, codes}
use Rattle.theory.specs.Table.{Table}
use Rattle.layout.specs.Checking.{checked}
use Rattle.layout.specs.Encoding.{encode}
use Rattle.chase.specs.Examples as tables
use Rattle.chase.specs.Trials.{Entry}
use Rattle.judgement.specs.declared.judgement.Judgement.{Judgement}
use Rattle.judgement.specs.Answering.{Says}
use Rattle.judgement.specs.Lines.{newline, judgement_text}

-- Whatever is said of the table's bytes with 4,096 rows, the line is this.
abbrev pub LineIs : Table → List ℕ → Type 0
LineIs t line = (j : Judgement) (es : List Entry) → Says (checked (encode t)) 4096 j.0 es → judgement_text j ≡ line ++ newline

pub record MarkedLines : Type 0 where
  pub lodge_long : length (encode tables.lodge) ≡ 78
  pub lodge : LineIs tables.lodge (codes "forest h=1 u=1")
  pub one_way : LineIs tables.one_way (codes "forest h=0 u=0")
  pub loop : LineIs tables.loop (codes "cyclic h=0 u=1")
  pub two_levels : LineIs tables.two_levels (codes "acyclic h=2 u=4")
