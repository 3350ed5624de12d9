-- What the closings of one core after another are made with.
use Rattle.std.specs.Prelude.{◌≡◌, [], length}
use Rattle.cfg_theory.specs.Grammar.{Grammar}
use Rattle.lrtable.specs.declared.opening.Closer.{Closer}
use Rattle.lrtable.specs.Closes.{AreFronts}
use Rattle.lrtable.specs.Opening.{IsTidy}
use Rattle.lrtable.specs.Stepping.{IsSized}
use Rattle.lrtable.specs.MadeTails.{AreTails}

-- its sets are of the grammar and of its sizes, and no rule waits
pub record IsReady {S : Type 0} (G : Grammar) (c : Closer S) : Type 0 where
  pub tails : AreTails G c.tails
  pub openers : AreFronts G c.openers.now
  pub sizes : IsSized G c.opening
  pub tidy : IsTidy c.opening
  pub width : length c.looks.bits ≡ G.tokens
  pub rest : length c.rest.first.bits ≡ G.tokens
  pub none_waits : c.waiting ≡ []
