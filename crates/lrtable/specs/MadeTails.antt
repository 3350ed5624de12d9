-- What follows the symbols behind dots, made beforehand.
use Rattle.std.specs.Prelude.{length}
use Rattle.std.specs.List.{Contains}
use Rattle.cfg_theory.specs.Grammar.{Grammar}
use Rattle.cfg_sets.specs.Firsts.{AreFirsts}
use Rattle.lrtable.specs.declared.tails.Tail.{Tail}
use Rattle.lrtable.specs.declared.tails.Tails.{Tails}
use Rattle.lrtable.specs.Closes.{IsRest}

-- the sets are the grammar's, and each that was made is what follows the symbol behind its dot
pub record AreTails {S : Type 0} (G : Grammar) (t : Tails S) : Type 0 where
  pub firsts : AreFirsts G t.firsts.now
  pub made : (x : Tail) → Contains t.made.items x → IsRest G x.production x.dot x.rest.first.bits x.rest.nullable
