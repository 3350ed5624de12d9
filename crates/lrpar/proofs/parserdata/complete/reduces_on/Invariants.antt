use Rattle.std.proofs.Common.{◌≡◌}
use Rattle.lr_theory.specs.Automaton.{reduce}
use Rattle.state_table.specs.TableValues.{action_at}
use Rattle.lrpar.proofs.SetBits.{SetTo}
use Rattle.lrpar.proofs.parserdata.complete.reduces_on.Given as goal

abbrev pub invariant-tokens : goal.invariant-tokens
invariant-tokens g l =
    (goal.iterator-tokens g).can_next l.index-iterator ×
    (goal.iterator-tokens g).is_finite l.index-iterator ×
    SetTo l.looks.bits (λ t. action_at l.machine.stable.now (g.S.IndexStorage.number l.state.0) t ≡ reduce (g.S.IndexStorage.number l.pidx.0)) l.index-iterator
