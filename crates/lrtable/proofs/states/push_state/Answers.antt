use Rattle.std.proofs.Common.{List, true, ap₂}
use Rattle.state_table.specs.ItemRows.{Core}
use Rattle.lrtable.specs.StateViews.{EdgeTo, edges_of, value_of}
use Rattle.lrtable.proofs.StateSteps.{pushed}
use Rattle.lrtable.proofs.states.push_state.Goals as goal

pub returns : goal.returns
returns g c =
    let number = g.S.IndexStorage.number in
    pushed (value_of number) c.args.states.now.items _ c.push.new.self.items _ (ap₂ (λ (x : Core) (l : List (EdgeTo g.row.S.Denot)). record { core = x; edges = edges_of number l; todo = true }) c.in_ok-core.ensures c.new.ensures.items) c.in_ok-push.ensures.items
