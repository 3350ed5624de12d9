use Rattle.std.proofs.Common.{◌≡◌, ℕ, ◌≤◌, length, map, take}
use Rattle.std.specs.declared.alloc.Global.{Global}
use Rattle.std.specs.declared.vec.Vec.{Vec}
use Rattle.lrtable.specs.FinalStates.{edge_pairs_of}
use Rattle.lrtable.specs.States.{StateValue, state_at}
use Rattle.lrtable.specs.StateViews.{EdgeTo, value_of}
use Rattle.state_table.specs.GraphViews.{edges_seen}
use Rattle.state_table.specs.ItemRows.{map_of}
use Rattle.lrtable.proofs.finishing.take_parts.Given as goal

abbrev pub invariant-states : goal.invariant-states
invariant-states g l =
    let value = value_of g.S.IndexStorage.number in
    record {
      count : length l.states.items ≡ length l.initial.states.items;
      left : (r : ℕ) → l.number ≤ r → state_at (map value l.states.items) r ≡ state_at (map value l.initial.states.items) r;
      sets : l.sets.items ≡ map (λ (s : StateValue). map_of s.core) (map value (take l.number l.initial.states.items));
      lists : map (λ (v : Vec (EdgeTo g.row.S.Denot) Global). edges_seen g.S.IndexStorage.number v.items) l.lists.items ≡ map edge_pairs_of (map value (take l.number l.initial.states.items));
    }
