use Rattle.std.proofs.Common.{map}
use Rattle.lrtable.specs.Gaining.{Gains, KeepsMarks}
use Rattle.lrtable.specs.MovedItems.{set_of_moved}
use Rattle.state_table.specs.CoreViews.{core_of_set}
use Rattle.lrtable.specs.Stepping.{ItemsBelow, LooksBelow}
use Rattle.lrtable.proofs.moves.move_core.Given as goal

abbrev pub invariant-items : goal.invariant-items
invariant-items g l =
    let number = g.S.IndexStorage.number in
    let seen = set_of_moved number l.rows in
    record {
      gains : Gains l.grm.grammar (ItemsBelow (core_of_set number l.core) l.k) (LooksBelow (core_of_set number l.core) l.k) (map seen l.initial.sets.items) (map seen l.sets.items);
      marks : KeepsMarks l.initial.marks.bits (map seen l.initial.sets.items) l.marks.bits (map seen l.sets.items);
    }
