use Rattle.std.proofs.Common.{◌≡◌, ℕ, ◌≤◌, length, map}
use Rattle.lrtable.specs.Gaining.{Gains, KeepsMarks}
use Rattle.lrtable.specs.MovedItems.{set_of_moved}
use Rattle.lrtable.specs.Stepping.{OpenBelow, OpenLooksBelow}
use Rattle.state_table.proofs.Marks.{marked_from}
use Rattle.lrtable.proofs.moves.move_open.Given as goal

-- the open rules below a number are moved, and those from there on are left
abbrev pub invariant-rules : goal.invariant-rules
invariant-rules g l =
    let number = g.S.IndexStorage.number in
    (goal.iterator-rules g).can_next l.number-iterator ×
    (goal.iterator-rules g).is_finite l.number-iterator ×
    ((n : ℕ) × record {
      within : n ≤ length l.rows.opening.opened;
      left : l.number-iterator ≡ marked_from l.rows.opening.opened n;
      gains : Gains l.grm.grammar (OpenBelow l.grm.grammar l.rows.opening n) (OpenLooksBelow l.grm.grammar l.rows.opening n) (map (set_of_moved number l.rows) l.initial.sets.items) (map (set_of_moved number l.rows) l.sets.items);
      marks : KeepsMarks l.initial.marks.bits (map (set_of_moved number l.rows) l.initial.sets.items) l.marks.bits (map (set_of_moved number l.rows) l.sets.items);
    })
