use Rattle.std.proofs.Common.{◌≡◌, ℕ, ◌<◌, ◌≤◌, length, map}
use Rattle.lr_theory.specs.Building.{Building}
use Rattle.state_table.specs.ItemRows.{no_core}
use Rattle.lrtable.specs.Gaining.{core_in}
use Rattle.lrtable.specs.Handling.{AreHandled}
use Rattle.lrtable.specs.Builders.{IsBuilder, GoesOn, states_in}
use Rattle.lrtable.specs.States.{AreStates}
use Rattle.lrtable.specs.MovedItems.{set_of_moved}
use Rattle.lrtable.specs.Stepping.{AreGotosOf}
use Rattle.state_table.proofs.Marks.{marked_from}
use Rattle.lrtable.proofs.pager.place_all.Given as goal

abbrev pub invariant-ranks : goal.invariant-ranks
invariant-ranks g l =
    let number = g.S.IndexStorage.number in
    (goal.iterator-ranks g).can_next l.number-iterator ×
    (goal.iterator-ranks g).is_finite l.number-iterator ×
    ((m : ℕ) × record {
      within : m ≤ length l.fn.marks.bits;
      left : l.number-iterator ≡ marked_from l.fn.marks.bits m;
      emptied : (n : ℕ) → n < m → core_in (map (set_of_moved number l.rows) l.sets.items) n ≡ no_core;
      count : length l.sets.items ≡ length l.initial.sets.items;
      states : AreStates l.grm.grammar.tokens (states_in number l.builder);
      builder : IsBuilder number g.S.IndexStorage.MAX l.builder;
      goes : GoesOn number l.initial.builder l.builder;
      rest : (n : ℕ) → m ≤ n → core_in (map (set_of_moved number l.rows) l.sets.items) n ≡ core_in (map (set_of_moved number l.rows) l.initial.sets.items) n;
      handled : (before : Building) → AreGotosOf l.grm.grammar before l.initial.builder.from (map (set_of_moved number l.rows) l.initial.sets.items) → AreHandled l.grm.grammar before l.initial.builder.from 0 (states_in number l.initial.builder) →
          AreHandled l.grm.grammar before l.initial.builder.from m (states_in number l.builder);
    })
