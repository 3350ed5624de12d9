use Rattle.std.proofs.Common.{List, length, subst, arith}
use Rattle.std.proofs.lemmas.List.{length-map}
use Rattle.vob.specs.Packed.{Contents}
use Rattle.state_table.specs.Meeting.{rows_in}
use Rattle.state_table.specs.OwnSets.{HaveOwn}
use Rattle.state_table.specs.CoreViews.{item_of, items_of, core_of_set}
use Rattle.state_table.specs.declared.cores.CoreItem.{CoreItem}
use Rattle.state_table.proofs.OwnSets.{own_all}
use Rattle.state_table.proofs.shared_sets.SharedSets.from_core.Goals as goal

pub returns-clause-core : goal.returns-clause-core
returns-clause-core g c =
    let number = g.S.IndexStorage.number in
    let core = c.args.core in
    let n = length-map core.items.items (item_of number) in
    let m = length-map core.looks.items (λ (v : Contents). v.bits) in
    let count = c.requires in
    let own = subst (λ (l : List (CoreItem g.row.S.Denot)). HaveOwn number (items_of number l) (length l) c.in_ok-entries.entries.items) c.as_slice.ensures.value c.in_ok-entries.ensures in
    own_all number (core_of_set number core) (length core.items.items) c.in_ok-entries.entries.items own (omega (arith, n)) (omega (arith, m, count))

pub returns-clause-within : goal.returns-clause-within
returns-clause-within g c =
    let number = g.S.IndexStorage.number in
    let core = c.args.core in
    let m = length-map core.looks.items (λ (v : Contents). v.bits) in
    let count = c.requires in
    let own = subst (λ (l : List (CoreItem g.row.S.Denot)). HaveOwn number (items_of number l) (length l) c.in_ok-entries.entries.items) c.as_slice.ensures.value c.in_ok-entries.ensures in
    own.within (rows_in core.looks.items) (omega (arith, m, count))
