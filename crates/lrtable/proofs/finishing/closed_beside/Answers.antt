use Rattle.std.proofs.Common.{List, length, sym, subst}
use Rattle.std.proofs.lemmas.List.{length-map}
use Rattle.lr_theory.specs.Itemset.{ItemSet, HasItem, HasLook, Closure, ClosureLook, Is, FitsGrammar}
use Rattle.state_table.specs.ItemRows.{map_of}
use Rattle.state_table.specs.Sharing.{shared_core}
use Rattle.state_table.specs.CoreViews.{item_of, items_of, core_of_set}
use Rattle.state_table.specs.declared.cores.CoreItem.{CoreItem}
use Rattle.lrtable.specs.FinalStates.{IsClosure}
use Rattle.lrtable.specs.Stepping.{HaveNoNext}
use Rattle.lrtable.proofs.Complete.{own_closure}
use Rattle.lrtable.proofs.FittingClosures.{closure_fits_core}
use Rattle.lrtable.proofs.finishing.closed_beside.Goals as goal

pub returns-then-not-any_incomplete-clause-closure : goal.returns-then-not-any_incomplete-clause-closure
returns-then-not-any_incomplete-clause-closure g c =
    let number = g.S.IndexStorage.number in
    let G = c.args.grm.now.grammar in
    let core = core_of_set number c.args.core.now in
    let m = length-map c.args.core.now.items.items (item_of number) in
    let none = subst (λ (l : List (CoreItem g.row.S.Denot)). HaveNoNext G (items_of number l) (length l)) c.as_slice.ensures.value (c.any_incomplete.ensures c.if-not-any_incomplete.true) in
    record { is = own_closure G core c.requires.fits.good (subst (HaveNoNext G core.items) (sym m) none); fit = c.requires.dots }

pub returns-clause-closure : goal.returns-clause-closure
returns-clause-closure g c =
    let number = g.S.IndexStorage.number in
    let G = c.args.grm.now.grammar in
    let core = core_of_set number c.args.core.now in
    let is = c.in_ok-set.ensures.is in
    subst (IsClosure G (map_of core)) (sym c.of_shared.ensures) (record { is = is; fit = closure_fits_core G core (shared_core number c.in_ok-set.set) c.in_ok-set.ensures.core c.requires.dots is })
