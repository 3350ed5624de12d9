use Rattle.std.proofs.Common.{List, length, sym, ap, ◌∙◌, subst}
use Rattle.std.proofs.lemmas.List.{length-map}
use Rattle.std.proofs.lemmas.Result.{IfOk-weaker}
use Rattle.vob.specs.Packed.{Contents}
use Rattle.lr_theory.specs.Itemset.{Closure, ClosureLook, HasItem, HasLook, Is}
use Rattle.state_table.specs.ItemRows.{Core, IsCoreOf, map_of}
use Rattle.state_table.specs.Sharing.{shared_map}
use Rattle.state_table.specs.CoreViews.{item_of, items_of, core_of_set}
use Rattle.state_table.specs.declared.cores.CoreItem.{CoreItem}
use Rattle.lrtable.specs.Stepping.{HaveNoNext}
use Rattle.lrtable.proofs.Opened.{closed_is}
use Rattle.lrtable.proofs.Complete.{own_closure}
use Rattle.lrtable.proofs.closures.closed_by.Goals as goal

pub of_core-requires : goal.of_core-requires
of_core-requires g c =
    let n = length-map c.args.core.now.items.items (item_of g.S.IndexStorage.number) in
    let m = length-map c.args.core.now.looks.items (λ (v : Contents). v.bits) in
    sym m ∙ c.requires.fits.good.count ∙ n

pub open_rules-requires-clause-core : goal.open_rules-requires-clause-core
open_rules-requires-clause-core g c = subst (IsCoreOf c.args.grm.now.grammar.tokens) (sym c.in_ok-set.ensures.core) c.requires.fits.good

pub returns-clause-is : goal.returns-clause-is
returns-clause-is g c =
    let number = g.S.IndexStorage.number in
    let G = c.args.grm.now.grammar in
    let core = core_of_set number c.args.core.now in
    let grown = c.in_ok-open_rules.ensures in
    subst (λ (m : Core). Is (map_of m) (Closure G (HasItem (map_of core))) (ClosureLook G (HasItem (map_of core)) (HasLook (map_of core)))) (sym c.fit.ensures.core)
    (closed_is G c.args.closer.now.openers.now core c.close.new.self.opening c.start_prod.ensures.well_formed c.requires.ready.openers c.in_ok-close.ensures.closed (shared_map number c.in_ok-set.set) (shared_map number c.open_rules.new.set)
    (ap map_of c.in_ok-set.ensures.core) grown.extends.items grown.extends.looks)

pub returns-clause-core : goal.returns-clause-core
returns-clause-core g c = subst (IsCoreOf c.args.grm.now.grammar.tokens) (sym c.fit.ensures.core) c.in_ok-open_rules.ensures.core

pub returns-clause-within : goal.returns-clause-within
returns-clause-within g c = c.fit.ensures.within c.in_ok-open_rules.ensures.within
