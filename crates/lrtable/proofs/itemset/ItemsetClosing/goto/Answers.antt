use Rattle.std.proofs.Common.{sym, subst}
use Rattle.cfg_numbered.specs.Symbols.{sym_of}
use Rattle.lr_theory.specs.Itemset.{HasItem, HasLook, GotoLook, FitsGrammar}
use Rattle.state_table.specs.Sharing.{shared_core, shared_map}
use Rattle.state_table.proofs.Fitting.{shared_fits}
use Rattle.lrtable.proofs.FittingClosures.{moved_fits}
use Rattle.lrtable.proofs.itemset.ItemsetClosing.goto.Goals as goal

pub moved_set-requires-clause-fits : goal.moved_set-requires-clause-fits
moved_set-requires-clause-fits g c = shared_fits g.S.IndexStorage.number c.shared_sets.result.now c.args.self.now c.args.grm.now.grammar c.shared_sets.ensures.kept c.shared_sets.ensures.value c.requires

pub returns-clause-fits : goal.returns-clause-fits
returns-clause-fits g c =
    let number = g.S.IndexStorage.number in
    let G = c.args.grm.now.grammar in
    let s = shared_map number c.shared_sets.result.now in
    let X = sym_of number c.args.sym.now in
    subst (FitsGrammar G) (sym c.of_shared.ensures) (moved_fits G (HasItem s) X (GotoLook G (HasLook s) X) (shared_core number c.in_ok-set.set) c.in_ok-set.ensures.core c.in_ok-set.ensures.is)
