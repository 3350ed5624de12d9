use Rattle.std.proofs.Common.{sym, ap, ◌∙◌, subst}
use Rattle.lr_theory.specs.Itemset.{HasItem, HasLook, ClosureLook, FitsGrammar}
use Rattle.state_table.specs.CoreViews.{core_of_set}
use Rattle.state_table.specs.ItemRows.{FitsCore, map_of}
use Rattle.state_table.specs.Sharing.{shared_core}
use Rattle.state_table.proofs.Fitting.{shared_fits}
use Rattle.lrtable.proofs.FittingClosures.{closure_fits}
use Rattle.lrtable.proofs.itemset.ItemsetClosing.close.Goals as goal

pub closed_by-requires-clause-fits : goal.closed_by-requires-clause-fits
closed_by-requires-clause-fits g c =
    let G = c.args.grm.now.grammar in
    subst (FitsCore G) (sym c.in_ok-core.ensures) (shared_fits g.S.IndexStorage.number c.shared_sets.result.now c.args.self.now G c.shared_sets.ensures.kept c.shared_sets.ensures.value c.requires.fits)

pub returns-clause-fits : goal.returns-clause-fits
returns-clause-fits g c =
    let number = g.S.IndexStorage.number in
    let G = c.args.grm.now.grammar in
    let s = map_of (core_of_set number c.in_ok-core.core) in
    let fits = subst (FitsGrammar G) (sym (ap map_of c.in_ok-core.ensures ∙ c.shared_sets.ensures.value)) c.requires.fits in
    subst (FitsGrammar G) (sym c.of_shared.ensures) (closure_fits G s (ClosureLook G (HasItem s) (HasLook s)) (shared_core number c.in_ok-set.set) c.in_ok-set.ensures.core fits c.in_ok-set.ensures.is)
