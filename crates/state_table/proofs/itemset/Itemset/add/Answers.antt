use Rattle.std.proofs.Common.{◌↔◌, length, sym, subst}
use Rattle.std.specs.Prelude.{IsTrue}
use Rattle.lr_theory.specs.Itemset.{ItemSet}
use Rattle.state_table.specs.ItemRows.{Core, Ascends, IsCoreOf}
use Rattle.state_table.specs.Itemsets.{IsNewTo}
use Rattle.state_table.specs.Sharing.{shared_core, shared_map}
use Rattle.state_table.proofs.Fitting.{shared_good, core_has_width, added_fits, adds_from}
use Rattle.state_table.proofs.itemset.Itemset.add.Goals as goal

pub add-requires-clause-core : goal.add-requires-clause-core
add-requires-clause-core g c = shared_good g.S.IndexStorage.number c.self.inside.set c.args.self.now (length c.args.ctx.now.bits) c.self.invariant c.self.view_is c.requires

pub invariant_of-self : goal.invariant_of-self
invariant_of-self g c =
    let kept = c.in_err-grew.ensures.kept in
    record { ascends = subst (λ (x : Core). Ascends x.items) (sym kept.core) c.self.invariant.ascends; within = kept.within }

pub returns-clause-items : goal.returns-clause-items
returns-clause-items g c =
    let number = g.S.IndexStorage.number in
    (adds_from (shared_map number c.self.inside.set) c.args.self.now (shared_map number c.add.new.self) (number c.args.pidx.0) (number c.args.dot.0) c.args.ctx.now.bits c.self.view_is c.in_ok-grew.ensures.added.adds).items

pub returns-clause-looks : goal.returns-clause-looks
returns-clause-looks g c =
    let number = g.S.IndexStorage.number in
    (adds_from (shared_map number c.self.inside.set) c.args.self.now (shared_map number c.add.new.self) (number c.args.pidx.0) (number c.args.dot.0) c.args.ctx.now.bits c.self.view_is c.in_ok-grew.ensures.added.adds).looks

pub returns-clause-width : goal.returns-clause-width
returns-clause-width g c = core_has_width (length c.args.ctx.now.bits) (shared_core g.S.IndexStorage.number c.add.new.self) c.in_ok-grew.ensures.added.core

pub returns-clause-fits : goal.returns-clause-fits
returns-clause-fits g c = λ G fits production dot wide.
    let number = g.S.IndexStorage.number in
    added_fits G c.args.self.now (shared_core number c.add.new.self) (number c.args.pidx.0) (number c.args.dot.0) (subst (λ n. IsCoreOf n (shared_core number c.add.new.self)) wide c.in_ok-grew.ensures.added.core) (adds_from (shared_map number c.self.inside.set) c.args.self.now (shared_map number c.add.new.self) (number c.args.pidx.0) (number c.args.dot.0) c.args.ctx.now.bits c.self.view_is c.in_ok-grew.ensures.added.adds).items fits production dot

pub returns-clause-grew : goal.returns-clause-grew
returns-clause-grew g c =
    let number = g.S.IndexStorage.number in
    subst (λ (s : ItemSet). IsTrue c.in_ok-grew.grew ↔ IsNewTo s (number c.args.pidx.0) (number c.args.dot.0) c.args.ctx.now.bits) c.self.view_is c.in_ok-grew.ensures.grew
