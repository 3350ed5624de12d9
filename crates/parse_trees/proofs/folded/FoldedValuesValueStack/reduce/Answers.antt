use Rattle.parse_trees.specs.Stacks.{NodeGives}
use Rattle.parse_trees.proofs.Folding.{values_enough, stand_reduced}
use Rattle.parse_trees.proofs.folded.FoldedValuesValueStack.reduce.Goals as goal

pub fold_top-requires-clause-enough : goal.fold_top-requires-clause-enough
fold_top-requires-clause-enough g c =
    let h = c.requires.stands in
    values_enough _ _ h.0 _ _ c.args.self.now.values.items c.args.self.now.spans.items h.1 h.2 c.args.count h.3

pub returns-clause-stands : goal.returns-clause-stands
returns-clause-stands g c = λ G ts below f is h popped.
    stand_reduced _ _ G _ _ c.args.self.now.values.items c.args.self.now.spans.items ts h (NodeGives g.S.IndexStorage.number (goal.R-post g c.args.self.now.fnonterm.now) c.args.alloc) (λ p r s vs v e. (c.args.alloc, e))
    (g.S.IndexStorage.number c.args.pidx.0) (g.S.IndexStorage.number c.args.ridx.0) c.args.count f below c.fold_top.new.values.items c.fold_top.new.spans.items is popped c.in_ok-fold_top.ensures.folded c.in_ok-fold_top.ensures.same c.in_ok-fold_top.ensures.ascend
