use Rattle.std.proofs.Common.{arith}
use Rattle.cfg_sentences.proofs.CostSteps.{row_below, row_cost}
use Rattle.cfg_sentences.proofs.sentences.least.LeastCosts.of_rule.Goals as goal

pub index-requires : goal.index-requires
index-requires g c =
    let s = c.self.inside in
    let lt = row_below s.tokens.grammar s.tokens.costs s.least.items c.args.self.now c.self.view_is c.self.invariant.0.count c.to_usize.result (g.S.IndexStorage.number c.args.ridx.0) c.to_usize.ensures.value c.requires in
    let ok = s.least.ok.0 in
    omega (arith, lt, ok)

pub returns : goal.returns
returns g c =
    let s = c.self.inside in
    row_cost s.tokens.grammar s.tokens.costs s.least.items c.args.self.now c.self.view_is c.self.invariant.0.count c.to_usize.result (g.S.IndexStorage.number c.args.ridx.0) c.to_usize.ensures.value c.requires c.index.result.now c.index.ensures
