use Rattle.std.proofs.Common.{ℕ, List, MatchOption, sym, subst}
use Rattle.cfg_theory.specs.Grammar.{Sym, body_of}
use Rattle.cfg_numbered.specs.Symbols.{syms_of}
use Rattle.cfg_sentences.specs.CostTable.{AllHaveCosts, IsCost, HasNoCost}
use Rattle.cfg_sentences.proofs.CostSteps.{body_costs}
use Rattle.cfg_sentences.proofs.sentences.token_costs.TokenCosts.body_cost.Goals as goal

pub symbols_cost-requires-clause-within : goal.symbols_cost-requires-clause-within
symbols_cost-requires-clause-within g c =
    let G = c.args.self.now.grammar in
    let costs = c.args.self.now.costs in
    let table = c.args.table.now in
    let p = g.S.IndexStorage.number c.args.pidx.0 in
    subst (λ (l : List ℕ). AllHaveCosts l table (syms_of g.S.IndexStorage.number c.prod.result.now)) (sym c.costs.ensures.value)
    (subst (AllHaveCosts costs table) (sym c.prod.ensures) (body_costs G costs table p c.stays_well_formed.ensures c.costs.ensures.count c.requires.rules))

pub returns : goal.returns
returns g c =
    let G = c.args.self.now.grammar in
    let table = c.args.table.now in
    let o = c.symbols_cost.result in
    let given = c.costs.result.now in
    let p = g.S.IndexStorage.number c.args.pidx.0 in
    subst (λ (l : List ℕ). MatchOption o (HasNoCost l table (body_of G p)) (λ k. IsCost l table (body_of G p) k)) c.costs.ensures.value
    (subst (λ (a : List Sym). MatchOption o (HasNoCost given table a) (λ k. IsCost given table a k)) c.prod.ensures c.symbols_cost.ensures)
