use Rattle.std.proofs.Common.{◌≡◌, ◌+◌, ◌-◌, List, length, drop, min, Some, sym, ◌∙◌, subst, arith}
use Rattle.cfg_theory.specs.Grammar.{Sym}
use Rattle.cfg_numbered.specs.Symbols.{sym_of, syms_of}
use Rattle.cfg_sentences.specs.CostTable.{bound, cost_at, IsCost, HasNoCost}
use Rattle.cfg_sets.proofs.Backwards.{rest_next}
use Rattle.cfg_sentences.proofs.CostSteps.{all_at, cost_cons, no_cost_cons, no_cost_of}
use Rattle.cfg_sentences.proofs.sentences.token_costs.symbols_cost.Goals as goal

pub symbol_cost-requires-clause-within : goal.symbol_cost-requires-clause-within
symbol_cost-requires-clause-within g c =
    let xs = c.args.symbols.now in
    let lt = c.back-test.true in
    let x = c.index-symbols-symbols.result in
    all_at c.args.costs.now c.args.least.now (sym_of g.S.IndexStorage.number) xs (length xs - 1 - c.back.index) x x c.requires.within (omega (arith, lt)) c.index-symbols-symbols.is

pub returns-in_default : goal.returns-in_default
returns-in_default g c =
    let view = sym_of g.S.IndexStorage.number in
    let xs = c.args.symbols.now in
    let lt = c.back-test.true in
    let index = c.back.index in
    let at = length xs - 1 - index in
    let e : at + 1 + index ≡ length xs = omega (arith, lt) in
    let x = c.index-symbols-symbols.result in
    let costs = c.args.costs.now in
    let table = c.args.least.now in
    no_cost_of costs table (syms_of g.S.IndexStorage.number xs) (length xs - (index + 1))
    (subst (HasNoCost costs table) (sym (rest_next view xs index at x e c.index-symbols-symbols.is)) (no_cost_cons costs table (view x) (drop (length xs - index) (syms_of g.S.IndexStorage.number xs)) (sym c.in_default.ensures.value)))

pub back-preserved : goal.back-preserved
back-preserved g c =
    let view = sym_of g.S.IndexStorage.number in
    let xs = c.args.symbols.now in
    let lt = c.back-test.true in
    let index = c.back.index in
    let at = length xs - 1 - index in
    let e : at + 1 + index ≡ length xs = omega (arith, lt) in
    let x = c.index-symbols-symbols.result in
    let costs = c.args.costs.now in
    let table = c.args.least.now in
    let cost : cost_at costs table (view x) ≡ Some c.in-Some.cost = sym c.symbol_cost.ensures.value ∙ c.in-Some.is in
    let whole = cost_cons costs table (view x) (drop (length xs - index) (syms_of g.S.IndexStorage.number xs)) c.in-Some.cost c.back.sum cost c.back.invariant in
    subst (IsCost costs table (drop (length xs - (index + 1)) (syms_of g.S.IndexStorage.number xs))) (sym c.plus-sum.ensures)
    (subst (λ (l : List Sym). IsCost costs table l (min (c.in-Some.cost + c.back.sum) bound)) (sym (rest_next view xs index at x e c.index-symbols-symbols.is)) whole)
