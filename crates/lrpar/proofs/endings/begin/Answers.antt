use Rattle.std.proofs.Common.{◌≡◌, ◌-◌, ◌<◌, suc, [], ◌∷◌, None, Some, length, drop, refl, sym, ap, ◌∙◌, subst, arith}
use Rattle.std.proofs.lemmas.Option.{same_Some}
use Rattle.cfg_theory.specs.Grammar.{body_of}
use Rattle.lr_theory.specs.Automaton.{reduce}
use Rattle.state_table.specs.CellViews.{action_of}
use Rattle.state_table.specs.TableValues.{action_at}
use Rattle.state_table.specs.Tables.{automaton_of}
use Rattle.lrpar.specs.declared.endings.Last.{Last}
use Rattle.lrpar.proofs.EndingSteps.{none_begins, first_goes, no_reduction, last_found}
use Rattle.lrpar.proofs.endings.begin.Goals as goal

pub returns-in_default : goal.returns-in_default
returns-in_default g c =
    let number = g.S.IndexStorage.number in
    let G = c.args.chains.now.grm.now.grammar in
    let v = c.args.chains.now.stable.now in
    let s = number c.args.state.0 in
    let t = number c.args.tidx.0 in
    last_found number G v t s (s ∷ []) (record { tidx = c.args.tidx; count = 0; last = None }) c.last_of.result c.last_of.ensures refl refl
    (λ x. none_begins G (automaton_of x v) t s (λ p e. no_reduction number c.action.result c.in_default.not-Reduce p (c.action.ensures ∙ e)))

pub returns-then-count-eq0 : goal.returns-then-count-eq0
returns-then-count-eq0 g c =
    let number = g.S.IndexStorage.number in
    let G = c.args.chains.now.grm.now.grammar in
    let v = c.args.chains.now.stable.now in
    let s = number c.args.state.0 in
    let t = number c.args.tidx.0 in
    let p = number c.in-Reduce.pidx.0 in
    let cell : action_at v s t ≡ reduce p = sym c.action.ensures ∙ ap (action_of number) c.in-Reduce.is in
    let none : length (body_of G p) ≡ 0 = omega (arith, c.prod_len.ensures, c.to_usize-count.ensures.value, c.if-count-eq0.true) in
    c.onto.ensures (s ∷ []) (λ x. first_goes G (automaton_of x v) t s p (λ below. s ∷ below) cell (λ below. ap (λ k. drop k (s ∷ below)) none))

pub returns : goal.returns
returns g c =
    let number = g.S.IndexStorage.number in
    let G = c.args.chains.now.grm.now.grammar in
    let v = c.args.chains.now.stable.now in
    let table = c.args.chains.now.table in
    let s = number c.args.state.0 in
    let t = number c.args.tidx.0 in
    let p = number c.in-Reduce.pidx.0 in
    let n = c.to_usize-count.result - 1 in
    let cell : action_at v s t ≡ reduce p = sym c.action.ensures ∙ ap (action_of number) c.in-Reduce.is in
    let some : length (body_of G p) ≡ suc n = omega (arith, c.prod_len.ensures, c.to_usize-count.ensures.value, c.if-count-eq0.false) in
    let within = table.is_table.reduces _ _ p cell in
    let inside : p < length G.productions = omega (arith, within, table.productions) in
    record {
      token = refl;
      production = λ y e. subst (λ (z : Last g.row.S.Denot). number z.pidx.0 < length G.productions) (same_Some (record { pidx = c.in-Reduce.pidx; below = n }) y e) inside;
      ends = λ x. first_goes G (automaton_of x v) t s p (drop n) cell (λ below. ap (λ k. drop k (s ∷ below)) some);
    }
