use Rattle.std.proofs.Common.{◌≡◌, ◌≤◌, sym, ap, ◌∙◌, subst, arith, inr}
use Rattle.lr_theory.specs.Automaton.{reduce}
use Rattle.state_table.specs.TableValues.{action_at}
use Rattle.lrpar.proofs.SetBits.{set_start, set_next, set_more, set_all}
use Rattle.lrpar.proofs.parserdata.complete.reduces_on.Goals as goal

pub tokens-init : goal.tokens-init
tokens-init g c = (tt, tt, set_start c.args.looks.now.bits _ _ cc)

pub tokens-preserved : goal.tokens-preserved
tokens-preserved g c =
    let number = g.S.IndexStorage.number in
    let v = c.args.machine.now.stable.now in
    let s = number c.args.state.0 in
    let p = number c.args.pidx.0 in
    let here : action_at v s (number c.index_below.result) ≡ reduce p = sym c.action.ensures ∙ rw c.if-not-is_reduce.false at c.is_reduce.ensures in
    (cc, cc, set_more c.args.looks.now.bits (λ t. action_at v s t ≡ reduce p) _ _ _ c.in-Some.ensures.steps (subst (λ t. action_at v s t ≡ reduce p) c.index_below.ensures here) c.tokens.invariant.2)

pub returns-then-index-to_usize : goal.returns-then-index-to_usize
returns-then-index-to_usize g c = λ all.
    let number = g.S.IndexStorage.number in
    let v = c.args.machine.now.stable.now in
    let s = number c.args.state.0 in
    let p = number c.args.pidx.0 in
    let set = set_next c.args.looks.now.bits (λ t. action_at v s t ≡ reduce p) _ _ _ c.in-Some.ensures.steps c.tokens.invariant.2 in
    let past : v.tokens ≤ c.in-Some.index = omega (arith, c.to_usize.ensures.value, c.tokens_len.ensures) in
    cc (sym (c.args.machine.now.table.is_table.no_action s c.in-Some.index (inr past)) ∙ all c.in-Some.index set)

pub returns-then-not-is_reduce : goal.returns-then-not-is_reduce
returns-then-not-is_reduce g c = λ all.
    let number = g.S.IndexStorage.number in
    let v = c.args.machine.now.stable.now in
    let s = number c.args.state.0 in
    let p = number c.args.pidx.0 in
    let set = set_next c.args.looks.now.bits (λ t. action_at v s t ≡ reduce p) _ _ _ c.in-Some.ensures.steps c.tokens.invariant.2 in
    let fails = rw c.if-not-is_reduce.true at c.is_reduce.ensures in
    fails (c.action.ensures ∙ ap (action_at v s) c.index_below.ensures ∙ all c.in-Some.index set)

pub returns : goal.returns
returns g c =
    let number = g.S.IndexStorage.number in
    let v = c.args.machine.now.stable.now in
    let s = number c.args.state.0 in
    let p = number c.args.pidx.0 in
    set_all c.args.looks.now.bits (λ t. action_at v s t ≡ reduce p) c.tokens.index-iterator c.in-None.ensures.steps.0 c.tokens.invariant.2
