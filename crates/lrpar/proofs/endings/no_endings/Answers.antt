use Rattle.std.proofs.Common.{◌≡◌, ℕ, ◌+◌, List, [], ◌∷◌, ◌++◌, Option, Some, length, sym, ap, ◌∙◌, subst, arith, ⊎_elim}
use Rattle.std.specs.Prelude.{slice_get}
use Rattle.std.specs.declared.alloc.Global.{Global}
use Rattle.std.specs.declared.vec.Vec.{Vec}
use Rattle.lrpar.specs.declared.endings.Ending.{Ending}
use Rattle.lrpar.proofs.Quiet.{appended_at, appended_length}
use Rattle.lrpar.proofs.endings.no_endings.Goals as goal

pub states-preserved : goal.states-preserved
states-preserved g c =
    let items = c.in_ok-push.ensures.items in
    let old = c.states.rows.items in
    record {
      count = ap length items ∙ appended_length old c.new.result ∙ ap (λ n. n + 1) c.states.invariant.count;
      none = λ s row e. ⊎_elim
          (λ kept. c.states.invariant.none s row kept)
          (λ new. subst (λ (r : Vec (Option (Ending g.row.S.Denot)) Global). r.items ≡ []) new.1 c.new.ensures.items)
          (appended_at old c.new.result row s (ap (λ (l : List (Vec (Option (Ending g.row.S.Denot)) Global)). slice_get l s) (sym items) ∙ e));
    }

pub returns : goal.returns
returns g c =
    let all : c.states.counter ≡ c.args.chains.now.stable.now.states = omega (arith, c.states-test.false, c.states.auto.counter-end, c.to_usize-states.ensures.value, c.states_len.ensures.value) in
    record {
      count = c.states.invariant.count ∙ all;
      each = λ s row e k x at.
          let none = c.states.invariant.none s row e in
          cc (sym (ap (λ (l : List (Option (Ending g.row.S.Denot))). slice_get l k) none) ∙ at);
    }
