use Rattle.std.proofs.Common.{ℕ, Option, None, Some, Result, Ok, Err, IfOk, IfSome, option_map, sym, subst}
use Rattle.cfg_base.specs.declared.symbol.PIdx.{PIdx}
use Rattle.lr_theory.specs.Canonical.{reduce, shift}
use Rattle.conflict_examples.specs.ExampleViews.{example_of}
use Rattle.conflict_examples.specs.ListedExamples.{IsListedExample}
use Rattle.grammar_report.proofs.listed.example_of_one.Goals as goal

both : {X E : Type 0} {P Q R : X → Type 0} (r : Result (Option X) E) → ((x : X) → P x → Q x → R x) → IfOk r (λ o. IfSome o P) → IfOk r (λ o. IfSome o Q) → IfOk r (λ o. IfSome o R)
both (Ok (Some x)) f p q = f x p q
both (Ok None) f p q = tt
both (Err e) f p q = tt

all_three : {X E : Type 0} {P Q R S : X → Type 0} (r : Result (Option X) E) → ((x : X) → P x → Q x → R x → S x) → IfOk r (λ o. IfSome o P) → IfOk r (λ o. IfSome o Q) → IfOk r (λ o. IfSome o R) → IfOk r (λ o. IfSome o S)
all_three (Ok (Some x)) f p q s = f x p q s
all_three (Ok None) f p q s = tt
all_three (Err e) f p q s = tt

pub returns-in-Some : goal.returns-in-Some
returns-in-Some c =
    let v = c.args.finder.now in
    let e = c.args.entry.now in
    both c.reduce_reduce.result (λ x shown at.
    let y = example_of (λ n. n) x in
    let contest = c.examples_are_contests.ensures.contest v.grammar.grammar y (reduce e.pidx.0) (reduce c.in-Some.other.0) shown in
    subst (λ (o : Option (PIdx ℕ)). IsListedExample v (option_map (λ q. q.0) o) e.pidx.0 e.token.0 e.state.0 y) (sym c.in-Some.is) (record { example = shown; contest = contest; state = at })
    ) c.reduce_reduce.ensures.example c.reduce_reduce.ensures.state

pub returns-in-None : goal.returns-in-None
returns-in-None c =
    let v = c.args.finder.now in
    let e = c.args.entry.now in
    all_three c.shift_reduce.result (λ x shown same at.
    let y = example_of (λ n. n) x in
    let contest = c.examples_are_contests.ensures.contest v.grammar.grammar y shift (reduce e.pidx.0) shown in
    subst (λ (o : Option (PIdx ℕ)). IsListedExample v (option_map (λ q. q.0) o) e.pidx.0 e.token.0 e.state.0 y) (sym c.in-None.is) (record { example = shown; contest = contest; state = at }, same)
    ) c.shift_reduce.ensures.example c.shift_reduce.ensures.token c.shift_reduce.ensures.state
