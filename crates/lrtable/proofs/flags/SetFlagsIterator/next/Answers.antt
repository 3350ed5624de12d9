use Rattle.std.proofs.Common.{ℕ, ◌+◌, true, List, ◌∷◌, ◌++◌, length, sym, ap, ◌∙◌, arith, rules}
use Rattle.vob.specs.Walk.{indices_of}
use Rattle.lrtable.proofs.FlagWalks.{least_first, none_from, end_from}
use Rattle.lrtable.proofs.flags.SetFlagsIterator.next.Goals as goal

pub overflow_add-self : goal.overflow_add-self
overflow_add-self c =
    let below = c.in-Some-least_from.ensures.below in
    let e = c.len-end.ensures in
    let fits = c.len-end.auto in
    omega (arith, below, e, fits)

pub returns-in-Some-least_from-clause-steps : goal.returns-in-Some-least_from-clause-steps
returns-in-Some-least_from-clause-steps c =
    let bits = c.self.inside.bits.now.bits in
    let n = c.in-Some-least_from.number in
    let from = λ (k : ℕ). indices_of true bits k (length bits) in
    sym c.self.view_is ∙ ap (λ (l : List ℕ). l ++ from c.self.inside.from) c.in_default.ensures.steps.0 ∙ least_first bits c.self.inside.from n c.in-Some-least_from.ensures ∙ ap (λ (l : List ℕ). n ∷ (l ++ from (n + 1))) (sym c.in_default.ensures.steps.1)

pub returns-in-Some-least_from-clause-goes : goal.returns-in-Some-least_from-clause-goes
returns-in-Some-least_from-clause-goes c =
    let e = ap length (returns-in-Some-least_from-clause-steps c) in
    search rules

pub returns-in-None-clause-steps : goal.returns-in-None-clause-steps
returns-in-None-clause-steps c =
    let bits = c.self.inside.bits.now.bits in
    let from = λ (k : ℕ). indices_of true bits k (length bits) in (
      sym c.self.view_is ∙ ap (λ (l : List ℕ). l ++ from c.self.inside.from) c.in_default.ensures.steps.0 ∙ none_from bits c.self.inside.from c.in-None.ensures,
      ap (λ (l : List ℕ). l ++ from c.len-end.result) c.in_default.ensures.steps.1 ∙ (ap from c.len-end.ensures ∙ end_from bits),
    )
