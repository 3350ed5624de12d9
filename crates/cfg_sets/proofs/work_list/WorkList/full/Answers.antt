use Rattle.std.proofs.Common.{◌-◌, inl, inr, sym, ◌∙◌, subst, arith}
use Rattle.std.specs.List.{Contains}
use Rattle.std.proofs.lemmas.Bool.{cases_eq}
use Rattle.cfg_sets.proofs.work_list.WorkList.full.Goals as goal

pub rules-preserved : goal.rules-preserved
rules-preserved c =
    let n = c.args.rules in
    let i = c.rules.number in
    let lt = c.rules-test.true in
    let longer = c.in_ok-put.ensures.longer in
    let was = c.rules.invariant.length in
    record {
      rules = c.in_ok-put.ensures.rules ∙ c.rules.invariant.rules;
      all = λ A le in_range. elim (cases_eq A (n - 1 - i)) [
        | inl e ↦ subst (λ B. Contains c.put.new.self.list B) (sym e) c.in_ok-put.ensures.waits
        | inr ne ↦ c.in_ok-put.ensures.kept A (c.rules.invariant.all A (omega (arith, le, ne, lt, in_range)) in_range)
      ];
      length = omega (arith, longer, was);
    }
