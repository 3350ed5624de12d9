use Rattle.std.proofs.Common.{inl, inr, sym, ◌∙◌, subst, arith}
use Rattle.std.specs.List.{Contains}
use Rattle.std.proofs.lemmas.Bool.{cases_eq}
use Rattle.cfg_sets.proofs.orders.put_rest.Goals as goal

pub prods-preserved : goal.prods-preserved
prods-preserved c = record {
  rules = c.in_ok-put.ensures.rules ∙ c.prods.invariant.rules;
  all = λ p lt. elim (cases_eq p c.prods.number) [
    | inl e ↦ subst (λ q. Contains c.put.new.self.list q) (sym e) c.in_ok-put.ensures.waits
    | inr ne ↦ c.in_ok-put.ensures.kept p (c.prods.invariant.all p (omega (arith, lt, ne)))
  ];
}
