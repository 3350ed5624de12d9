use Rattle.std.proofs.Common.{sym, ◌∙◌, subst}
use Rattle.std.proofs.lemmas.Result.{on_ok_weaker}
use Rattle.cfg_theory.specs.Grammar.{rule, IsNext}
use Rattle.lrtable.specs.Closes.{IsFrontOf, PutsFront}
use Rattle.lrtable.specs.Fronts.{front_with}
use Rattle.lrtable.proofs.openers.put_opener.Goals as goal

pub put_rest-requires : goal.put_rest-requires
put_rest-requires g c = λ e m. c.requires.width e m ∙ sym c.fill_rest.ensures.width

pub returns-in_ok-rest-in-Some : goal.returns-in_ok-rest-in-Some
returns-in_ok-rest-in-Some g c =
    let number = g.S.IndexStorage.number in
    let G = c.args.grm.now.grammar in
    let q = number c.args.pidx.0 in
    let f : IsFrontOf G q (front_with c.to_usize-in-Some.result c.fill_rest.new.rest) = record { rule = subst (λ k. IsNext G q 0 (rule k)) (sym c.to_usize-in-Some.ensures.value) c.in-Some.ensures; rest = c.fill_rest.ensures } in
    on_ok_weaker c.put_rest.result (λ h. PutsFront.one (front_with c.to_usize-in-Some.result c.fill_rest.new.rest) f h) c.put_rest.ensures

pub returns-in-None : goal.returns-in-None
returns-in-None g c = PutsFront.none c.in-None.ensures
