use Rattle.std.proofs.Common.{◌≡◌, sym, ◌∙◌, subst}
use Rattle.std.proofs.lemmas.Result.{IfOk-weaker}
use Rattle.byte_streams.specs.Recording.{HasNoNumber}
use Rattle.byte_streams.proofs.Numberless.{front_numberless, whole_numberless}
use Rattle.byte_streams.proofs.recorded.cause_of.Goals as goal

pub returns-in-Some : goal.returns-in-Some
returns-in-Some c =
    let m = rw c.in-Some.is at c.split_once.ensures.cases in
    IfOk-weaker c.from_str.result _ _ (λ t e. subst HasNoNumber (sym e) (front_numberless c.as_str.result.now c.in-Some.words.now m.0 m.3 m.6 m.2.0)) c.from_str.ensures.ok

pub returns : goal.returns
returns c =
    let m = rw c.in-None.is at c.split_once.ensures.cases in
    let same = c.as_str-in-None.ensures.value ∙ sym c.as_str.ensures.value in
    IfOk-weaker c.from_str-in-None.result _ _ (λ t e. subst HasNoNumber (sym (e ∙ same)) (whole_numberless c.as_str.result.now m)) c.from_str-in-None.ensures.ok
