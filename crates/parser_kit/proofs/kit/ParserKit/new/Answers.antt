use Rattle.std.proofs.lemmas.Result.{err_from_is_err_and}
use Rattle.parser_kit.proofs.Kits.{kit_of_text, no_memory}
use Rattle.parser_kit.specs.KitErrors.{IsTextRefusal}
use Rattle.parser_kit.specs.Tabled.{HasTabledCause, IsTabledRefusal}
use Rattle.parser_kit.proofs.kit.ParserKit.new.Goals as goal

pub returns-in_err-kept-clause-refused : goal.returns-in_err-kept-clause-refused
returns-in_err-kept-clause-refused g c =
    let number = g.S.IndexStorage.number in
    let top = g.S.IndexStorage.MAX in
    let p = err_from_is_err_and c.from_residual.result c.from_residual.ensures.1 in
    rw p.1 (no_memory top c.args.kind c.args.text.now (λ v e. IsTabledRefusal number top v c.args.cap e) _ p.0 p.2)

pub returns-in_err-kept-clause-crowded : goal.returns-in_err-kept-clause-crowded
returns-in_err-kept-clause-crowded g c =
    let number = g.S.IndexStorage.number in
    let top = g.S.IndexStorage.MAX in
    let p = err_from_is_err_and c.from_residual.result c.from_residual.ensures.1 in
    rw p.1 (no_memory top c.args.kind c.args.text.now (λ v e. HasTabledCause number top v e) _ p.0 p.2)

pub returns-in-Err-clause-refused : goal.returns-in-Err-clause-refused
returns-in-Err-clause-refused g c = IsTextRefusal.refused c.in_ok-kept.kept c.in_ok-kept.ensures c.in-Err.ensures.refused

pub returns-in-Err-clause-crowded : goal.returns-in-Err-clause-crowded
returns-in-Err-clause-crowded g c = IsTextRefusal.refused c.in_ok-kept.kept c.in_ok-kept.ensures c.in-Err.ensures.crowded

pub invariant_of-result : goal.invariant_of-result
invariant_of-result g c =
    record {
      kind = c.args.kind;
      text = c.args.text.now;
      cap = c.args.cap;
      is_of = kit_of_text c.one_answer.ensures.unread g.S.IndexStorage.MAX c.args.cap c.args.kind c.args.text.now c.in_ok-kept.kept c.in-Ok.kit c.in_ok-kept.ensures c.in-Ok.ensures.fits c.in-Ok.ensures.grammar c.in-Ok.ensures.cap c.in-Ok.ensures.tabled;
    }

pub returns-in-Ok-clause-kit : goal.returns-in-Ok-clause-kit
returns-in-Ok-clause-kit g c = kit_of_text c.one_answer.ensures.unread g.S.IndexStorage.MAX c.args.cap c.args.kind c.args.text.now c.in_ok-kept.kept c.in-Ok.kit c.in_ok-kept.ensures c.in-Ok.ensures.fits c.in-Ok.ensures.grammar c.in-Ok.ensures.cap c.in-Ok.ensures.tabled
