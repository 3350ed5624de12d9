use Rattle.std.proofs.Common.{ap, ◌∙◌, drop, map}
use Rattle.parse_trees.specs.Shown.{shown}
use Rattle.parse_trees.specs.Edits.{sequences_of}
use Rattle.lrpar.proofs.Valued.{told_more}
use Rattle.lrpar.proofs.folded_parse.tell_errors.Goals as goal

pub errors-preserved : goal.errors-preserved
errors-preserved g c =
    let number = g.S.IndexStorage.number in
    let lexemes = c.args.lexemes.now in
    let x = c.error-item.result in
    let same = c.in_ok-repairs.ensures ∙ ap (λ l. map (λ es. shown es (drop x.index lexemes)) (sequences_of number l)) c.as_slice.ensures.value in
    told_more number lexemes c.args.found.now c.errors.error-index x c.errors.told.items c.push.new.self.items _ c.errors.invariant c.errors-test.true c.error-item.is (ap (λ r. record { state = number x.stidx.0; lexeme = x.lexeme; repairs = r }) same) c.in_ok-push.ensures.items
