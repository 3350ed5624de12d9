use Rattle.std.proofs.Common.{sym, subst, ◌∙◌, length}
use Rattle.std.proofs.lemmas.Iterator.Consumers.{YieldsList-turn, YieldsList-end}
use Rattle.std.proofs.lemmas.Iterator.Adapters.{YieldsList-from_vec}
use Rattle.word_lines.specs.LineTexts.{ErrorCanBeShown, error_line}
use Rattle.word_lines.proofs.ShownNames.{each, text_more, text_end}
use Rattle.word_lines.proofs.shown.push_errors.Goals as goal

pub push_error-requires : goal.push_error-requires
push_error-requires g c =
    let gives = c.into_iter-error-iterator.ensures.into_iter_gives in
    let turn = YieldsList-turn (YieldsList-from_vec {s = c.into_iter-error-iterator.result} c.args.errors.items gives.0 (gives.1 ∙ c.args.errors.ok.0)) c.errors.yielded c.errors.error-iterator c.errors.yielded_by _ c.next.new.self c.in-Some.error c.in-Some.is c.next.ensures.steps in
    let P = ErrorCanBeShown g.S.IndexStorage.number c.args.grm.now c.args.lexer.now.text in
    subst P (sym turn.1) (each P c.args.errors.items (length c.errors.yielded) c.in-Some.error c.requires turn.0)

pub errors-preserved : goal.errors-preserved
errors-preserved g c = text_more (error_line g.S.IndexStorage.number c.args.grm.now c.args.lexer.now.text) c.args.text.now.items c.errors.text.items c.push_error.new.text.items c.errors.yielded c.in-Some.error c.errors.invariant c.in_ok-push_error.ensures

pub returns : goal.returns
returns g c =
    let gives = c.into_iter-error-iterator.ensures.into_iter_gives in
    let e = YieldsList-end (YieldsList-from_vec {s = c.into_iter-error-iterator.result} c.args.errors.items gives.0 (gives.1 ∙ c.args.errors.ok.0)) c.errors.yielded c.errors.error-iterator c.errors.yielded_by _ c.next.new.self c.in-None.is c.next.ensures.steps in
    text_end (error_line g.S.IndexStorage.number c.args.grm.now c.args.lexer.now.text) c.args.text.now.items c.errors.text.items c.errors.yielded c.args.errors.items c.errors.invariant e.0
