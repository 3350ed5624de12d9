use Rattle.std.proofs.Common.{refl, ◌∙◌, arith}
use Rattle.cfg_read.specs.Asts.{PrecedenceAst, has_precedence}
use Rattle.cfg_read.specs.AstModels.{named_precedence, named_precedences}
use Rattle.cfg_read.specs.NameModels.{mention_of}
use Rattle.cfg_read.specs.ErrorModels.{failures_in}
use Rattle.cfg_read.specs.Validity.{NoPrecForToken}
use Rattle.cfg_read.proofs.AstLemmas.{found_by}
use Rattle.cfg_read.proofs.UnknownLemmas.{unknown_turn}
use Rattle.cfg_read.proofs.yacc.validity.unknown.push_without_precedence.Goals as goal

pub words-preserved : goal.words-preserved
words-preserved c =
    let x = c.word-item.result in
    let known = c.contains_key-is_known.ensures ∙ found_by named_precedence (λ (p : PrecedenceAst). p.token.text) (λ e. refl) c.args.precs.now.entries x.0.now in
    unknown_turn NoPrecForToken (has_precedence (named_precedences c.args.precs.now)) mention_of (failures_in c.args.errors.now.items) (failures_in c.words.errors.items) (failures_in c.push_if_unknown.new.errors.items) c.args.words.now c.words.word-index x c.contains_key-is_known.result (omega arith) c.word-item.is
    c.words.invariant known c.in_ok-push_if_unknown.ensures
