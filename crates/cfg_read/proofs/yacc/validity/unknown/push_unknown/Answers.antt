use Rattle.std.proofs.Common.{◌∙◌, arith}
use Rattle.cfg_read.specs.Names.{is_among}
use Rattle.cfg_read.specs.NameModels.{mention_of}
use Rattle.cfg_read.specs.AstModels.{named_spans}
use Rattle.cfg_read.specs.ErrorModels.{failures_in, unknown_failure}
use Rattle.cfg_read.proofs.AstLemmas.{found_among}
use Rattle.cfg_read.proofs.UnknownLemmas.{unknown_turn}
use Rattle.cfg_read.proofs.yacc.validity.unknown.push_unknown.Goals as goal

pub words-preserved : goal.words-preserved
words-preserved c =
    let x = c.word-item.result in
    unknown_turn (unknown_failure c.args.what) (is_among (named_spans c.args.tokens.now)) mention_of (failures_in c.args.errors.now.items) (failures_in c.words.errors.items) (failures_in c.push_if_unknown.new.errors.items) c.args.words.now c.words.word-index x c.contains_key-is_known.result (omega arith) c.word-item.is
    c.words.invariant (c.contains_key-is_known.ensures ∙ found_among c.args.tokens.now.entries x.0.now) c.in_ok-push_if_unknown.ensures
