use Rattle.std.proofs.Common.{◌∙◌}
use Rattle.std.proofs.lemmas.Option.{slice_get-get_or}
use Rattle.std.proofs.lemmas.Result.{err_from_is_err_and}
use Rattle.lrkit.proofs.OutBut.{one_more_text, text_begins, texts_begin}
use Rattle.parse_trees.specs.FlatLines.{visit_line}
use Rattle.parse_trees.specs.FlatTrees.{pieces_of}
use Rattle.word_lines.specs.Lexing.{lex_of}
use Rattle.lrkit.specs.Output.{id}
use Rattle.lrkit.proofs.trees.write_visits.Goals as goal

pub push_node-requires : goal.push_node-requires
push_node-requires g c = c.requires c.visits.visit-index _ (slice_get-get_or c.args.visits.now c.visits.visit-index (record { index = 0; depth = 0 }) c.visits-test.true)

pub returns-in_err-push_node-clause-begins : goal.returns-in_err-push_node-clause-begins
returns-in_err-push_node-clause-begins g c =
    let p = err_from_is_err_and c.from_residual.result c.from_residual.ensures.1 in
    rw p.1 (texts_begin (visit_line c.args.grm.now (lex_of id) c.args.line.now (pieces_of id c.args.nodes.now)) c.args.visits.now c.args.text.now.items (g.W.Sink.known c.args.out.now) c.visits.visit-index (record { index = 0; depth = 0 }) (g.W.Sink.known c.visits.out) c.visits.text.items c.visits.invariant.0)

pub returns-in_err-give_out-clause-begins : goal.returns-in_err-give_out-clause-begins
returns-in_err-give_out-clause-begins g c =
    let p = err_from_is_err_and c.from_residual-in_err-give_out.result c.from_residual-in_err-give_out.ensures.1 in
    rw p.1 (text_begins (visit_line c.args.grm.now (lex_of id) c.args.line.now (pieces_of id c.args.nodes.now)) c.args.visits.now c.args.text.now.items (g.W.Sink.known c.args.out.now) c.visits.visit-index (record { index = 0; depth = 0 }) (g.W.Sink.known c.visits.out) c.visits.text.items c.visits.invariant.0 c.visits-test.true (g.W.Sink.known c.give_out.new.out) c.push_node.new.text.items c.in_ok-push_node.ensures c.in_err-give_out.ensures.begins)

pub visits-preserved : goal.visits-preserved
visits-preserved g c = (
  one_more_text (visit_line c.args.grm.now (lex_of id) c.args.line.now (pieces_of id c.args.nodes.now)) c.args.visits.now c.args.text.now.items (g.W.Sink.known c.args.out.now) c.visits.visit-index (record { index = 0; depth = 0 }) (g.W.Sink.known c.visits.out) c.visits.text.items c.visits.invariant.0 c.visits-test.true (g.W.Sink.known c.give_out.new.out) c.push_node.new.text.items c.give_out.new.text.items c.in_ok-push_node.ensures c.in_ok-give_out.ensures.ok,
  c.in_ok-give_out.ensures.kept ∙ c.visits.invariant.1,
)
