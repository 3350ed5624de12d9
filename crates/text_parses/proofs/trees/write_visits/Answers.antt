use Rattle.std.proofs.lemmas.Option.{slice_get-get_or}
use Rattle.text_parses.proofs.OutBut.{all_added, none_yet, one_more_text}
use Rattle.parse_trees.specs.FlatLines.{visit_line}
use Rattle.parse_trees.specs.FlatTrees.{pieces_of}
use Rattle.text_parses.specs.Parses.{itself, lexeme_lex}
use Rattle.text_parses.proofs.trees.write_visits.Goals as goal

pub visits-init : goal.visits-init
visits-init g c = λ can. none_yet (visit_line c.args.grm.now lexeme_lex c.args.input.now (pieces_of itself c.args.nodes.now)) c.args.visits.now c.args.text.now.items (g.W.Sink.known c.args.out.now)

pub visits-preserved : goal.visits-preserved
visits-preserved g c = λ can.
    let shown = can c.visits.visit-index _ (slice_get-get_or c.args.visits.now c.visits.visit-index (record { index = 0; depth = 0 }) c.visits-test.true) in
    one_more_text (visit_line c.args.grm.now lexeme_lex c.args.input.now (pieces_of itself c.args.nodes.now)) c.args.visits.now c.args.text.now.items (g.W.Sink.known c.args.out.now) c.visits.visit-index (record { index = 0; depth = 0 }) (g.W.Sink.known c.visits.out) c.visits.text.items (c.visits.invariant can) c.visits-test.true (g.W.Sink.known c.write_long.new.out) c.push_visit.new.text.items c.write_long.new.waiting.items (c.in_ok-push_visit.ensures shown) c.in_ok-write_long.ensures.ok

pub returns : goal.returns
returns g c = λ can. all_added (visit_line c.args.grm.now lexeme_lex c.args.input.now (pieces_of itself c.args.nodes.now)) c.args.visits.now c.args.text.now.items (g.W.Sink.known c.args.out.now) c.visits.visit-index (g.W.Sink.known c.visits.out) c.visits.text.items (c.visits.invariant can) c.visits-test.false
