use Rattle.std.proofs.Common.{◌≡◌, ℕ, List, ◌++◌, get_or, drop, ap, sym, refl, ◌∙◌, append_assoc}
use Rattle.std.specs.Prelude.{slice_get, None}
use Rattle.std.proofs.lemmas.List.{at_drop_all, at_drop_more}
use Rattle.std.proofs.lemmas.Option.{slice_get-get_or}
use Rattle.text_parses.proofs.OutBut.{all_waits, last_waits, next_waits}
use Rattle.parse_trees.specs.FlatTrees.{pieces_of}
use Rattle.parse_trees.specs.declared.flat.Visit.{Visit}
use Rattle.text_parses.specs.Parses.{itself, lexeme_lex}
use Rattle.text_parses.specs.Quoted.{node_head, sexp_from}
use Rattle.text_parses.proofs.trees.write_expression.Goals as goal

abbrev no_visit : Visit
no_visit = record { index = 0; depth = 0 }

pub visits-init : goal.visits-init
visits-init g c = λ can. (c.args.text.now.items, all_waits (g.W.Sink.known c.args.out.now) c.args.text.now.items, refl)

pub visits-preserved : goal.visits-preserved
visits-preserved g c = λ can.
    let visits = c.args.visits.now in
    let i = c.visits.visit-index in
    let pieces = pieces_of itself c.args.nodes.now in
    let rest = sexp_from c.args.grm.now c.args.input.now pieces c.visits.last in
    let v = get_or visits i no_visit in
    let head = node_head c.args.grm.now c.args.input.now c.visits.last v.depth (slice_get pieces v.index) in
    let made = c.visits.invariant can in
    let shown = can i v (slice_get-get_or visits i no_visit c.visits-test.true) in
    let whole = append_assoc made.0 head _ ∙ ap (λ l. made.0 ++ l) (sym (at_drop_more rest visits i no_visit c.visits-test.true)) ∙ made.2 in
    (made.0 ++ head, next_waits (g.W.Sink.known c.args.out.now) (g.W.Sink.known c.visits.out) (g.W.Sink.known c.write_long.new.out) made.0 c.visits.text.items head c.push_visited.new.text.items c.write_long.new.waiting.items made.1 (c.in_ok-push_visited.ensures shown) c.in_ok-write_long.ensures.ok, whole)

pub returns : goal.returns
returns g c = λ can.
    let visits = c.args.visits.now in
    let pieces = pieces_of itself c.args.nodes.now in
    let rest = sexp_from c.args.grm.now c.args.input.now pieces c.visits.last in
    let made = c.visits.invariant can in
    let end = at_drop_all rest visits c.visits.visit-index c.visits-test.false in
    last_waits (g.W.Sink.known c.args.out.now) (g.W.Sink.known c.visits.out) made.0 c.visits.text.items _ c.push_end.new.text.items _ made.1 c.in_ok-push_end.ensures (ap (λ l. made.0 ++ l) (sym end) ∙ made.2)
