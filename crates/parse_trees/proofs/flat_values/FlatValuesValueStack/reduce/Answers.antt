use Rattle.std.proofs.Common.{arith}
use Rattle.cfg_theory.specs.Tree.{none}
use Rattle.parse_trees.specs.Lex.{span_by}
use Rattle.parse_trees.specs.FlatTrees.{pieces_of}
use Rattle.parse_trees.proofs.FlatStacks.{enough}
use Rattle.parse_trees.proofs.FlatSpans.{can_pop, reduced_span_is, stand_reduced, start_reduced}
use Rattle.parse_trees.proofs.flat_values.FlatValuesValueStack.reduce.Goals as goal

pub reduced_span-span-requires : goal.reduced_span-span-requires
reduced_span-span-requires g c = let r = c.requires.stands in (r.1, r.2, r.3)

pub reduce-requires : goal.reduce-requires
reduce-requires g c =
    let r = c.requires.stands in
    let p = can_pop c.args.count r.1 none r.3 in
    (r.1, p.0, p.1, r.2.flat, p.2)

pub returns-clause-stands : goal.returns-clause-stands
returns-clause-stands g c = λ G ts below f head h popped.
    let at = span_by g.L.Lexeme.lex in
    let s = c.args.self.now in
    let pieces = pieces_of g.S.IndexStorage.number s.builder.nodes.items in
    let many = enough at c.args.count ts none f below popped in
    let is = c.reduced_span-span.ensures ts h in
    let over = reduced_span_is at ts pieces s.builder.ends.items h c.args.count f below c.reduced_span-span.result popped is in
    let flat = c.in_ok-reduce.ensures.stack ts below f h.flat popped over in
    stand_reduced at ts pieces s.builder.ends.items h _ _ (g.S.IndexStorage.number c.args.pidx.0) c.args.count f below c.reduced_span-span.result popped (omega (arith, many)) is flat

pub returns-clause-start : goal.returns-clause-start
returns-clause-start g c = λ m up.
    let s = c.args.self.now in
    let r = c.requires.stands in
    let put = c.in_ok-reduce.ensures.put in
    rw put.1
    (start_reduced (span_by g.L.Lexeme.lex) r.1 (pieces_of g.S.IndexStorage.number s.builder.nodes.items) s.builder.ends.items r.2 (g.S.IndexStorage.number c.args.pidx.0) c.args.count put.0 c.reduced_span-span.result m r.3 (c.reduced_span-span.ensures r.1 r.2) up)
