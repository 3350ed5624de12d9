use Rattle.std.proofs.Common.{◌≤◌, length, arith}
use Rattle.cfg_theory.specs.Grammar.{body_of}
use Rattle.cfg_theory.specs.Tree.{none}
use Rattle.parse_trees.specs.Stacks.{span_of_places}
use Rattle.parse_trees.proofs.FlatReading.{for_node, enough}
use Rattle.parse_trees.proofs.flat_nodes.put_listed.Goals as goal

pub reduce-requires : goal.reduce-requires
reduce-requires g c =
    let G = c.args.grm.now.grammar in
    let p = g.S.IndexStorage.number c.in-Nonterm.pidx.0 in
    let ts = c.requires.0 in
    let f = (for_node G p c.in-Nonterm.below (span_of_places c.in-Nonterm.span) ts c.requires.1 (rw c.in-Nonterm.is at c.requires.3)).1 in
    let le : length (body_of G p) ≤ length ts = enough _ ts none f.0 f.1 f.2 in
    record { stands = (G, ts, c.requires.2, omega (arith, le, c.prod_len.ensures, c.to_usize-count.ensures.value)) }
