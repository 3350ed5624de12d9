use Rattle.std.proofs.Common.{List, ℕ, ◌++◌, sym, ap, subst}
use Rattle.std.specs.Prelude.{None}
use Rattle.std.specs.Io.KnownBytes.{Appends}
use Rattle.parse_trees.specs.FlatLines.{CanVisit}
use Rattle.parse_trees.specs.Lex.{span_by}
use Rattle.parse_trees.proofs.FlatLines.{tree_visits, whole_at}
use Rattle.text_parses.proofs.OutBut.{none_waits}
use Rattle.text_parses.specs.Parses.{lexeme_lex}
use Rattle.text_parses.specs.Quoted.{sexp_from}
use Rattle.text_parses.proofs.trees.write_sexp.Goals as goal

pub returns : goal.returns
returns g c = λ t is can.
    let at = span_by lexeme_lex in
    let pieces = c.args.tree.now.pieces in
    let visited = c.in_ok-visits.ensures t is in
    let whole = whole_at at pieces t is in
    let shown = subst (CanVisit c.args.grm.now lexeme_lex c.args.input.now pieces) (sym visited) (tree_visits at pieces c.args.grm.now lexeme_lex c.args.input.now 0 0 t whole can) in
    let made = ap (sexp_from c.args.grm.now c.args.input.now pieces None) visited in
    let waits = rw (c.nodes.ensures.value, c.as_slice.ensures.value) at c.in_ok-write_expression.ensures in
    let written = rw c.as_slice-2.ensures.value at c.in_ok-write_all.ensures.ok in
    let P : List ℕ → Type 0 = λ x. Appends (g.W.Sink.known c.args.out.now) (g.W.Sink.known c.write_all.new.out) (c.args.text.now.items ++ x) in
    subst P made (none_waits (g.W.Sink.known c.args.out.now) (g.W.Sink.known c.write_expression.new.out) (g.W.Sink.known c.write_all.new.out) _ c.write_expression.new.text.items (waits shown) written)
