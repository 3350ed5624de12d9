use Rattle.std.proofs.Common.{ℕ, [], ◌∷◌, ◌++◌, get_or, map, ap, ◌∙◌}
use Rattle.std.specs.Prelude.{◌==◌}
use Rattle.std.specs.String.{string_bytes}
use Rattle.std.proofs.lemmas.List.{get_or_default}
use Rattle.cfg_base.specs.declared.symbol.Symbol.{Symbol}
use Rattle.cfg_theory.specs.Grammar.{Sym, InRange}
use Rattle.cfg_numbered.specs.Symbols.{sym_of}
use Rattle.state_table.specs.declared.stidx.StIdx.{StIdx}
use Rattle.state_table.specs.GraphTexts.{edge_text, edges_to}
use Rattle.state_table.specs.GraphViews.{edge_seen}
use Rattle.state_table.proofs.GraphTexts.{kept_more}
use Rattle.state_table.proofs.TextLines.{entry_is}
use Rattle.state_table.proofs.graph_texts.push_edges_to.Goals as goal

pub push_edge-requires : goal.push_edge-requires
push_edge-requires g c =
    let xs = c.args.edges.now in
    let i = c.edges.i in
    let lt = c.edges-test.true in
    let x = get_or xs i c.index-edges-i.result in
    entry_is (edge_seen g.S.IndexStorage.number) xs i x lt (get_or_default xs i c.index-edges-i.result x lt) (λ (e : Sym × ℕ). InRange c.args.grm.now.grammar e.0) c.requires

pub edges-preserved : goal.edges-preserved
edges-preserved g c =
    let number = g.S.IndexStorage.number in
    let xs = c.args.edges.now in
    let i = c.edges.i in
    let lt = c.edges-test.true in
    let x = get_or xs i c.index-edges-i.result in
    let old = map string_bytes c.edges.lines.items in
    let shown = edge_text c.args.grm.now in
    kept_more (edge_seen number) (λ (e : Sym × ℕ). e.1 == c.args.target) shown xs i x lt (get_or_default xs i c.index-edges-i.result x lt) (map string_bytes c.args.lines.now.items) old (map string_bytes c.push_edge.new.lines.items) c.edges.invariant
    (c.in_ok-push_edge.ensures
    ∙ ap (λ (n : ℕ). old ++ map shown (edges_to ((sym_of number x.0, n) ∷ []) c.args.target)) c.to_usize.ensures.value
    ∙ ap (λ (y : Symbol g.row.S.Denot × StIdx g.row.S.Denot). old ++ map shown (edges_to ((sym_of number x.0, number y.1.0) ∷ []) c.args.target)) (get_or_default xs i c.index-edges-i-in-edges.result c.index-edges-i.result lt))
