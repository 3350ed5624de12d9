use Rattle.std.proofs.Common.{◌≡◌, ◌-◌, ◌<◌, ◌≤◌, length, get_or, List, Some, ap, sym, ◌∙◌, arith}
use Rattle.std.specs.Prelude.{slice_get, option_map}
use Rattle.std.proofs.lemmas.List.{length-map}
use Rattle.std.proofs.lemmas.Bool.{eqb-true, eqb-false}
use Rattle.cfg_theory.specs.Tree.{Tree}
use Rattle.cfg_theory.specs.Fold.{no_span}
use Rattle.lr_theory.specs.StackValues.{stack_spans, top_span}
use Rattle.parse_trees.specs.Lex.{span_by}
use Rattle.parse_trees.specs.Stacks.{span_of_places}
use Rattle.parse_trees.specs.FlatTrees.{pieces_of, piece_of, piece_span}
use Rattle.parse_trees.specs.FlatValues.{FlatStand}
use Rattle.parse_trees.proofs.FlatSpans.{ends_height, end_of, end_some, end_within, span_there, top_some, span_on_top, deep_before, no_tree_span, top_span_is, wide_span_is}
use Rattle.parse_trees.proofs.flat_values.FlatValues.reduced_span.Goals.{After-span_at-top, After-span_at-deepest}
use Rattle.parse_trees.proofs.flat_values.FlatValues.reduced_span.Goals as goal

pub returns-then-is_empty : goal.returns-then-is_empty
returns-then-is_empty g c = λ ts h.
    let s = c.args.self.now.builder in
    let at = span_by g.L.Lexeme.lex in
    let pieces = pieces_of g.S.IndexStorage.number s.nodes.items in
    let r = c.requires in
    let same = ap length c.as_slice-ends.ensures.value in
    let few = r.2 in
    let nought : length s.ends.items ≡ 0 = omega (arith, same, eqb-true (length c.as_slice-ends.result.now) 0 (sym c.is_empty.ensures ∙ c.if-is_empty.true)) in
    no_tree_span at ts pieces s.ends.items h c.args.count c.new.result nought (omega (arith, few, ends_height at r.0 pieces s.ends.items r.1)) c.new.ensures.start c.new.ensures.end

pub overflow_sub-nodes : goal.overflow_sub-nodes
overflow_sub-nodes g c =
    let s = c.args.self.now.builder in
    let at = span_by g.L.Lexeme.lex in
    let number = g.S.IndexStorage.number in
    let pieces = pieces_of number s.nodes.items in
    let r = c.requires in
    let same = ap length c.as_slice-ends.ensures.value in
    let high = ends_height at r.0 pieces s.ends.items r.1 in
    let some = top_some at r.0 pieces s.ends.items r.1 (omega (arith, same, high, eqb-false (length c.as_slice-ends.result.now) 0 (sym c.is_empty.ensures ∙ c.if-is_empty.false))) in
    omega (arith, some, length-map s.nodes.items (piece_of number), ap length c.as_slice-nodes.ensures.value)

pub span_at-top-requires : goal.span_at-top-requires
span_at-top-requires g c =
    let s = c.args.self.now.builder in
    let at = span_by g.L.Lexeme.lex in
    let number = g.S.IndexStorage.number in
    let pieces = pieces_of number s.nodes.items in
    let r = c.requires in
    let same = ap length c.as_slice-ends.ensures.value in
    let high = ends_height at r.0 pieces s.ends.items r.1 in
    let some = top_some at r.0 pieces s.ends.items r.1 (omega (arith, same, high, eqb-false (length c.as_slice-ends.result.now) 0 (sym c.is_empty.ensures ∙ c.if-is_empty.false))) in
    omega (arith, some, length-map s.nodes.items (piece_of number), ap length c.as_slice-nodes.ensures.value)

-- the node that is read last is that of the top tree
on_top : (g : _) (c : After-span_at-top g) → option_map (piece_span (span_by g.L.Lexeme.lex)) (slice_get (pieces_of g.S.IndexStorage.number c.args.self.now.builder.nodes.items) (length (pieces_of g.S.IndexStorage.number c.args.self.now.builder.nodes.items) - 1)) ≡ Some (span_of_places c.span_at-top.result)
on_top g c =
    let s = c.args.self.now.builder in
    let at = span_by g.L.Lexeme.lex in
    let number = g.S.IndexStorage.number in
    let pieces = pieces_of number s.nodes.items in
    let long : length pieces - 1 ≡ length c.as_slice-nodes.result.now - 1 = omega (arith, length-map s.nodes.items (piece_of number), ap length c.as_slice-nodes.ensures.value) in
    ap (λ k. option_map (piece_span at) (slice_get pieces k)) long ∙ ap (λ ns. option_map (piece_span at) (slice_get (pieces_of number ns) (length c.as_slice-nodes.result.now - 1))) (sym c.as_slice-nodes.ensures.value) ∙ c.span_at-top.ensures

pub returns-then-count-lt2 : goal.returns-then-count-lt2
returns-then-count-lt2 g c = λ ts h.
    let s = c.args.self.now.builder in
    let at = span_by g.L.Lexeme.lex in
    let pieces = pieces_of g.S.IndexStorage.number s.nodes.items in
    let same = ap length c.as_slice-ends.ensures.value in
    let high = ends_height at ts pieces s.ends.items h in
    top_span_is at ts pieces s.ends.items h c.args.count c.span_at-top.result (omega (arith, c.if-count-lt2.true)) (omega (arith, same, high, eqb-false (length c.as_slice-ends.result.now) 0 (sym c.is_empty.ensures ∙ c.if-is_empty.false)))
    (on_top g (goal.at.returns-then-count-lt2 g c).After-span_at-top)

pub overflow_sub-ends : goal.overflow_sub-ends
overflow_sub-ends g c =
    let s = c.args.self.now.builder in
    let r = c.requires in
    let few = r.2 in
    omega (arith, few, ap length c.as_slice-ends.ensures.value, ends_height (span_by g.L.Lexeme.lex) r.0 (pieces_of g.S.IndexStorage.number s.nodes.items) s.ends.items r.1)

-- the end that is read
end_there : (g : _) (c : After-span_at-top g) → (ts : List (Tree g.row.L.Denot)) (h : FlatStand (span_by g.L.Lexeme.lex) ts (pieces_of g.S.IndexStorage.number c.args.self.now.builder.nodes.items) c.args.self.now.builder.ends.items) → 0 < c.args.count → c.args.count ≤ length ts →
    get_or c.as_slice-ends.result.now (length c.as_slice-ends.result.now - c.args.count) 0 ≡ get_or c.args.self.now.builder.ends.items (length c.args.self.now.builder.ends.items - 1 - (c.args.count - 1)) 0
end_there g c ts h some few =
    let s = c.args.self.now.builder in
    end_of (span_by g.L.Lexeme.lex) ts (pieces_of g.S.IndexStorage.number s.nodes.items) s.ends.items h c.args.count 0 _ some few (ap (λ xs. get_or xs (length xs - c.args.count) 0) c.as_slice-ends.ensures.value)

pub overflow_sub-ends-2 : goal.overflow_sub-ends-2
overflow_sub-ends-2 g c =
    let s = c.args.self.now.builder in
    let r = c.requires in
    let few = r.2 in
    let at = (goal.at.overflow_sub-ends-2 g c).After-span_at-top in
    end_some (span_by g.L.Lexeme.lex) r.0 (pieces_of g.S.IndexStorage.number s.nodes.items) s.ends.items r.1 (c.args.count - 1) _ (omega (arith, few, c.if-count-lt2.false)) (end_there g at r.0 r.1 (omega (arith, c.if-count-lt2.false)) few)

pub span_at-deepest-requires : goal.span_at-deepest-requires
span_at-deepest-requires g c =
    let s = c.args.self.now.builder in
    let number = g.S.IndexStorage.number in
    let r = c.requires in
    let few = r.2 in
    let at = (goal.at.span_at-deepest-requires g c).After-span_at-top in
    let lt = end_within (span_by g.L.Lexeme.lex) r.0 (pieces_of number s.nodes.items) s.ends.items r.1 (c.args.count - 1) _ (omega (arith, few, c.if-count-lt2.false)) (end_there g at r.0 r.1 (omega (arith, c.if-count-lt2.false)) few) in
    omega (arith, lt, length-map s.nodes.items (piece_of number), ap length c.as_slice-nodes.ensures.value)

-- the spans that are read
deep_span : (g : _) (c : After-span_at-deepest g) → (ts : List (Tree g.row.L.Denot)) (h : FlatStand (span_by g.L.Lexeme.lex) ts (pieces_of g.S.IndexStorage.number c.args.self.now.builder.nodes.items) c.args.self.now.builder.ends.items) → 0 < c.args.count → c.args.count ≤ length ts →
    span_of_places c.span_at-deepest.result ≡ get_or (stack_spans (span_by g.L.Lexeme.lex) ts) (c.args.count - 1) no_span
deep_span g c ts h some few =
    let s = c.args.self.now.builder in
    let at = span_by g.L.Lexeme.lex in
    let number = g.S.IndexStorage.number in
    let pieces = pieces_of number s.nodes.items in
    let end = get_or c.as_slice-ends.result.now (length c.as_slice-ends.result.now - c.args.count) 0 in
    span_there at ts pieces s.ends.items h (c.args.count - 1) end _ (omega (arith, some, few)) (end_of at ts pieces s.ends.items h c.args.count 0 _ some few (ap (λ xs. get_or xs (length xs - c.args.count) 0) c.as_slice-ends.ensures.value))
    (ap (λ ns. option_map (piece_span at) (slice_get (pieces_of number ns) (end - 1))) (sym c.as_slice-nodes.ensures.value) ∙ c.span_at-deepest.ensures)

top_span_there : (g : _) (c : After-span_at-top g) → (ts : List (Tree g.row.L.Denot)) (h : FlatStand (span_by g.L.Lexeme.lex) ts (pieces_of g.S.IndexStorage.number c.args.self.now.builder.nodes.items) c.args.self.now.builder.ends.items) → 0 < length ts →
    span_of_places c.span_at-top.result ≡ top_span (span_by g.L.Lexeme.lex) ts
top_span_there g c ts h some =
    let s = c.args.self.now.builder in
    span_on_top (span_by g.L.Lexeme.lex) ts (pieces_of g.S.IndexStorage.number s.nodes.items) s.ends.items h _ some (on_top g c)

pub new-requires-2 : goal.new-requires-2
new-requires-2 g c =
    let s = c.args.self.now.builder in
    let at = span_by g.L.Lexeme.lex in
    let r = c.requires in
    let few = r.2 in
    let deepest = (goal.at.new-requires-2 g c).After-span_at-deepest in
    let deep = ap (λ s. s.from) (deep_span g deepest r.0 r.1 (omega (arith, c.if-count-lt2.false)) few) in
    let top = ap (λ s. s.from) (top_span_there g (goal.at.new-requires-2 g c).After-span_at-top r.0 r.1 (omega (arith, few, c.if-count-lt2.false))) in
    let before = deep_before at r.0 (pieces_of g.S.IndexStorage.number s.nodes.items) s.ends.items r.1 (c.args.count - 1) (omega (arith, few, c.if-count-lt2.false)) in
    omega (arith, deep, top, before, c.start.ensures.value, c.end.ensures.ordered)

pub returns : goal.returns
returns g c = λ ts h.
    let s = c.args.self.now.builder in
    let at = span_by g.L.Lexeme.lex in
    let pieces = pieces_of g.S.IndexStorage.number s.nodes.items in
    let r = c.requires in
    let few = r.2 in
    let high = ends_height at r.0 pieces s.ends.items r.1 in
    let tall = ends_height at ts pieces s.ends.items h in
    let enough : c.args.count ≤ length ts = omega (arith, few, high, tall) in
    let deepest = (goal.at.returns g c).After-span_at-deepest in
    wide_span_is at ts pieces s.ends.items h c.args.count _ _ c.new-2.result (omega (arith, c.if-count-lt2.false))
    (deep_span g deepest ts h (omega (arith, c.if-count-lt2.false)) enough)
    (top_span_there g (goal.at.returns g c).After-span_at-top ts h (omega (arith, enough, c.if-count-lt2.false)))
    (c.new-2.ensures.start ∙ c.start.ensures.value) (c.new-2.ensures.end ∙ c.end.ensures.value)
