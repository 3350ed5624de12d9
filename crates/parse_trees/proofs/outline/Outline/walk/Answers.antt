use Rattle.std.proofs.Common.{◌≡◌, ◌-◌, ◌∷◌, ◌++◌, [], List, length, ap, ◌∙◌, refl, arith}
use Rattle.std.proofs.lemmas.List.{length-map}
use Rattle.cfg_theory.specs.Fold.{no_span}
use Rattle.parse_trees.specs.declared.flat.Visit.{Visit}
use Rattle.parse_trees.specs.Outlines.{OutlineValue, erased, mark_of, marks_of, unplaced}
use Rattle.parse_trees.proofs.FlatWalks.{some_nodes, flat_length}
use Rattle.parse_trees.proofs.OutlineWalks.{begins, symbols_length}
use Rattle.parse_trees.proofs.outline.Outline.walk.Goals as goal

pub overflow_sub-len : goal.overflow_sub-len
overflow_sub-len g c =
    let i = c.self.invariant in
    let some = some_nodes unplaced i.1.pieces i.0 i.1.flat in
    let nodes = c.self.inside.nodes in
    omega (arith, some, c.len.ensures, nodes.ok.0, ap length i.1.are, length-map nodes.items (mark_of g.S.IndexStorage.number), length-map i.1.pieces erased)

pub returns : goal.returns
returns g c = λ t is.
    let number = g.S.IndexStorage.number in
    let nodes = c.self.inside.nodes in
    let some = some_nodes unplaced is.pieces t is.flat in
    let are : marks_of number nodes.items ≡ _ = ap (λ (v : OutlineValue). v.marks) c.self.view_is ∙ is.are in
    let long : c.len.result ≡ length is.pieces = omega (arith, c.len.ensures, nodes.ok.0, ap length are, length-map nodes.items (mark_of number), length-map is.pieces erased) in
    let visit : Visit = record { index = c.len.result - 1; depth = 0 } in
    let one : c.push.new.self.items ≡ visit ∷ [] = c.in_ok-push.ensures.items ∙ ap (λ (l : List Visit). l ++ visit ∷ []) c.in_ok-waiting.ensures.items in
    record {
      pieces = is.pieces;
      are = ap (marks_of number) c.as_slice.ensures.value ∙ are;
      waits = begins is.pieces t visit c.push.new.self.items is.flat (omega (arith, some, long)) refl one;
      within = omega (arith, symbols_length 0 0 t, flat_length unplaced no_span t, ap length is.flat.pieces_are, ap length are, length-map nodes.items (mark_of number), length-map is.pieces erased, ap (λ l. length l) c.as_slice.ensures.value);
      few = omega (arith, nodes.ok.0, ap (λ l. length l) c.as_slice.ensures.value);
    }
