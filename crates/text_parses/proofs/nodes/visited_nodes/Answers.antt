use Rattle.std.proofs.Common.{◌≡◌, ℕ, ◌+◌, ◌-◌, List, [], ◌∷◌, ◌++◌, map, take, drop, length, get_or, ap, sym, ◌∙◌, append_assoc}
use Rattle.std.specs.Prelude.{slice_get, Option}
use Rattle.std.proofs.lemmas.List.{at_drop_more}
use Rattle.std.proofs.lemmas.Option.{slice_get-get_or}
use Rattle.parse_trees.specs.FlatTrees.{pieces_of}
use Rattle.parse_trees.specs.declared.flat.Visit.{Visit}
use Rattle.text_parses.specs.NodeValues.{node_of, nodes_from, shown_of}
use Rattle.text_parses.specs.Parses.{itself}
use Rattle.text_parses.proofs.nodes.visited_nodes.Goals as goal

abbrev no_visit : Visit
no_visit = record { index = 0; depth = 0 }

pub visits-preserved : goal.visits-preserved
visits-preserved c = λ can.
    let g = c.args.grm.now in
    let input = c.args.input.now in
    let visits = c.args.visits.now in
    let i = c.visits.number in
    let v = get_or visits i no_visit in
    let pieces = pieces_of itself c.args.nodes.now in
    let kept = take v.depth c.visits.above.items in
    let made = map shown_of c.visits.found.items in
    let piece = slice_get pieces v.index in
    let left = drop (i + 1) visits in
    let parent : c.copied-parent.result ≡ slice_get kept (length kept - 1) =
    c.copied-parent.ensures ∙ (c.last.ensures.value ∙ ap (λ (l : List ℕ). slice_get l (length l - 1)) (c.deref.ensures.value ∙ c.truncate.ensures.items)) in
    let above : c.push.new.self.items ≡ kept ++ i ∷ [] = c.in_ok-push.ensures.items ∙ ap (λ (l : List ℕ). l ++ i ∷ []) c.truncate.ensures.items in
    let now = c.in_ok-push_node.ensures (can i v (slice_get-get_or visits i no_visit c.visits-test.true)) in
    ap (λ l. l ++ nodes_from g input pieces c.push.new.self.items (i + 1) left) now ∙
    append_assoc made (node_of g input piece c.copied-parent.result ∷ []) _ ∙
    ap (λ (p : Option ℕ). made ++ (node_of g input piece p ∷ nodes_from g input pieces c.push.new.self.items (i + 1) left)) parent ∙
    ap (λ (l : List ℕ). made ++ (node_of g input piece (slice_get kept (length kept - 1)) ∷ nodes_from g input pieces l (i + 1) left)) above ∙
    ap (λ l. made ++ l) (sym (at_drop_more (nodes_from g input pieces c.visits.above.items i) visits i no_visit c.visits-test.true)) ∙
    c.visits.invariant can
