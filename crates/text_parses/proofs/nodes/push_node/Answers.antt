use Rattle.std.proofs.Common.{◌≡◌, ℕ, List, [], ◌∷◌, ◌++◌, map, ap, sym, refl, ◌∙◌, subst}
use Rattle.std.specs.Prelude.{slice_get, option_map, Option, None, Some}
use Rattle.std.proofs.lemmas.List.{map-append}
use Rattle.std.proofs.lemmas.Option.{slice_get-map}
use Rattle.parse_trees.proofs.FlatLines.{piece_is}
use Rattle.parse_trees.specs.FlatLines.{CanShowPiece}
use Rattle.parse_trees.specs.FlatTrees.{Piece, piece_of, pieces_of}
use Rattle.text_parses.specs.NodeValues.{ShownNode, node_of, shown_of}
use Rattle.text_parses.specs.Parses.{TextLexeme, itself, lexeme_lex}
use Rattle.text_parses.proofs.nodes.push_node.Goals as goal

pub returns-in_ok-push-in-Some : goal.returns-in_ok-push-in-Some
returns-in_ok-push-in-Some c = λ can.
    let g = c.args.grm.now in
    let input = c.args.input.now in
    let found = map shown_of c.args.found.now.items in
    let at : slice_get (pieces_of itself c.args.nodes.now) c.args.index ≡ Some (piece_of itself c.in-Some.node) =
    piece_is itself c.args.nodes.now c.args.index c.in-Some.node c.in-Some.node (sym c.node_at.ensures ∙ c.in-Some.is) refl in
    let P : Option (Piece TextLexeme) → Type 0 = λ p. CanShowPiece g lexeme_lex input p in
    let shown = c.node_value.ensures (subst P at can) ∙ ap (λ p. node_of g input p c.args.parent) (sym at) in
    ap (map shown_of) c.in_ok-push-in-Some.ensures.items ∙ map-append shown_of c.args.found.now.items _ ∙ ap (λ (n : ShownNode). found ++ n ∷ []) shown

pub returns-in-None : goal.returns-in-None
returns-in-None c = λ can.
    let P : Option (Piece TextLexeme) → Type 0 = λ p. CanShowPiece c.args.grm.now lexeme_lex c.args.input.now p in
    let at : slice_get (pieces_of itself c.args.nodes.now) c.args.index ≡ None =
    slice_get-map (piece_of itself) c.args.nodes.now c.args.index ∙ ap (option_map (piece_of itself)) (sym c.node_at.ensures ∙ c.in-None.is) in
    absurd (subst P at can)
