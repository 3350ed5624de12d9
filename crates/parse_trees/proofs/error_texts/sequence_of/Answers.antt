use Rattle.std.proofs.Common.{◌≡◌, map, refl, sym, ap, ◌∙◌, subst}
use Rattle.std.specs.List.{AllByRecursion}
use Rattle.std.specs.String.{string_bytes}
use Rattle.parse_trees.specs.Shown.{shown_of}
use Rattle.parse_trees.specs.ErrorTexts.{seen_as, part_text, comma_joined, shown_parts, ShownFits}
use Rattle.parse_trees.proofs.ErrorParts.{map_reverse, parts_fit}
use Rattle.parse_trees.proofs.error_texts.sequence_of.Goals as goal

pub parts_of-requires : goal.parts_of-requires
parts_of-requires g c = λ k.
    let seen = seen_as g.T.StorageT.IndexStorage.number in
    let input = g.X.NonStreamingLexer.text c.args.lexer.now in
    let es = map (shown_of g.T.StorageT.IndexStorage.number) c.args.repairs.now in
    let same : map seen c.as_slice.result.now ≡ shown_parts g.T.LexemeT.Lexeme.lex es = ap (map seen) (c.as_slice.ensures.value ∙ c.reverse.ensures.items) ∙ map_reverse seen c.in_ok-pieces.pieces.items ∙ c.in_ok-pieces.ensures in
    ((refl, tt), (c.requires.names, subst (AllByRecursion (ShownFits input)) (sym same) (parts_fit input g.T.LexemeT.Lexeme.lex es c.requires.fits)))

pub returns : goal.returns
returns g c = λ names answers.
    let seen = seen_as g.T.StorageT.IndexStorage.number in
    let input = g.X.NonStreamingLexer.text c.args.lexer.now in
    let es = map (shown_of g.T.StorageT.IndexStorage.number) c.args.repairs.now in
    let same : map seen c.as_slice.result.now ≡ shown_parts g.T.LexemeT.Lexeme.lex es = ap (map seen) (c.as_slice.ensures.value ∙ c.reverse.ensures.items) ∙ map_reverse seen c.in_ok-pieces.pieces.items ∙ c.in_ok-pieces.ensures in
    c.in_ok-text.ensures ∙ ap (λ l. comma_joined (map string_bytes l)) c.as_slice-2.ensures.value ∙ ap comma_joined (c.in_ok-parts.ensures names answers ∙ ap (map (part_text names input)) same)
