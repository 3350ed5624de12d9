use Rattle.std.proofs.Common.{map, refl, ap, ◌∙◌, arith}
use Rattle.std.proofs.lemmas.List.{take_all}
use Rattle.std.specs.String.{string_bytes}
use Rattle.parse_trees.specs.ErrorTexts.{seen_as, part_text, ShownFits}
use Rattle.parse_trees.proofs.ErrorParts.{all_read, texts_more}
use Rattle.parse_trees.proofs.error_texts.parts_of.Goals as goal

pub part_of-requires : goal.part_of-requires
part_of-requires g c =
    λ k. ((refl, tt), (c.requires.names, all_read (ShownFits (g.X.NonStreamingLexer.text c.args.lexer.now)) (seen_as g.T.StorageT.IndexStorage.number) c.args.pieces.now c.pieces.i c.index-pieces-i.result c.requires.fits (omega arith) c.index-pieces-i.is))

pub pieces-preserved : goal.pieces-preserved
pieces-preserved g c = λ names answers.
    texts_more string_bytes (part_text names (g.X.NonStreamingLexer.text c.args.lexer.now)) (seen_as g.T.StorageT.IndexStorage.number) c.args.pieces.now c.pieces.i c.index-pieces-i.result c.pieces.parts.items c.push.new.self.items c.in_ok-part.part (omega arith) c.index-pieces-i.is (c.pieces.invariant names answers) (c.in_ok-part.ensures names answers) c.in_ok-push.ensures.items

pub returns : goal.returns
returns g c = λ names answers.
    c.pieces.invariant names answers ∙ ap (λ l. map (part_text names (g.X.NonStreamingLexer.text c.args.lexer.now)) (map (seen_as g.T.StorageT.IndexStorage.number) l)) (take_all c.pieces.i c.args.pieces.now (omega arith))
