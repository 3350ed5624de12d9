use Rattle.lrpar.proofs.OneParse.{parses_are_one}
use Rattle.parse_trees.specs.Lex.{Lex}
use Rattle.parser_kit.proofs.SeenAlike.{kits_seen_alike}
use Rattle.parser_kit.proofs.laws.kits_with_own_lexemes_parse_alike.Goals as goal

pub returns : goal.returns
returns g c = λ cap kind text k l x y.
    let max = g.S.IndexStorage.MAX in
    let other_max = g.U.IndexStorage.MAX in
    kits_seen_alike (parses_are_one Lex Lex) g.S.IndexStorage.number g.U.IndexStorage.number g.L.Lexeme.lex g.M.Lexeme.lex g.L.Lexeme.faulty_of g.M.Lexeme.faulty_of max other_max
    g.met.L.Lexeme.faulty_is g.met.M.Lexeme.faulty_is _ _ cap kind text k l x y (c.kits_of_texts_are_one.ensures max other_max cap kind text k l x y)
