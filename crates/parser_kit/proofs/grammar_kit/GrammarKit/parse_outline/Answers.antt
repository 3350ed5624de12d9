use Rattle.std.proofs.Common.{◌∙◌}
use Rattle.parser_kit.proofs.KitParses.{outline_ok}
use Rattle.parser_kit.proofs.grammar_kit.GrammarKit.parse_outline.Goals as goal

pub returns-clause-parsed : goal.returns-clause-parsed
returns-clause-parsed g c =
    let same = c.recoverer-parser.ensures.same ∙ c.new.ensures ∙ c.parser_data.ensures in
    let told = rw (same, c.recoverer-parser.ensures.recoverer) at c.parse_outline.ensures.parsed in
    outline_ok c.args.self.now c.stays_tabled.ensures.well_formed c.stays_tabled.ensures.table {S = g.row.S.Denot} {L = g.row.T-LexemeT.Denot} {E = g.row.T-LexErrorT.Denot} g.S.IndexStorage.number g.T.LexemeT.Lexeme.lex g.T.LexemeT.Lexeme.faulty_of
    (g.R.Recoverer.answers c.args.recoverer.now) (g.X.Lexer.lexed c.args.lexer.now) c.parse_outline.result told

pub returns-clause-refused : goal.returns-clause-refused
returns-clause-refused g c =
    let same = c.recoverer-parser.ensures.same ∙ c.new.ensures ∙ c.parser_data.ensures in
    rw same at c.parse_outline.ensures.refused
