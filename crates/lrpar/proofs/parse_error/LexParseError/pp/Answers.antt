use Rattle.std.proofs.Common.{◌≡◌, subst, sym, string_bytes}
use Rattle.parse_trees.specs.ErrorTexts.{parsing_error_text}
use Rattle.parse_trees.specs.Shown.{shown_lists}
use Rattle.lrpar.specs.ErrorTexts.{error_text}
use Rattle.lrpar.proofs.parse_error.LexParseError.pp.Goals as goal

pub returns-in_ok-text-in-ParseError : goal.returns-in_ok-text-in-ParseError
returns-in_ok-text-in-ParseError g c names named =
    let number = g.T.StorageT.IndexStorage.number in
    let input = g.X.NonStreamingLexer.text c.args.lexer.now in
    let lex = g.T.LexemeT.Lexeme.lex in
    let error = c.in-ParseError.error in
    let text = c.in_ok-text-in-ParseError.text in
    subst (λ e. string_bytes text ≡ error_text number input lex g.T.LexErrorT.LexError.places names e) (sym c.in-ParseError.is)
    (subst (λ l. string_bytes text ≡ parsing_error_text names input lex error.lexeme (shown_lists number l)) c.as_slice.ensures.value
    (c.in_ok-text-in-ParseError.ensures names named))
