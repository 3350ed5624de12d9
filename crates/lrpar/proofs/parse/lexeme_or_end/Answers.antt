use Rattle.std.proofs.Common.{sym, ap, ◌∙◌}
use Rattle.cfg_theory.specs.Grammar.{end_token}
use Rattle.lrpar.specs.Made.{made_by, end_of, next_lexeme}
use Rattle.lrpar.proofs.NextLexeme.{drop_from, drop_past}
use Rattle.lrpar.proofs.parse.lexeme_or_end.Goals as goal

pub returns-in-Some : goal.returns-in-Some
returns-in-Some g c = sym (ap (next_lexeme c.args.grm.now.grammar (made_by g.L.Lexeme.faulty_of g.L.Lexeme.lex (end_of g.L.Lexeme.lex c.args.lexemes.now))) (drop_from c.args.lexemes.now c.args.index c.in-Some.lexeme (sym c.get.ensures ∙ c.in-Some.is)))

pub returns-in-None : goal.returns-in-None
returns-in-None g c = c.new_faulty.ensures ∙ ap (λ t. g.L.Lexeme.faulty_of t c.end_offset.result 0) c.eof_token_idx.ensures.value ∙ ap (λ n. g.L.Lexeme.faulty_of (end_token c.args.grm.now.grammar) n 0) c.end_offset.ensures ∙ sym (ap (next_lexeme c.args.grm.now.grammar (made_by g.L.Lexeme.faulty_of g.L.Lexeme.lex (end_of g.L.Lexeme.lex c.args.lexemes.now))) (drop_past c.args.lexemes.now c.args.index (sym c.get.ensures ∙ c.in-None.is)))
