use Rattle.std.proofs.Common.{sym, ap, ◌∙◌}
use Rattle.lrpar.specs.Made.{next_start, end_of}
use Rattle.lrpar.proofs.NextLexeme.{drop_from, drop_past}
use Rattle.lrpar.proofs.apply.start_before.Goals as goal

pub returns-in-Some : goal.returns-in-Some
returns-in-Some g c = c.start.ensures.value ∙ ap (λ p. p.start) c.span.ensures ∙ sym (ap (next_start g.L.Lexeme.lex (end_of g.L.Lexeme.lex c.args.lexemes.now)) (drop_from c.args.lexemes.now c.args.index c.in-Some.lexeme (sym c.get.ensures ∙ c.in-Some.is)))

pub returns-in-None : goal.returns-in-None
returns-in-None g c = c.end_offset.ensures ∙ sym (ap (next_start g.L.Lexeme.lex (end_of g.L.Lexeme.lex c.args.lexemes.now)) (drop_past c.args.lexemes.now c.args.index (sym c.get.ensures ∙ c.in-None.is)))
