use Rattle.std.proofs.Common.{◌-◌, sym, ap, ◌∙◌, arith}
use Rattle.std.specs.Prelude.{slice_get}
use Rattle.lrpar.proofs.Mending.{end_is, end_is_nought}
use Rattle.lrpar.proofs.apply.end_offset.Goals as goal

pub returns-then-count-eq0 : goal.returns-then-count-eq0
returns-then-count-eq0 g c = let n = c.len-count.ensures in end_is_nought g.L.Lexeme.lex c.args.lexemes.now (omega (arith, n))

pub returns : goal.returns
returns g c = c.end.ensures.value ∙ ap (λ p. p.end) c.span.ensures ∙ sym (end_is g.L.Lexeme.lex c.args.lexemes.now c.at.result (sym c.at.ensures ∙ ap (λ n. slice_get c.args.lexemes.now (n - 1)) c.len-count.ensures))
