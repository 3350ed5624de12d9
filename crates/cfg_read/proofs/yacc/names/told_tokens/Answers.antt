use Rattle.std.proofs.Common.{List, map, ap, ◌∙◌}
use Rattle.std.specs.List.{flat_map}
use Rattle.cfg_read.specs.SyntaxTexts.{SymbolText}
use Rattle.cfg_read.specs.Names.{words_in, by_offset, declared_tokens}
use Rattle.cfg_read.specs.SyntaxModels.{symbols_of, line_of, syntax_of}
use Rattle.cfg_read.specs.NameModels.{symbols_at}
use Rattle.cfg_read.proofs.KnownLemmas.{words_of_lines}
use Rattle.cfg_read.proofs.yacc.names.told_tokens.Goals as goal

pub returns : goal.returns
returns c =
    c.in_ok-found.ensures
    ∙ ap (λ l. by_offset (words_in (symbols_of l)) (words_in (symbols_at c.deref-3.result.now))) c.deref-2.ensures.value
    ∙ ap (λ l. by_offset (declared_tokens (syntax_of c.args.x.now)) (words_in (symbols_at l))) c.deref-3.ensures.value
    ∙ ap (λ l. by_offset (declared_tokens (syntax_of c.args.x.now)) (words_in l)) (c.in_ok-implicit.ensures ∙ ap (λ ls. flat_map (λ (l : List SymbolText). l) (map line_of ls)) c.deref.ensures.value)
    ∙ ap (by_offset (declared_tokens (syntax_of c.args.x.now))) (words_of_lines (map line_of c.args.x.now.implicit_tokens.items))
