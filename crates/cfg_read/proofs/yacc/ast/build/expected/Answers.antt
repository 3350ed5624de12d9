use Rattle.std.proofs.Common.{List, Bor, map, ap, ◌∙◌}
use Rattle.std.specs.List.{flat_map}
use Rattle.cfg_read.specs.declared.yacc.parser.syntax.Symbol.{Symbol}
use Rattle.cfg_read.specs.declared.yacc.parser.syntax.Line.{Line}
use Rattle.cfg_read.specs.SyntaxTexts.{SymbolText}
use Rattle.cfg_read.specs.Asts.{expected_ast}
use Rattle.cfg_read.specs.NameModels.{symbols_at}
use Rattle.cfg_read.specs.SyntaxModels.{line_of}
use Rattle.cfg_read.proofs.yacc.ast.build.expected.Goals as goal

pub returns : goal.returns
returns c =
    c.in_ok-made.ensures
    ∙ ap (λ (ss : List (Bor Symbol)). map expected_ast (symbols_at ss)) c.deref-2.ensures.value
    ∙ ap (map expected_ast) c.in_ok-symbols.ensures
    ∙ ap (λ (ls : List Line). map expected_ast (flat_map (λ (l : List SymbolText). l) (map line_of ls))) c.deref.ensures.value
