-- What the lines of a text say, by names.
use Rattle.std.specs.Prelude.{◌≡◌}
use Rattle.cfg_read.specs.declared.yacc.ast.parts.Lines.{Lines}
use Rattle.cfg_read.specs.SyntaxTexts.{SyntaxText}
use Rattle.cfg_read.specs.Names.{distinct, avoided_tokens, implicit_tokens_of}
use Rattle.cfg_read.specs.Asts.{precedences_of}
use Rattle.cfg_read.specs.AstModels.{named_spans, named_precedences}

-- precedences, and the tokens of `%avoid_insert` and of `%implicit_tokens`, each name where it first stands
pub record AreLinesOf (x : SyntaxText) (l : Lines) : Type 0 where
  pub precedences_is : named_precedences l.precs ≡ precedences_of x.levels
  pub avoided_is : named_spans l.avoid_insert ≡ distinct (avoided_tokens x)
  pub implicit_is : named_spans l.implicit_tokens ≡ distinct (implicit_tokens_of x)
