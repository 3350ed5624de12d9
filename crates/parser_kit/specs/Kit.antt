-- What contracts see of a kit of a text, and of which text, kind and cap it is.
use Rattle.std.specs.Prelude.{◌≡◌, ℕ, List, [], None}
use Rattle.cfg_read.specs.declared.yacc.YaccKind.{YaccKind}
use Rattle.cfg_read.specs.Files.{ReadsFile}
use Rattle.cfg_read.specs.SyntaxTexts.{SyntaxText}
use Rattle.cfg_read.specs.Validity.{failures}
use Rattle.cfg_read.specs.ValidityInfo.{CheckedAst, read_as}
use Rattle.cfg_numbered.specs.Value.{GrammarValue}
use Rattle.cfgrammar.specs.FromAst.{made, too_many}
use Rattle.lrpar.specs.Checked.{ParserValue}
use Rattle.parser_kit.specs.Tabled.{IsTabled}

-- what is kept of the text, and the checked data: its grammar, graph and table, and the cap
pub record KitValue : Type 0 where
  pub kept : CheckedAst
  pub parser : ParserValue

-- the grammar of what is kept of a text
abbrev pub grammar_of : CheckedAst → GrammarValue
grammar_of c = made c.kind c.ast

-- the kit of a text of a kind, where indices go up to `top`
pub record IsKitOf (top : ℕ) (kind : YaccKind) (text : List ℕ) (cap : ℕ) (k : KitValue) : Type 0 where
  -- the text reads, nothing is wrong with its reading, and the grammar is the one that it makes
  pub reading : SyntaxText
  pub reads : ReadsFile kind text reading
  pub valid : failures reading ≡ []
  pub kept : k.kept ≡ read_as kind reading
  pub grammar : k.parser.grammar ≡ grammar_of k.kept
  pub fits : too_many top (grammar_of k.kept).grammar ≡ None
  -- graph and table are its own, and no chain of reductions passes the cap
  pub tabled : IsTabled top k.parser
  pub cap_is : k.parser.cap ≡ cap

-- the kit of some text, kind and cap
pub record IsKit (top : ℕ) (k : KitValue) : Type 0 where
  pub kind : YaccKind
  pub text : List ℕ
  pub cap : ℕ
  pub is_of : IsKitOf top kind text cap k
