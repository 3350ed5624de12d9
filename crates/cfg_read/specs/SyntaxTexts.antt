-- What a grammar text says, each kind of thing in the order of the text. Texts are lists of bytes.
use Rattle.std.specs.Prelude.{ℕ, Bool, List, Option}
use Rattle.cfg_base.specs.SpanModel.{SpanModel}
use Rattle.cfg_base.specs.declared.precedence.AssocKind.{AssocKind}

-- a text, and where it stands: a name or token without quotes, a string with its quotes
pub record WordText : Type 0 where
  pub text : List ℕ
  pub span : SpanModel

-- A name or a quoted token. In an alternative it is optional where a `?` stands right behind it: the span from its first
-- byte, the quote included, past the `?`.
pub record SymbolText : Type 0 where
  pub is_quoted : Bool
  pub word : WordText
  pub optional : Option SpanModel

pub record AlternativeText : Type 0 where
  pub symbols : List SymbolText
  -- whether `%empty` stands there
  pub is_empty : Bool
  -- the token of `%prec`
  pub precedence : Option WordText
  pub action : Option WordText
  -- from the first to the end of the last of symbols, `%empty` and `%prec` with its token; without
  -- these the offset of the `|` or `;`
  pub span : SpanModel

-- one heading with its alternatives
pub record RuleText : Type 0 where
  pub name : WordText
  -- the type behind `->`, in Grmtools
  pub action_type : Option WordText
  pub alternatives : List AlternativeText

-- one precedence line
pub record LevelText : Type 0 where
  pub kind : AssocKind
  pub tokens : List SymbolText

pub record NumberText : Type 0 where
  pub value : ℕ
  pub span : SpanModel

-- the printed text of a token
pub record EppText : Type 0 where
  pub token : WordText
  pub text : WordText

-- the name and the type of `%parse-param`
pub record ParamText : Type 0 where
  pub name : WordText
  pub param_type : WordText

pub record SyntaxText : Type 0 where
  pub starts : List WordText
  pub tokens : List SymbolText
  pub levels : List LevelText
  -- of these three a list for each line
  pub avoid_insert : List (List SymbolText)
  pub implicit_tokens : List (List SymbolText)
  pub expect_unused : List (List SymbolText)
  pub expect : List NumberText
  pub expect_rr : List NumberText
  pub epp : List EppText
  pub action_types : List WordText
  -- of these two the last one stands
  pub parse_param : Option ParamText
  pub parse_generics : Option WordText
  pub rules : List RuleText
  -- the text behind the second `%%`
  pub programs : Option WordText
