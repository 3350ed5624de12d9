-- The rules, start rule and precedence levels that the kit's syntax reads in a text are those of a Bison file.
use Rattle.std.specs.Prelude.{◌≡◌, ℕ, Bool, true, false, not, ◌&&◌, ◌||◌, List, [], ◌∷◌, Option, None, Some, if◌then◌else◌, bytes_eq, codes}
use Rattle.std.specs.List.{list_any}
use Rattle.cfg_base.specs.declared.precedence.AssocKind.{AssocKind}
use Rattle.cfg_base.specs.declared.precedence.AssocKind.TheVariants.{Left, Right, Nonassoc}
use Rattle.cfg_read.specs.declared.yacc.YaccKind.TheVariants as kinds
use Rattle.cfg_read.specs.declared.yacc.YaccOriginalActionKind.TheVariants as actions
use Rattle.cfg_read.specs.SyntaxTexts.{WordText, SymbolText, AlternativeText, RuleText, LevelText, SyntaxText}
use Rattle.cfg_read.specs.Reading.{Reads}
use Rattle.bison_rules.specs.Pieces.{Symbol}
use Rattle.bison_rules.specs.Rules.{BisonBody, BisonRule, BisonLevel, BisonText, alias_of, file_in}
use Rattle.checked_import.specs.Spelling.{all_pairs, spells, is_quoted}

-- whether a token is among those of a precedence level
abbrev pub is_in_level : Symbol → LevelText → Bool
is_in_level s l = list_any (λ (t : SymbolText). spells s t.word.text) l.tokens

-- the strings that stand for tokens
abbrev pub Aliases : Type 0
Aliases = List (Symbol × Symbol)

abbrev pub has_quotes : Symbol → Bool → Bool
has_quotes s q = if q then is_quoted s else not (is_quoted s)

-- a symbol is spelled by the token that it stands for, with quotes where that has some
abbrev pub same_symbol : Aliases → Symbol → SymbolText → Bool
same_symbol aliases s t = spells (alias_of aliases s) t.word.text && has_quotes (alias_of aliases s) t.is_quoted

-- the token of a `%prec` is spelled too, and left out only where the text has no level for it
abbrev pub same_prec : Aliases → List LevelText → Option Symbol → Option WordText → Bool
same_prec aliases levels None None = true
same_prec aliases levels None (Some w) = false
same_prec aliases levels (Some s) (Some w) = spells (alias_of aliases s) w.text
same_prec aliases levels (Some s) None = not (list_any (is_in_level (alias_of aliases s)) levels)

abbrev pub same_body : Aliases → List LevelText → BisonBody → AlternativeText → Bool
same_body aliases levels b a = all_pairs (same_symbol aliases) b.symbols a.symbols && same_prec aliases levels b.prec a.precedence

abbrev pub same_rule : Aliases → List LevelText → BisonRule → RuleText → Bool
same_rule aliases levels r x = spells r.head x.name.text && all_pairs (same_body aliases levels) r.bodies x.alternatives

abbrev pub same_rules : BisonText → SyntaxText → Bool
same_rules file x = all_pairs (same_rule file.aliases x.levels) file.rules x.rules

-- the start rules that are named, one by one; a text that names none starts with its first rule, as a file does
abbrev pub same_start : Symbol → WordText → Bool
same_start s w = spells s w.text

abbrev pub same_starts : BisonText → SyntaxText → Bool
same_starts file x = all_pairs same_start file.starts x.starts

-- the associativity of a level; one of `%precedence` is said as `%nonassoc`
abbrev pub is_kind : List ℕ → AssocKind → Bool
is_kind w Left = bytes_eq w (codes "%left")
is_kind w Right = bytes_eq w (codes "%right")
is_kind w Nonassoc = not (bytes_eq w (codes "%left") || bytes_eq w (codes "%right"))

abbrev pub same_level : Aliases → BisonLevel → LevelText → Bool
same_level aliases l y = is_kind l.word y.kind && all_pairs (same_symbol aliases) l.symbols y.tokens

-- the levels in order; one of `%precedence` may be left out, and its conflicts stay
abbrev pub same_levels : Aliases → List BisonLevel → List LevelText → Bool
same_levels aliases [] [] = true
same_levels aliases [] (y ∷ ys) = false
same_levels aliases (l ∷ ls) [] = bytes_eq l.word (codes "%precedence") && same_levels aliases ls []
same_levels aliases (l ∷ ls) (y ∷ ys) =
    if same_level aliases l y then same_levels aliases ls ys
    else bytes_eq l.word (codes "%precedence") && same_levels aliases ls (y ∷ ys)

-- the one reading of a text has the rules of a file, its start rule and its levels
pub record SaysRules (file : BisonText) (text : List ℕ) : Type 0 where
  pub read : SyntaxText
  pub reads : Reads (kinds.Original actions.GenericParseTree) text 0 read
  pub same : same_rules file read ≡ true
  pub start : same_starts file read ≡ true
  pub levels : same_levels file.aliases file.levels read.levels ≡ true

-- The law: the rules are those of the source, one by one, and behind them those of actions in the middle; start rule and levels too.
pub record HasRulesOf (source text : List ℕ) : Type 0 where
  pub file : BisonText
  pub is_file : file_in source ≡ Some file
  pub says : SaysRules file text
