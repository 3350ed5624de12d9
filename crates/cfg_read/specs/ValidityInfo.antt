-- What is kept of a grammar text: its kind, its syntax tree, and all that is wrong with it.
use Rattle.std.specs.Prelude.{◌≡◌, ℕ, Bool, true, false, List, [], ◌∷◌, Option, None, Some, All, if◌then◌else◌}
use Rattle.std.specs.Str.{bytes_eq}
use Rattle.cfg_base.specs.SpanModel.{SpanModel}
use Rattle.cfg_read.specs.declared.yacc.YaccKind.{YaccKind}
use Rattle.cfg_read.specs.declared.yacc.validity_info.ASTModificationError.{ASTModificationError}
use Rattle.cfg_read.specs.declared.yacc.validity_info.ASTModificationError.TheVariants as changes
use Rattle.cfg_read.specs.SyntaxTexts.{RuleText, SyntaxText}
use Rattle.cfg_read.specs.Asts.{Ast, RuleAst, no_ast, ast_of}
use Rattle.cfg_read.specs.AstChanges.{with_start}
use Rattle.cfg_read.specs.Validity.{FailureText, failures}
use Rattle.cfg_read.specs.WellFormedAst.{IsWellFormedAst, NamesAreWords, is_name_text}
use Rattle.cfg_read.specs.Files.{ReadsFile, FailsFile}

-- a syntax tree with its kind and what is wrong with its text
pub record CheckedAst : Type 0 where
  pub kind : YaccKind
  pub ast : Ast
  pub errors : List FailureText

abbrev pub is_valid : List FailureText → Bool
is_valid [] = true
is_valid (f ∷ fs) = false

-- of a text that reads: its tree, and the failures of its reading
abbrev pub read_as : YaccKind → SyntaxText → CheckedAst
read_as kind x = record { kind = kind; ast = ast_of (is_valid (failures x)) x; errors = failures x }

-- of one that doesn't: an empty tree, and why it doesn't
abbrev pub unread : YaccKind → List FailureText → CheckedAst
unread kind fs = record { kind = kind; ast = no_ast; errors = fs }

-- what is kept of a text of a kind
pub data IsChecked (kind : YaccKind) (text : List ℕ) (c : CheckedAst) : Type 0 where
  reads_as : (x : SyntaxText) → ReadsFile kind text x → c ≡ read_as kind x → IsChecked kind text c
  has_errors : (fs : List FailureText) → FailsFile kind text fs → c ≡ unread kind fs → IsChecked kind text c

-- where a rule's first heading stands
abbrev pub heading_at : List RuleAst → List ℕ → Option SpanModel
heading_at [] name = None
heading_at (r ∷ rs) name = if bytes_eq name r.name.text then Some r.name.span else heading_at rs name

-- with this rule as the start rule, at its first heading
abbrev pub starts_at : CheckedAst → List ℕ → SpanModel → CheckedAst
starts_at c name at = record c { ast = with_start c.ast (record { text = name; span = at }) }

pub record ChangesStart (old : CheckedAst) (name : List ℕ) (new : CheckedAst) : Type 0 where
  pub at : SpanModel
  pub heading : heading_at old.ast.rules name ≡ Some at
  pub is : new ≡ starts_at old name at

-- no rule has this name; or one has, and memory was wanting
abbrev pub IsChangeError : CheckedAst → List ℕ → ASTModificationError → Type 0
IsChangeError old name (changes.Memory e) = (at : SpanModel) × (heading_at old.ast.rules name ≡ Some at)
IsChangeError old name changes.UnknownRule = heading_at old.ast.rules name ≡ None

-- the headings have names of the file grammar
abbrev pub HeadingsAreWords : SyntaxText → Type 0
HeadingsAreWords x = All (λ (r : RuleText). is_name_text r.name.text ≡ true) x.rules

-- The invariant of what is kept: where nothing is wrong with the text the tree is well formed, and its rules have names
-- of the file grammar or end in `?`.
pub record IsWellMade (c : CheckedAst) : Type 0 where
  pub well_formed : is_valid c.errors ≡ true → IsWellFormedAst c.ast
  pub names : is_valid c.errors ≡ true → NamesAreWords c.ast
