-- Reading without optional symbols: the constructs are the same, but a symbol ends where its word does, whatever stands
-- behind it, and so no construct takes a `?` between two parts of an alternative.
use Rattle.std.specs.Prelude.{◌≡◌, ℕ, Bool, true, false, List}
use Rattle.cfg_read.specs.declared.yacc.YaccKind.{YaccKind}
use Rattle.cfg_read.specs.Words.{token_kind_at}
use Rattle.cfg_read.specs.SyntaxTexts.{SymbolText, RuleText, SyntaxText}
use Rattle.cfg_read.specs.SyntaxUpdates.{Part, is_open, append_symbol}
use Rattle.cfg_read.specs.Scanning.{begins_token}
use Rattle.cfg_read.specs.Reading.{More, Nothing, State, Spaced, At, IsToken, Step, beginning}

-- a symbol of an alternative stands there, where more of the alternative is wanted
abbrev pub is_at_symbol : List ℕ → State → Bool
is_at_symbol text (At (More r p) x a) = begins_token (token_kind_at text a)
is_at_symbol text _ = false

-- one construct
pub data PlainStep (kind : YaccKind) (text : List ℕ) : State → State → Type 0 where
  -- A symbol, where neither `%empty`, `%prec` nor an action was read.
  plain_symbol : {x : SyntaxText} {a b : ℕ} {r : RuleText} {p : Part} {t : SymbolText} → IsToken text a t b → p.is_empty ≡ false → is_open p ≡ true →
      PlainStep kind text (At (More r p) x a) (Spaced (More r (append_symbol p t a b)) x b)
  -- Any other construct.
  other : {s t : State} → is_at_symbol text s ≡ false → Step kind text s t → PlainStep kind text s t

-- any number of constructs, one after another
pub data PlainSteps (kind : YaccKind) (text : List ℕ) : State → State → Type 0 where
  ended : {s : State} → PlainSteps kind text s s
  before : {s t u : State} → PlainStep kind text s t → PlainSteps kind text t u → PlainSteps kind text s u

-- what the text from an offset on says without optional symbols
abbrev pub ReadsPlain : YaccKind → List ℕ → ℕ → SyntaxText → Type 0
ReadsPlain kind text start x = (a : ℕ) × PlainSteps kind text (beginning start) (At Nothing x a)
