-- The rules of a Bison file, of its tokens, as the Bison manual has them: "A Bison grammar rule has the following general form:
-- result: components; There can be multiple rules for the same result, separated with |."
use Rattle.std.specs.Prelude.{ℕ, zero, suc, ◌+◌, Bool, true, false, not, ◌&&◌, ◌||◌, ◌==◌, List, [], ◌∷◌, ◌++◌, take, Option, None, Some, if◌then◌else◌, bytes_eq, codes, decimal}
use Rattle.std.specs.List.{list_any}
use Rattle.bison_rules.specs.Pieces.{Symbol, Token, Word, Head, Mark, Code, is, tokens_of}

-- a name before a colon begins a rule, and the colon is left out
abbrev pub has_colon : List Token → Bool
has_colon [] = false
has_colon (t ∷ ts) = is (codes ":") t

abbrev pub headed : Token → Bool → List Token
headed (Word s) true = Head s ∷ []
headed t before_colon = if is (codes ":") t then [] else t ∷ []

abbrev pub with_heads : List Token → List Token
with_heads [] = []
with_heads (t ∷ ts) = headed t (has_colon ts) ++ with_heads ts

-- An action in the middle of an alternative, behind which a symbol or another action comes, is a symbol with a name that Bison
-- makes, `$@1`, `$@2` .., and has an empty rule. Other code says nothing.
abbrev pub is_prec : List ℕ → Bool
is_prec m = bytes_eq m (codes "%prec")

abbrev pub goes_on : Bool → List Token → Bool
goes_on after_prec [] = false
goes_on after_prec (Head s ∷ ts) = false
goes_on after_prec (Mark m ∷ ts) = is_prec m && goes_on true ts
goes_on after_prec (t ∷ ts) = not after_prec || goes_on false ts

abbrev pub in_rule : Bool → Token → Bool
in_rule before (Head s) = true
in_rule before (Mark m) = bytes_eq m (codes "|") || (before && is_prec m)
in_rule before t = before

abbrev pub action_name : ℕ → Symbol
action_name n = codes "$@" ++ decimal n

abbrev pub action_rules : ℕ → List Token
action_rules zero = []
action_rules (suc n) = action_rules n ++ Head (action_name (n + 1)) ∷ []

abbrev pub with_actions : Bool → ℕ → List Token → List Token
with_actions is_rule n [] = action_rules n
with_actions is_rule n (Code ∷ ts) =
    if is_rule && goes_on false ts then Word (action_name (n + 1)) ∷ with_actions is_rule (n + 1) ts
    else with_actions is_rule n ts
with_actions is_rule n (t ∷ ts) = t ∷ with_actions (in_rule is_rule t) n ts

-- an alternative: its symbols, and the token of its `%prec`
pub record BisonBody : Type 0 where
  pub symbols : List Symbol
  pub prec : Option Symbol

pub record BisonRule : Type 0 where
  pub head : Symbol
  pub bodies : List BisonBody

-- what there is up to the next alternative or declaration
abbrev pub symbols : Bool → List Token → List Symbol
symbols after_prec [] = []
symbols after_prec (Word s ∷ ts) = if after_prec then symbols false ts else s ∷ symbols false ts
symbols after_prec (Mark m ∷ ts) = if is_prec m then symbols true ts else []
symbols after_prec (t ∷ ts) = []

abbrev pub prec : Bool → List Token → Option Symbol
prec after_prec [] = None
prec after_prec (Word s ∷ ts) = if after_prec then Some s else prec false ts
prec after_prec (Mark m ∷ ts) = if is_prec m then prec true ts else None
prec after_prec (t ∷ ts) = None

abbrev pub body : List Token → BisonBody
body ts = record { symbols = symbols false ts; prec = prec false ts }

-- the alternatives behind the first of a rule, up to the next rule
abbrev pub more_bodies : List Token → List BisonBody
more_bodies [] = []
more_bodies (Head s ∷ ts) = []
more_bodies (t ∷ ts) = if is (codes "|") t then body ts ∷ more_bodies ts else more_bodies ts

abbrev pub rules : List Token → List BisonRule
rules [] = []
rules (Head s ∷ ts) = record { head = s; bodies = body ts ∷ more_bodies ts } ∷ rules ts
rules (t ∷ ts) = rules ts

-- the strings that stand for tokens: each behind its token in a declaration of tokens
abbrev pub is_string : Symbol → Bool
is_string [] = false
is_string (b ∷ bs) = b == 34

abbrev pub pairs : List Symbol → List (Symbol × Symbol)
pairs [] = []
pairs (t ∷ []) = []
pairs (t ∷ s ∷ ss) = if is_string s then (s, t) ∷ pairs (s ∷ ss) else pairs (s ∷ ss)

abbrev pub declares_tokens : List ℕ → Bool
declares_tokens m = bytes_eq m (codes "%token") || bytes_eq m (codes "%term") || bytes_eq m (codes "%nterm")

abbrev pub aliases : List Token → List (Symbol × Symbol)
aliases [] = []
aliases (Mark m ∷ ts) = if declares_tokens m then pairs (symbols false ts) ++ aliases ts else aliases ts
aliases (t ∷ ts) = aliases ts

-- the start rules, and the precedence levels, lowest first
abbrev pub starts : List Token → List Symbol
starts [] = []
starts (Mark m ∷ ts) = if bytes_eq m (codes "%start") then take 1 (symbols false ts) ++ starts ts else starts ts
starts (t ∷ ts) = starts ts

pub record BisonLevel : Type 0 where
  pub word : List ℕ
  pub symbols : List Symbol

abbrev pub is_level : List ℕ → Bool
is_level m = bytes_eq m (codes "%left") || bytes_eq m (codes "%right") || bytes_eq m (codes "%nonassoc") || bytes_eq m (codes "%binary") || bytes_eq m (codes "%precedence")

abbrev pub levels : List Token → List BisonLevel
levels [] = []
levels (Mark m ∷ ts) = if is_level m then record { word = m; symbols = symbols false ts } ∷ levels ts else levels ts
levels (t ∷ ts) = levels ts

-- a file: its rules with symbols as it has them, behind them those of actions in the middle; and what it declares
pub record BisonText : Type 0 where
  pub rules : List BisonRule
  pub aliases : List (Symbol × Symbol)
  pub starts : List Symbol
  pub levels : List BisonLevel

abbrev pub text_of : List Token → BisonText
text_of ts = record { rules = rules ts; aliases = aliases ts; starts = starts ts; levels = levels ts }

-- what a file says, if it is one of Bison: it has rules, and nothing that is no piece
abbrev pub is_whole : List Token → Bool
is_whole ts = list_any (is (codes "%%")) ts && not (list_any (is []) ts)

abbrev pub file_by : List Token → Option BisonText
file_by ts = if is_whole ts then Some (text_of (with_actions false 0 (with_heads ts))) else None

abbrev pub file_in : List ℕ → Option BisonText
file_in file = file_by (tokens_of file)

-- the token that a symbol stands for: that of its first alias, or itself
abbrev pub alias_of : List (Symbol × Symbol) → Symbol → Symbol
alias_of [] s = s
alias_of (a ∷ more) s = if bytes_eq a.0 s then a.1 else alias_of more s
