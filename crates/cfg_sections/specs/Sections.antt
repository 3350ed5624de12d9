-- Reading a section: what is wanted at an offset, what stands there, and what is wanted next.
use Rattle.std.specs.Prelude.{◌≡◌, ℕ, suc, ◌+◌, ◌<◌, ◌≤◌, ◌^◌, Bool, true, false, List, [], ◌∷◌, ◌++◌, length, drop, map, nat_eq, Some, None, slice_range}
use Rattle.std.specs.Char.{to_ascii_lowercase}
use Rattle.std.specs.List.{starts_with}
use Rattle.std.specs.Str.Parse.{digits_value}
use lib.Chars.{codes}
use Rattle.cfg_base.specs.SpanModel.{SpanModel}
use Rattle.cfg_sections.specs.declared.header.scan.TokenKind.{TokenKind}
use Rattle.cfg_sections.specs.declared.header.scan.TokenKind.TheVariants as tokens
use Rattle.cfg_sections.specs.declared.header.scan.PathShape.TheVariants as paths
use Rattle.cfg_base.specs.Text.{run_end, is_digit}
use Rattle.cfg_sections.specs.HeaderWords.{gap_part, token_at, path_at, is_key_byte, is_in_text, begins_word}
use Rattle.cfg_sections.specs.HeaderTexts.{WordText, PathText, SettingText, unitary, construct, num, quoted, array, ItemsText, none, more, ValueText, flag, setting}
use Rattle.cfg_sections.specs.HeaderErrors.{KindText, missing_section, illegal_name, expected_token, invalid_entry}

abbrev pub span : ℕ → ℕ → SpanModel
span a b = record { start = a; end = b }

-- a key in lower case, where it stands, and its value
pub record PairText : Type 0 where
  pub key : List ℕ
  pub at : SpanModel
  pub value : ValueText SpanModel

-- arrays that are open: none; or within these, one with these items behind its `[`
pub data Open : Type 0 where
  top : Open
  inside : Open → ItemsText SpanModel → SpanModel → Open

abbrev pub depth : Open → ℕ
depth top = 0
depth (inside o items bracket) = suc (depth o)

abbrev pub most_depth : ℕ
most_depth = 64

-- a key, as read
abbrev pub Key : Type 0
Key = WordText SpanModel

-- what is wanted
pub data Wanted : Type 0 where
  -- the section, which must be there or not
  Section : Bool → Wanted
  -- its `{`
  Brace : Wanted
  -- a pair, or the `}`
  Pairs : Wanted
  -- a pair
  Pair : Wanted
  -- behind a key: `:`, or the pair's end
  Colon : Key → Wanted
  -- the end of this pair, at `,` or `}`
  PairEnd : PairText → Wanted
  -- a setting of this key, in these open arrays
  Value : Key → Open → Wanted
  -- behind a path: `(`, or the setting's end
  Paren : Key → Open → PathText SpanModel → Wanted
  -- a constructor's argument
  Argument : Key → Open → PathText SpanModel → Wanted
  -- its `)`
  CloseParen : Key → Open → PathText SpanModel → PathText SpanModel → Wanted
  -- behind the `[` of an array and these items: a setting, or the `]`
  Items : Key → Open → ItemsText SpanModel → SpanModel → Wanted
  -- the end of this setting
  Behind : Key → Open → SettingText SpanModel → Wanted
  Nothing : Wanted

-- Where reading is: behind the pairs that were read, at an offset. A gap may stand before what is wanted.
pub data State : Type 0 where
  Spaced : Wanted → List PairText → ℕ → State
  At : Wanted → List PairText → ℕ → State

abbrev pub key_of : List ℕ → ℕ → ℕ → Key
key_of bytes a b = record { text = map to_ascii_lowercase (slice_range bytes a b); at = span a b }

abbrev pub pair_of : Key → ValueText SpanModel → PairText
pair_of k v = record { key = k.text; at = k.at; value = v }

abbrev pub word_of : List ℕ → ℕ → ℕ → WordText SpanModel
word_of bytes a b = record { text = slice_range bytes a b; at = span a b }

-- this path stands at a, and ends at this offset
pub data IsPath (bytes : List ℕ) (a : ℕ) : PathText SpanModel → ℕ → Type 0 where
  alone : {b : ℕ} → path_at bytes a ≡ paths.Alone b → IsPath bytes a (record { namespace = None; member = word_of bytes a b }) b
  within : {b c : ℕ} → path_at bytes a ≡ paths.Within b c → IsPath bytes a (record { namespace = Some (word_of bytes a b); member = word_of bytes (b + 2) c }) c

-- where the key ends that begins at a
abbrev pub key_end : List ℕ → ℕ → ℕ
key_end bytes a = run_end is_key_byte bytes a

-- where the number ends that begins at a, and its value
abbrev pub number_end : List ℕ → ℕ → ℕ
number_end bytes a = run_end is_digit bytes a

abbrev pub number_at : List ℕ → ℕ → ℕ
number_at bytes a = digits_value 10 (slice_range bytes a (number_end bytes a))

-- where the text ends whose first quote stands at a: at the next quote, or the end
abbrev pub text_end : List ℕ → ℕ → ℕ
text_end bytes a = run_end is_in_text bytes (a + 1)

abbrev pub is_section_at : List ℕ → ℕ → Bool
is_section_at bytes a = starts_with nat_eq (drop a bytes) (codes "%grmtools")

abbrev pub is_colon : TokenKind → Bool
is_colon tokens.Colon = true
is_colon _ = false

abbrev pub is_open_paren : TokenKind → Bool
is_open_paren tokens.OpenParen = true
is_open_paren _ = false

abbrev pub is_close_paren : TokenKind → Bool
is_close_paren tokens.CloseParen = true
is_close_paren _ = false

abbrev pub is_open_brace : TokenKind → Bool
is_open_brace tokens.OpenBrace = true
is_open_brace _ = false

abbrev pub is_close_brace : TokenKind → Bool
is_close_brace tokens.CloseBrace = true
is_close_brace _ = false

abbrev pub is_close_bracket : TokenKind → Bool
is_close_bracket tokens.CloseBracket = true
is_close_bracket _ = false

-- one construct
pub data Step (bytes : List ℕ) : State → State → Type 0 where
  -- white or a comment
  gap_more : {w : Wanted} {x : List PairText} {a b : ℕ} → gap_part bytes a ≡ Some b → Step bytes (Spaced w x a) (Spaced w x b)
  gap_end : {w : Wanted} {x : List PairText} {a : ℕ} → gap_part bytes a ≡ None → Step bytes (Spaced w x a) (At w x a)
  -- the section, from its name to its `}`
  section : {x : List PairText} {a : ℕ} {r : Bool} → is_section_at bytes a ≡ true → Step bytes (At (Section r) x a) (Spaced Brace x (a + 9))
  no_section : {x : List PairText} {a : ℕ} → is_section_at bytes a ≡ false → Step bytes (At (Section false) x a) (At Nothing x 0)
  open_brace : {x : List PairText} {a : ℕ} → is_open_brace (token_at bytes a) ≡ true → Step bytes (At Brace x a) (Spaced Pairs x (a + 1))
  close_brace : {x : List PairText} {a : ℕ} → is_close_brace (token_at bytes a) ≡ true → Step bytes (At Pairs x a) (At Nothing x (a + 1))
  -- pairs
  next_pair : {x : List PairText} {a : ℕ} → is_close_brace (token_at bytes a) ≡ false → Step bytes (At Pairs x a) (At Pair x a)
  key : {x : List PairText} {a : ℕ} → token_at bytes a ≡ tokens.Letter → Step bytes (At Pair x a) (Spaced (Colon (key_of bytes a (key_end bytes a))) x (key_end bytes a))
  negated_key : {x : List PairText} {a : ℕ} → token_at bytes a ≡ tokens.Exclamation → token_at bytes (a + 1) ≡ tokens.Letter →
      Step bytes (At Pair x a) (Spaced (PairEnd (pair_of (key_of bytes (a + 1) (key_end bytes (a + 1))) (flag false (span a (key_end bytes (a + 1)))))) x (key_end bytes (a + 1)))
  colon : {x : List PairText} {a : ℕ} {k : Key} → is_colon (token_at bytes a) ≡ true → Step bytes (At (Colon k) x a) (Spaced (Value k top) x (a + 1))
  no_colon : {x : List PairText} {a : ℕ} {k : Key} → is_colon (token_at bytes a) ≡ false → Step bytes (At (Colon k) x a) (At (PairEnd (pair_of k (flag true k.at))) x a)
  comma : {x : List PairText} {a : ℕ} {p : PairText} → token_at bytes a ≡ tokens.Comma → Step bytes (At (PairEnd p) x a) (Spaced Pairs (x ++ p ∷ []) (a + 1))
  no_comma : {x : List PairText} {a : ℕ} {p : PairText} → token_at bytes a ≡ tokens.CloseBrace → Step bytes (At (PairEnd p) x a) (At Pairs (x ++ p ∷ []) a)
  -- settings
  number : {x : List PairText} {a : ℕ} {k : Key} {o : Open} → token_at bytes a ≡ tokens.Digit → number_at bytes a < 2 ^ 64 →
      Step bytes (At (Value k o) x a) (Spaced (Behind k o (num (number_at bytes a) (span a (number_end bytes a)))) x (number_end bytes a))
  quote : {x : List PairText} {a : ℕ} {k : Key} {o : Open} → token_at bytes a ≡ tokens.Quote → text_end bytes a < length bytes →
      Step bytes (At (Value k o) x a) (Spaced (Behind k o (quoted (slice_range bytes (a + 1) (text_end bytes a)) (span a (text_end bytes a + 1)))) x (text_end bytes a + 1))
  path : {x : List PairText} {a b : ℕ} {k : Key} {o : Open} {p : PathText SpanModel} → begins_word (token_at bytes a) ≡ true → IsPath bytes a p b → Step bytes (At (Value k o) x a) (Spaced (Paren k o p) x b)
  open_bracket : {x : List PairText} {a : ℕ} {k : Key} {o : Open} → token_at bytes a ≡ tokens.OpenBracket → depth o < most_depth →
      Step bytes (At (Value k o) x a) (Spaced (Items k o none (span a (a + 1))) x (a + 1))
  -- behind a path
  open_paren : {x : List PairText} {a : ℕ} {k : Key} {o : Open} {p : PathText SpanModel} → is_open_paren (token_at bytes a) ≡ true → Step bytes (At (Paren k o p) x a) (Spaced (Argument k o p) x (a + 1))
  no_paren : {x : List PairText} {a : ℕ} {k : Key} {o : Open} {p : PathText SpanModel} → is_open_paren (token_at bytes a) ≡ false → Step bytes (At (Paren k o p) x a) (At (Behind k o (unitary p)) x a)
  argument : {x : List PairText} {a b : ℕ} {k : Key} {o : Open} {p q : PathText SpanModel} → IsPath bytes a q b → Step bytes (At (Argument k o p) x a) (Spaced (CloseParen k o p q) x b)
  close_paren : {x : List PairText} {a : ℕ} {k : Key} {o : Open} {p q : PathText SpanModel} → is_close_paren (token_at bytes a) ≡ true →
      Step bytes (At (CloseParen k o p q) x a) (Spaced (Behind k o (construct p q)) x (a + 1))
  -- items
  close_bracket : {x : List PairText} {a : ℕ} {k : Key} {o : Open} {items : ItemsText SpanModel} {start : SpanModel} → is_close_bracket (token_at bytes a) ≡ true →
      Step bytes (At (Items k o items start) x a) (Spaced (Behind k o (array items start (span a (a + 1)))) x (a + 1))
  item : {x : List PairText} {a : ℕ} {k : Key} {o : Open} {items : ItemsText SpanModel} {start : SpanModel} → is_close_bracket (token_at bytes a) ≡ false →
      Step bytes (At (Items k o items start) x a) (At (Value k (inside o items start)) x a)
  item_comma : {x : List PairText} {a : ℕ} {k : Key} {o : Open} {items : ItemsText SpanModel} {start : SpanModel} {s : SettingText SpanModel} → token_at bytes a ≡ tokens.Comma →
      Step bytes (At (Behind k (inside o items start) s) x a) (Spaced (Items k o (more items s) start) x (a + 1))
  no_item_comma : {x : List PairText} {a : ℕ} {k : Key} {o : Open} {items : ItemsText SpanModel} {start : SpanModel} {s : SettingText SpanModel} → token_at bytes a ≡ tokens.CloseBracket →
      Step bytes (At (Behind k (inside o items start) s) x a) (At (Items k o (more items s) start) x a)
  -- a setting in no array is its key's
  whole : {x : List PairText} {a : ℕ} {k : Key} {s : SettingText SpanModel} → Step bytes (At (Behind k top s) x a) (At (PairEnd (pair_of k (setting s))) x a)

-- any number of constructs, one after another
pub data Steps (bytes : List ℕ) : State → State → Type 0 where
  here : {s : State} → Steps bytes s s
  then : {s t u : State} → Step bytes s t → Steps bytes t u → Steps bytes s u

abbrev pub begins_pair : TokenKind → Bool
begins_pair tokens.Letter = true
begins_pair tokens.Exclamation = true
begins_pair _ = false

abbrev pub begins_key : TokenKind → Bool
begins_key tokens.Letter = true
begins_key _ = false

abbrev pub ends_pair : TokenKind → Bool
ends_pair tokens.Comma = true
ends_pair tokens.CloseBrace = true
ends_pair _ = false

abbrev pub begins_setting : TokenKind → Bool
begins_setting tokens.Digit = true
begins_setting tokens.Quote = true
begins_setting tokens.OpenBracket = true
begins_setting tokens.Letter = true
begins_setting tokens.Underscore = true
begins_setting _ = false

abbrev pub ends_item : TokenKind → Bool
ends_item tokens.Comma = true
ends_item tokens.CloseBracket = true
ends_item _ = false

-- no path at a: the kind of fault, and its offset
pub data IsNoPath (bytes : List ℕ) (a : ℕ) : KindText → ℕ → Type 0 where
  no_word : path_at bytes a ≡ paths.NoPath → IsNoPath bytes a illegal_name a
  no_member : {b : ℕ} → path_at bytes a ≡ paths.Unfinished b → IsNoPath bytes a illegal_name (b + 2)

-- where reading stops: the kind of fault, and its offset
pub data Stops (bytes : List ℕ) : State → KindText → ℕ → Type 0 where
  -- the section must be there
  missing : {x : List PairText} {a : ℕ} → is_section_at bytes a ≡ false → Stops bytes (At (Section true) x a) missing_section 0
  -- a bracket is wanted
  no_brace : {x : List PairText} {a : ℕ} → is_open_brace (token_at bytes a) ≡ false → Stops bytes (At Brace x a) (expected_token 123) a
  no_end_brace : {x : List PairText} {a : ℕ} {p : PairText} → ends_pair (token_at bytes a) ≡ false → Stops bytes (At (PairEnd p) x a) (expected_token 125) a
  no_end_bracket : {x : List PairText} {a : ℕ} {k : Key} {o : Open} {items : ItemsText SpanModel} {start : SpanModel} {s : SettingText SpanModel} → ends_item (token_at bytes a) ≡ false →
      Stops bytes (At (Behind k (inside o items start) s) x a) (expected_token 93) a
  no_end_paren : {x : List PairText} {a : ℕ} {k : Key} {o : Open} {p q : PathText SpanModel} → is_close_paren (token_at bytes a) ≡ false → Stops bytes (At (CloseParen k o p q) x a) (expected_token 41) a
  -- a key, a setting or a word is wanted
  no_pair : {x : List PairText} {a : ℕ} → begins_pair (token_at bytes a) ≡ false → Stops bytes (At Pair x a) illegal_name a
  no_key : {x : List PairText} {a : ℕ} → token_at bytes a ≡ tokens.Exclamation → begins_key (token_at bytes (a + 1)) ≡ false → Stops bytes (At Pair x a) illegal_name (a + 1)
  no_setting : {x : List PairText} {a : ℕ} {k : Key} {o : Open} → begins_setting (token_at bytes a) ≡ false → Stops bytes (At (Value k o) x a) illegal_name a
  no_path : {x : List PairText} {a b : ℕ} {k : Key} {o : Open} {e : KindText} → begins_word (token_at bytes a) ≡ true → IsNoPath bytes a e b → Stops bytes (At (Value k o) x a) e b
  no_argument : {x : List PairText} {a b : ℕ} {k : Key} {o : Open} {p : PathText SpanModel} {e : KindText} → IsNoPath bytes a e b → Stops bytes (At (Argument k o p) x a) e b
  -- the second quote is wanted, and the text ends
  no_end_quote : {x : List PairText} {a : ℕ} {k : Key} {o : Open} → token_at bytes a ≡ tokens.Quote → length bytes ≤ text_end bytes a → Stops bytes (At (Value k o) x a) (expected_token 34) (length bytes)
  -- too large
  large_number : {x : List PairText} {a : ℕ} {k : Key} {o : Open} → token_at bytes a ≡ tokens.Digit → 2 ^ 64 ≤ number_at bytes a → Stops bytes (At (Value k o) x a) (invalid_entry (codes "number")) a
  deep_array : {x : List PairText} {a : ℕ} {k : Key} {o : Open} → token_at bytes a ≡ tokens.OpenBracket → most_depth ≤ depth o → Stops bytes (At (Value k o) x a) (invalid_entry (codes "array")) a

-- the constructs from s on lead to where reading stops
pub record StopsFrom (bytes : List ℕ) (s : State) (kind : KindText) (offset : ℕ) : Type 0 where
  pub last : State
  pub steps : Steps bytes s last
  pub stops : Stops bytes last kind offset

-- from the text's front on, where a section must be there or not
abbrev pub beginning : Bool → State
beginning required = Spaced (Section required) [] 0

-- the section at the text's front holds these pairs, and ends before this offset
abbrev pub Reads : Bool → List ℕ → List PairText → ℕ → Type 0
Reads required bytes pairs offset = Steps bytes (beginning required) (At Nothing pairs offset)

-- the section can't be read
abbrev pub Faults : Bool → List ℕ → KindText → ℕ → Type 0
Faults required bytes kind offset = StopsFrom bytes (beginning required) kind offset
