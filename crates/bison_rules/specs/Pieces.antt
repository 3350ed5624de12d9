-- The tokens of a Bison file: its text is cut into pieces, each as long as it can be.
use Rattle.std.specs.Prelude.{ℕ, ◌+◌, ◌-◌, Bool, true, false, not, ◌&&◌, ◌||◌, ◌==◌, nat_le, nat_lt, List, [], ◌∷◌, ◌++◌, length, take, drop, slice_index, Option, None, Some, option_to_list, if◌then◌else◌, bytes_eq, codes}
use Rattle.std.specs.List.{prefix_len, position_or_len}
use Rattle.bison_rules.specs.Characters.{is_digit, is_word_byte, code_of}

-- a name, a string with its quotes, or a character as `'` and its code
abbrev pub Symbol : Type 0
Symbol = List ℕ

-- Word is a symbol, Head a name with its colon. Mark is a punctuation mark, a %-directive or `%%`, and empty where no piece begins. Code is in braces.
pub data Token : Type 0 where
  Word : List ℕ → Token
  Head : List ℕ → Token
  Mark : List ℕ → Token
  Code : Token

-- how many bytes of a text are those of a word, and how many are before a byte
abbrev pub word_size : List ℕ → ℕ
word_size bs = prefix_len is_word_byte bs

abbrev pub size_before : ℕ → List ℕ → ℕ
size_before end bs = position_or_len (λ b. b == end) bs

-- how many bytes are before the quote or the line feed that ends a quote; `\` escapes the byte behind it
abbrev pub quote_size : ℕ → Bool → List ℕ → ℕ
quote_size quote escaped [] = 0
quote_size quote escaped (b ∷ bs) = if not escaped && (b == quote || b == 10) then 0 else 1 + quote_size quote (not escaped && b == 92) bs

-- how many bytes a comment has up to its `*/`, and a tag up to the `>` that balances it, but not that of a `->`
abbrev pub comment_size : ℕ → List ℕ → ℕ
comment_size last [] = 0
comment_size last (b ∷ bs) = if last == 42 && b == 47 then 1 else 1 + comment_size b bs

abbrev pub tag_size : ℕ → ℕ → List ℕ → ℕ
tag_size depth last [] = 0
tag_size depth last (b ∷ bs) =
    if b == 62 && not (last == 45) then (if depth == 0 then 1 else 1 + tag_size (depth - 1) b bs)
    else 1 + tag_size (if b == 60 then depth + 1 else depth) b bs

abbrev pub first_of : List ℕ → ℕ
first_of bs = slice_index bs 0

abbrev pub is_quote : ℕ → Bool
is_quote b = b == 34 || b == 39

-- the braces of code: `{`, `}`, and the digraphs for them. A prologue has none but its `%}`
abbrev pub opens : Bool → ℕ → ℕ → Bool
opens is_prologue b c = not is_prologue && (b == 123 || (b == 60 && c == 37))

abbrev pub closes : Bool → ℕ → ℕ → Bool
closes is_prologue b c = if is_prologue then b == 37 && c == 125 else b == 125 || (b == 37 && c == 62)

-- how many bytes behind a byte of code belong to it: those of a quote, of a comment, or one
abbrev pub behind_slash : List ℕ → ℕ
behind_slash bs =
    if first_of bs == 47 then size_before 10 bs
    else (if first_of bs == 42 then 1 + comment_size 0 (drop 1 bs)
    else 0)

abbrev pub is_pair : Bool → ℕ → ℕ → Bool
is_pair is_prologue b c = (b == 60 && c == 37) || (b == 37 && (c == 62 || (is_prologue && c == 125)))

abbrev pub part_size : Bool → ℕ → List ℕ → ℕ
part_size is_prologue b bs =
    if is_quote b then 1 + quote_size b false bs
    else (if b == 47 then behind_slash bs
    else (if is_pair is_prologue b (first_of bs) then 1 else 0))

-- how many bytes code has up to the brace that balances the one before it; the first n belong to a quote or a comment
abbrev pub depth_after : Bool → ℕ → ℕ → ℕ → ℕ
depth_after is_prologue b c depth = if closes is_prologue b c then depth - 1 else (if opens is_prologue b c then depth + 1 else depth)

abbrev pub code_size : Bool → ℕ → ℕ → List ℕ → ℕ
code_size is_prologue depth n [] = 0
code_size is_prologue depth n (b ∷ bs) =
    if nat_lt 0 n then 1 + code_size is_prologue depth (n - 1) bs
    else (if closes is_prologue b (first_of bs) && depth == 0 then 1 + part_size is_prologue b bs
    else 1 + code_size is_prologue (depth_after is_prologue b (first_of bs) depth) (part_size is_prologue b bs) bs)

-- a piece: how many bytes it has behind its first, and its token if it is one
pub record Piece : Type 0 where
  pub size : ℕ
  pub token : Option Token

abbrev pub skips : ℕ → Piece
skips n = record { size = n; token = None }

abbrev pub gives : ℕ → Token → Piece
gives n t = record { size = n; token = Some t }

abbrev pub wrong : List ℕ → Piece
wrong bs = gives (length bs) (Mark [])

-- a piece that has to end before its text, the last byte of which is the line feed behind the file
abbrev pub closed : ℕ → Option Token → List ℕ → Piece
closed n token bs = if nat_lt n (length bs) then record { size = n; token = token } else wrong bs

-- a name; but the `_` of `_("..")` is none
abbrev pub name_piece : ℕ → List ℕ → Piece
name_piece b bs = let n = word_size bs in if first_of (drop n bs) == 40 then skips (n + 1) else gives n (Word (b ∷ take n bs))

abbrev pub character_piece : ℕ → Option ℕ → List ℕ → Piece
character_piece n None bs = wrong bs
character_piece n (Some c) bs = gives n (Word (39 ∷ c ∷ []))

-- a string or a character, which ends on its line
abbrev pub quote_piece : ℕ → List ℕ → Piece
quote_piece b bs = let n = quote_size b false bs in
    if not (first_of (drop n bs) == b) then wrong bs
    else (if b == 34 then gives (n + 1) (Word (34 ∷ take n bs ++ 34 ∷ []))
    else character_piece (n + 1) (code_of (take n bs)) bs)

-- directives that say nothing about the symbols of an alternative
abbrev pub says_nothing : List ℕ → Bool
says_nothing w = bytes_eq w (codes "empty") || bytes_eq w (codes "dprec") || bytes_eq w (codes "merge") || bytes_eq w (codes "expect") || bytes_eq w (codes "expect-rr") || bytes_eq w (codes "expect_rr")

abbrev pub directive_piece : List ℕ → List ℕ → Piece
directive_piece w bs =
    if length w == 0 then wrong bs
    else (if says_nothing w then skips (length w)
    else gives (length w) (Mark (37 ∷ w)))

-- `%%`, `%{ .. %}`, the `%?` of a predicate, and directives
abbrev pub percent_piece : List ℕ → Piece
percent_piece bs =
    if first_of bs == 37 then gives 1 (Mark (codes "%%"))
    else (if first_of bs == 123 then closed (1 + code_size true 0 0 (drop 1 bs)) None bs
    else (if first_of bs == 63 then skips 1
    else directive_piece (take (word_size bs) bs) bs))

-- a tag, a name in brackets, code, and a line that begins with `#`; else a mark
abbrev pub is_mark : ℕ → Bool
is_mark b = b == 58 || b == 124 || b == 59

abbrev pub sign_piece : ℕ → List ℕ → Piece
sign_piece b bs =
    if b == 60 then closed (tag_size 0 0 bs) None bs
    else (if b == 91 then closed (1 + size_before 93 bs) None bs
    else (if b == 123 then closed (code_size false 0 0 bs) (Some Code) bs
    else (if b == 35 then skips (size_before 10 bs)
    else (if is_mark b then gives 0 (Mark (b ∷ []))
    else wrong bs))))

-- white, the marks that Bison takes for white, the `)` of `_("..")`, and a byte order mark
abbrev pub is_skipped : ℕ → Bool
is_skipped b = (nat_le 9 b && nat_le b 13) || b == 32 || b == 44 || b == 61 || b == 41 || b == 239 || b == 187 || b == 191

abbrev pub comment_piece : List ℕ → Piece
comment_piece bs = if behind_slash bs == 0 then wrong bs else closed (behind_slash bs) None bs

abbrev pub piece_of : ℕ → List ℕ → Piece
piece_of b bs =
    if is_skipped b then skips 0
    else (if is_digit b then skips (word_size bs)
    else (if is_word_byte b then name_piece b bs
    else (if is_quote b then quote_piece b bs
    else (if b == 37 then percent_piece bs
    else (if b == 47 then comment_piece bs
    else sign_piece b bs)))))

abbrev pub is : List ℕ → Token → Bool
is w (Mark m) = bytes_eq m w
is w _ = false

abbrev pub gives_section : Option Token → Bool
gives_section None = false
gives_section (Some t) = is (codes "%%") t

-- the tokens of a text up to its second `%%`; its first n bytes belong to the piece before
abbrev pub tokens_from : ℕ → Bool → List ℕ → List Token
tokens_from n has_rules [] = []
tokens_from n has_rules (b ∷ bs) =
    if nat_lt 0 n then tokens_from (n - 1) has_rules bs
    else (if has_rules && gives_section (piece_of b bs).token then []
    else option_to_list (piece_of b bs).token ++ tokens_from (piece_of b bs).size (has_rules || gives_section (piece_of b bs).token) bs)

-- those of a file, whose last line ends with a line feed
abbrev pub tokens_of : List ℕ → List Token
tokens_of file = tokens_from 0 false (file ++ 10 ∷ [])
