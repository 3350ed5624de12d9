-- What lines say by names: as many precedences as tokens that differ, and of the same names.
use Rattle.std.proofs.Common.{◌≡◌, ℕ, suc, Bool, true, false, List, [], ◌∷◌, ◌++◌, map, fold, length, if◌then◌else◌, refl, sym, ap, ◌∙◌, Bor}
use Rattle.std.specs.List.{flat_map}
use Rattle.std.proofs.lemmas.List.{map-append, length-map}
use Rattle.cfg_base.specs.declared.precedence.AssocKind.{AssocKind}
use Rattle.cfg_read.specs.declared.yacc.parser.syntax.Symbol.{Symbol}
use Rattle.cfg_read.specs.SyntaxTexts.{WordText, LevelText}
use Rattle.cfg_read.specs.SyntaxModels.{symbol_of}
use Rattle.cfg_read.specs.NameModels.{symbols_at}
use Rattle.cfg_read.specs.Names.{is_named, is_among, with_distinct, distinct, words_in}
use Rattle.cfg_read.specs.Asts.{PrecedenceAst, precedence_ast, level_precedences, precedences_at, has_precedence, with_precedence_of, precedences_of}
use Rattle.cfg_read.proofs.NameLemmas.{any_map, among_distinct}

abbrev token_of : PrecedenceAst → WordText
token_of p = p.token

step : (acc : List PrecedenceAst) (p : PrecedenceAst) → map token_of (with_precedence_of acc p) ≡ with_distinct (map token_of acc) (token_of p)
step acc p =
    by (has_precedence acc p.token.text)
    ∙ ap (λ (b : Bool). if b then map token_of acc else map token_of acc ++ p.token ∷ []) (sym (any_map token_of (is_named p.token.text) acc))
  where
    by : (b : Bool) → map token_of (if b then acc else acc ++ p ∷ []) ≡ (if b then map token_of acc else map token_of acc ++ p.token ∷ [])
    by true = refl
    by false = map-append token_of acc (p ∷ [])

kept : (ps acc : List PrecedenceAst) → map token_of (fold with_precedence_of acc ps) ≡ fold with_distinct (map token_of acc) (map token_of ps)
kept [] acc = refl
kept (p ∷ ps) acc = kept ps (with_precedence_of acc p) ∙ ap (λ vs. fold with_distinct vs (map token_of ps)) (step acc p)

same : (n : ℕ) (k : AssocKind) (ws : List WordText) → map token_of (map (precedence_ast n k) ws) ≡ ws
same n k [] = refl
same n k (w ∷ ws) = ap (λ l. w ∷ l) (same n k ws)

tokens_at : (n : ℕ) (ls : List LevelText) → map token_of (precedences_at n ls) ≡ flat_map (λ (l : LevelText). words_in l.tokens) ls
tokens_at n [] = refl
tokens_at n (l ∷ ls) =
    map-append token_of (level_precedences n l) (precedences_at (suc n) ls)
    ∙ ap (λ ws. ws ++ map token_of (precedences_at (suc n) ls)) (same n l.kind (words_in l.tokens))
    ∙ ap (λ ws. words_in l.tokens ++ ws) (tokens_at (suc n) ls)

kept_tokens : (ls : List LevelText) → map token_of (precedences_of ls) ≡ distinct (flat_map (λ (l : LevelText). words_in l.tokens) ls)
kept_tokens ls = kept (precedences_at 0 ls) [] ∙ ap distinct (tokens_at 0 ls)

-- a token has a precedence where it stands in a line
pub has_level : (ls : List LevelText) (q : List ℕ) → has_precedence (precedences_of ls) q ≡ is_among (flat_map (λ (l : LevelText). words_in l.tokens) ls) q
has_level ls q =
    sym (any_map token_of (is_named q) (precedences_of ls))
    ∙ ap (λ ws. is_among ws q) (kept_tokens ls)
    ∙ among_distinct (flat_map (λ (l : LevelText). words_in l.tokens) ls) q

-- as many precedences as tokens that differ
pub as_many_levels : (ls : List LevelText) → length (precedences_of ls) ≡ length (distinct (flat_map (λ (l : LevelText). words_in l.tokens) ls))
as_many_levels ls = sym (length-map (precedences_of ls) token_of) ∙ ap length (kept_tokens ls)

-- the word of a symbol of a line
abbrev pub item_word : Bor Symbol → WordText
item_word s = (symbol_of s.now).word

pub words_of_items : (ss : List (Bor Symbol)) → map item_word ss ≡ words_in (symbols_at ss)
words_of_items [] = refl
words_of_items (s ∷ ss) = ap (λ l. (symbol_of s.now).word ∷ l) (words_of_items ss)
