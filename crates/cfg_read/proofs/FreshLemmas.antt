-- Fresh rules: their names, that each optional symbol has one, and what their productions hold.
use Rattle.std.proofs.Common.{◌≡◌, ℕ, suc, ◌-◌, length, Bool, true, false, ◌||◌, ◌==◌, List, [], ◌∷◌, ◌++◌, map, flat_map, fold, Option, None, Some, slice_get, if◌then◌else◌, All, refl, sym, ap, ◌∙◌, arith}
use Rattle.std.specs.List.{list_any}
use Rattle.std.specs.Str.{bytes_eq}
use Rattle.std.proofs.lemmas.List.Elements.{All-append, All-cons, All-head, All-map, All-nil, All-push, All-tail, All-weaker}
use Rattle.std.proofs.lemmas.List.Folds.{list_any-append}
use Rattle.std.proofs.lemmas.List.{append_assoc}
use Rattle.cfg_base.specs.SpanModel.{SpanModel}
use Rattle.cfg_base.specs.Text.{passes}
use Rattle.cfg_read.specs.SyntaxTexts.{WordText, SymbolText}
use Rattle.cfg_read.specs.Names.{is_among, is_named, distinct}
use Rattle.cfg_read.specs.FreshRules.{FreshText, fresh_name, fresh_at, fresh_by, optional_in, with_fresh, fresh_in, is_fresh_name}
use Rattle.cfg_read.specs.Asts.{ProductionAst, plain_symbol_ast, fresh_production, fresh_productions, fresh_heads}
use Rattle.cfg_read.proofs.NameLemmas.{any_map, among_distinct}
use Rattle.cfg_read.proofs.WellFormedNames.{or_true, named_itself, words_fold}
use Rattle.cfg_read.proofs.WellFormedParts.{All-left, All-right}

-- A name of a fresh rule ends in `?`.
ends_in_mark : (name : List ℕ) → is_fresh_name (name ++ 63 ∷ []) ≡ true
ends_in_mark [] = refl
ends_in_mark (b ∷ []) = refl
ends_in_mark (b ∷ c ∷ name) = ends_in_mark (c ∷ name)

pub fresh_ends : (b : Bool) (name : List ℕ) → is_fresh_name (fresh_name b name) ≡ true
fresh_ends false name = ends_in_mark name
fresh_ends true name = ap is_fresh_name (ap (λ (l : List ℕ). 39 ∷ l) (sym (append_assoc name (39 ∷ []) (63 ∷ [])))) ∙ ends_in_mark (39 ∷ (name ++ 39 ∷ []))

-- that is its last byte
pub last_is_mark : (name : List ℕ) → is_fresh_name name ≡ passes (λ c. c == 63) (slice_get name (length name - 1))
last_is_mark [] = refl
last_is_mark (b ∷ []) = refl
last_is_mark (b ∷ c ∷ name) =
    let next : length (b ∷ c ∷ name) - 1 ≡ suc (length (c ∷ name) - 1) = omega arith in
    last_is_mark (c ∷ name) ∙ sym (ap (λ n. passes (λ c. c == 63) (slice_get (b ∷ c ∷ name) n)) next)

abbrev pub word_of_fresh : FreshText → WordText
word_of_fresh f = f.word

-- The fresh rules are named as the optional symbols are, each name once.
one_fresh : (fs : List FreshText) (f : FreshText) → with_fresh fs f ≡ (if is_among (map word_of_fresh fs) f.word.text then fs else fs ++ f ∷ [])
one_fresh fs f = ap (λ (b : Bool). if b then fs else fs ++ f ∷ []) (sym (any_map word_of_fresh (is_named f.word.text) fs))

pub fresh_names : (declared : List ℕ → Bool) (ss : List SymbolText) → map word_of_fresh (fresh_in declared ss) ≡ distinct (map word_of_fresh (optional_in declared ss))
fresh_names declared ss = words_fold word_of_fresh with_fresh one_fresh (optional_in declared ss) []

-- what is so of each optional symbol is so of those that are kept
pub All-fresh : (P : FreshText → Type 0) (fs acc : List FreshText) → All P acc → All P fs → All P (fold with_fresh acc fs)
All-fresh P [] acc a b = a
All-fresh P (f ∷ fs) acc a b = All-fresh P fs (with_fresh acc f) (by (list_any (λ (g : FreshText). bytes_eq f.word.text g.word.text) acc)) (All-tail P f fs b)
  where
    by : (c : Bool) → All P (if c then acc else acc ++ f ∷ [])
    by true = a
    by false = All-push P acc f a (All-head P f fs b)

-- and what is so of all symbols is so of the optional ones
pub optional_all : (P : SymbolText → Type 0) (declared : List ℕ → Bool) (ss : List SymbolText) → All P ss → All (λ (f : FreshText). P f.symbol) (optional_in declared ss)
optional_all P declared [] h = All-nil (λ (f : FreshText). P f.symbol)
optional_all P declared (s ∷ ss) h =
    All-append (λ (f : FreshText). P f.symbol) (fresh_by declared s) (optional_in declared ss) (by s.optional) (optional_all P declared ss (All-tail P s ss h))
  where
    by : (o : Option SpanModel) → All (λ (f : FreshText). P f.symbol) (fresh_at declared s o)
    by None = All-nil (λ (f : FreshText). P f.symbol)
    by (Some at) = All-cons (λ (f : FreshText). P f.symbol) _ [] (All-head P s ss h) (All-nil (λ (f : FreshText). P f.symbol))

pub fresh_all : (P : SymbolText → Type 0) (declared : List ℕ → Bool) (ss : List SymbolText) → All P ss → All (λ (f : FreshText). P f.symbol) (fresh_in declared ss)
fresh_all P declared ss h = All-fresh (λ (f : FreshText). P f.symbol) (optional_in declared ss) [] (All-nil (λ (f : FreshText). P f.symbol)) (optional_all P declared ss h)

-- The name of each is that of a fresh rule's.
abbrev IsFresh : WordText → Type 0
IsFresh w = is_fresh_name w.text ≡ true

optional_named : (declared : List ℕ → Bool) (ss : List SymbolText) → All (λ (f : FreshText). IsFresh f.word) (optional_in declared ss)
optional_named declared [] = All-nil (λ (f : FreshText). IsFresh f.word)
optional_named declared (s ∷ ss) = All-append (λ (f : FreshText). IsFresh f.word) (fresh_by declared s) (optional_in declared ss) (by s.optional) (optional_named declared ss)
  where
    by : (o : Option SpanModel) → All (λ (f : FreshText). IsFresh f.word) (fresh_at declared s o)
    by None = All-nil (λ (f : FreshText). IsFresh f.word)
    by (Some at) = All-cons (λ (f : FreshText). IsFresh f.word) _ [] (fresh_ends _ s.word.text) (All-nil (λ (f : FreshText). IsFresh f.word))

pub fresh_named : (declared : List ℕ → Bool) (ss : List SymbolText) → All (λ (w : WordText). is_fresh_name w.text ≡ true) (map word_of_fresh (fresh_in declared ss))
fresh_named declared ss =
    All-map IsFresh word_of_fresh (fresh_in declared ss)
    (All-fresh (λ (f : FreshText). IsFresh f.word) (optional_in declared ss) [] (All-nil (λ (f : FreshText). IsFresh f.word)) (optional_named declared ss))

-- Each optional symbol has its fresh rule.
abbrev pub HasFresh : (List ℕ → Bool) → List WordText → SymbolText → Type 0
HasFresh declared ws s = All (λ (f : FreshText). is_among ws f.word.text ≡ true) (fresh_by declared s)

words_themselves : (fs : List FreshText) → All (λ (f : FreshText). is_among (map word_of_fresh fs) f.word.text ≡ true) fs
words_themselves [] = All-nil (λ (f : FreshText). is_among [] f.word.text ≡ true)
words_themselves (g ∷ fs) =
    All-cons (λ (f : FreshText). is_among (map word_of_fresh (g ∷ fs)) f.word.text ≡ true) g fs (named_itself g.word.text (is_among (map word_of_fresh fs) g.word.text))
    (All-weaker (λ (f : FreshText). is_among (map word_of_fresh fs) f.word.text ≡ true) (λ (f : FreshText). is_among (map word_of_fresh (g ∷ fs)) f.word.text ≡ true)
    (λ f k. or_true (bytes_eq f.word.text g.word.text) (is_among (map word_of_fresh fs) f.word.text) k) fs (words_themselves fs))

parts_all : {X Y : Type 0} (P : Y → Type 0) (g : X → List Y) (xs : List X) → All P (flat_map g xs) → All (λ x. All P (g x)) xs
parts_all P g [] h = All-nil (λ x. All P (g x))
parts_all P g (x ∷ xs) h = All-cons (λ x. All P (g x)) x xs (All-left P (g x) (flat_map g xs) h) (parts_all P g xs (All-right P (g x) (flat_map g xs) h))

pub have_fresh : (declared : List ℕ → Bool) (ss : List SymbolText) → All (HasFresh declared (map word_of_fresh (fresh_in declared ss))) ss
have_fresh declared ss =
    parts_all (λ (f : FreshText). is_among (map word_of_fresh (fresh_in declared ss)) f.word.text ≡ true) (fresh_by declared) ss
    (All-weaker (λ (f : FreshText). is_among (map word_of_fresh (optional_in declared ss)) f.word.text ≡ true) (λ (f : FreshText). is_among (map word_of_fresh (fresh_in declared ss)) f.word.text ≡ true)
    (λ f k. ap (λ ws. is_among ws f.word.text) (fresh_names declared ss) ∙ among_distinct (map word_of_fresh (optional_in declared ss)) f.word.text ∙ k)
    (optional_in declared ss) (words_themselves (optional_in declared ss)))

-- what stands behind other words
pub among_behind : (vs ws : List WordText) (q : List ℕ) → is_among ws q ≡ true → is_among (vs ++ ws) q ≡ true
among_behind vs ws q h = list_any-append (is_named q) vs ws ∙ or_true (is_among vs q) (is_among ws q) h

pub among_before : (vs ws : List WordText) (q : List ℕ) → is_among vs q ≡ true → is_among (vs ++ ws) q ≡ true
among_before vs ws q h = list_any-append (is_named q) vs ws ∙ ap (λ b. b || is_among ws q) h

-- There are as many heads of fresh rules as fresh productions, and each is the name of one.
pub fresh_as_many : (declared : List ℕ → Bool) (fs : List FreshText) → length (flat_map fresh_heads fs) ≡ length (flat_map (fresh_productions declared) fs)
fresh_as_many declared [] = refl
fresh_as_many declared (f ∷ fs) = ap (λ n. suc (suc n)) (fresh_as_many declared fs)

pub fresh_heads_known : (fs : List FreshText) → All (λ h. is_among (map word_of_fresh fs) h ≡ true) (flat_map fresh_heads fs)
fresh_heads_known [] = All-nil (λ h. is_among [] h ≡ true)
fresh_heads_known (f ∷ fs) =
    let P : List ℕ → Type 0 = λ h. is_among (map word_of_fresh (f ∷ fs)) h ≡ true in
    let here = named_itself f.word.text (is_among (map word_of_fresh fs) f.word.text) in
    let behind : All P (flat_map fresh_heads fs) =
    All-weaker (λ h. is_among (map word_of_fresh fs) h ≡ true) P (λ h k. or_true (bytes_eq h f.word.text) (is_among (map word_of_fresh fs) h) k) (flat_map fresh_heads fs) (fresh_heads_known fs) in
    All-cons P f.word.text (f.word.text ∷ flat_map fresh_heads fs) here (All-cons P f.word.text (flat_map fresh_heads fs) here behind)

-- what is so of both productions of each fresh rule
pub in_fresh : (S : FreshText → Type 0) (Q : ProductionAst → Type 0) (declared : List ℕ → Bool)
    → ((f : FreshText) → S f → Q (fresh_production f.word.span (plain_symbol_ast declared f.symbol ∷ [])) × Q (fresh_production f.word.span []))
    → (fs : List FreshText) → All S fs → All Q (flat_map (fresh_productions declared) fs)
in_fresh S Q declared each [] h = All-nil Q
in_fresh S Q declared each (f ∷ fs) h =
    let both = each f (All-head S f fs h) in
    let one = fresh_production f.word.span (plain_symbol_ast declared f.symbol ∷ []) in
    let other = fresh_production f.word.span [] in
    let more = flat_map (fresh_productions declared) fs in
    All-cons Q one (other ∷ more) both.0 (All-cons Q other more both.1 (in_fresh S Q declared each fs (All-tail S f fs h)))
