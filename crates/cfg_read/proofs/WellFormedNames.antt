-- Names of words: which are among others, that none stands twice, and lists that take each name once.
use Rattle.std.proofs.Common.{◌≡◌, ℕ, zero, suc, ◌<◌, length, Bool, true, false, ◌||◌, List, [], ◌∷◌, ◌++◌, map, fold, Some, slice_get, if◌then◌else◌, Contains, All, refl, sym, ap, ◌∙◌, subst, arith, true≢false}
use Rattle.std.specs.Prelude.{nat_lt}
use Rattle.std.specs.Str.{bytes_eq}
use Rattle.std.proofs.lemmas.List.{map-append}
use Rattle.std.proofs.lemmas.List.Elements.{All-cons, All-head, All-map, All-nil, All-push, All-tail, All-weaker}
use Rattle.std.proofs.lemmas.Option.{slice_get_read}
use Rattle.std.proofs.lemmas.Slice.Eq.{bytes_eq-Decides}
use Rattle.cfg_read.specs.SyntaxTexts.{WordText}
use Rattle.cfg_read.specs.Names.{is_among, texts, with_distinct, distinct, put_by_offset, by_offset}
use Rattle.cfg_read.specs.WellFormedAst.{AreDistinct}
use Rattle.cfg_read.proofs.NameLemmas.{among_distinct}
use Rattle.cfg_read.proofs.Grouping.{Apart, more, Apart-distinct}

pub not_nil : {X : Type 0} (x : X) (xs : List X) → x ∷ xs ≡ [] → ⊥
not_nil x xs e = true≢false cc

pub or_true : (a b : Bool) → b ≡ true → (a || b) ≡ true
or_true true b h = refl
or_true false b h = h

pub named_itself : (q : List ℕ) (b : Bool) → (bytes_eq q q || b) ≡ true
named_itself q b = ap (λ a. a || b) ((bytes_eq-Decides q q).1 refl)

-- A name that is among words is one of their texts.
pub Contains-head : {X : Type 0} (x : X) (xs : List X) → Contains (x ∷ xs) x
Contains-head x xs = (0, omega arith, refl)

pub Contains-cons : {X : Type 0} (y : X) (ys : List X) (x : X) → Contains ys x → Contains (y ∷ ys) x
Contains-cons y ys x h = let below : h.0 < length ys = h.1 in (suc h.0, omega (arith, below), h.2)

pub among_contains : (ws : List WordText) (q : List ℕ) → is_among ws q ≡ true → Contains (texts ws) q
among_contains [] q h = absurd (true≢false (sym h))
among_contains (w ∷ ws) q h = by (bytes_eq q w.text) refl h (among_contains ws q)
  where
    by : (b : Bool) → bytes_eq q w.text ≡ b → (b || is_among ws q) ≡ true → (is_among ws q ≡ true → Contains (texts ws) q) → Contains (w.text ∷ texts ws) q
    by true e r rest = subst (λ m. Contains (m ∷ texts ws) q) ((bytes_eq-Decides q w.text).0 e) (Contains-head q (texts ws))
    by false e r rest = Contains-cons w.text (texts ws) q (rest r)

-- and stands at some index
pub index_of_name : {X : Type 0} (xs : List X) (x : X) → Contains xs x → (k : ℕ) × (slice_get xs k ≡ Some x)
index_of_name xs x h = (h.0, slice_get_read xs (length xs) h.0 x refl h.1 (sym h.2))

-- What stands at an index is among them.
pub at_among : (ws : List WordText) (k : ℕ) (q : List ℕ) → slice_get (texts ws) k ≡ Some q → is_among ws q ≡ true
at_among [] k q e = cc
at_among (w ∷ ws) zero q e =
    let same : q ≡ w.text = cc in
    ap (λ b. b || is_among ws q) ((bytes_eq-Decides q w.text).1 same)
at_among (w ∷ ws) (suc k) q e = or_true (bytes_eq q w.text) (is_among ws q) (at_among ws k q e)

-- words that stand apart are at one index each
twice : (w : WordText) (ws : List WordText) (k : ℕ) (q : List ℕ) → is_among ws w.text ≡ false → Some w.text ≡ Some q → slice_get (texts ws) k ≡ Some q → ⊥
twice w ws k q apart here there =
    let same : q ≡ w.text = cc in
    true≢false (sym (at_among ws k q there) ∙ ap (is_among ws) same ∙ apart)

apart_places : (ws : List WordText) → Apart ws → (i j : ℕ) (q : List ℕ) → slice_get (texts ws) i ≡ Some q → slice_get (texts ws) j ≡ Some q → i ≡ j
apart_places [] ok i j q a b = cc
apart_places (w ∷ ws) (more apart rest) zero zero q a b = refl
apart_places (w ∷ ws) (more apart rest) zero (suc j) q a b = absurd (twice w ws j q apart a b)
apart_places (w ∷ ws) (more apart rest) (suc i) zero q a b = absurd (twice w ws i q apart b a)
apart_places (w ∷ ws) (more apart rest) (suc i) (suc j) q a b = ap suc (apart_places ws rest i j q a b)

pub distinct_texts : (ws : List WordText) → AreDistinct (texts (distinct ws))
distinct_texts ws = apart_places (distinct ws) (Apart-distinct ws)

-- what is so of each word is so of each that is kept
pub All-distinct : (P : WordText → Type 0) (ws acc : List WordText) → All P acc → All P ws → All P (fold with_distinct acc ws)
All-distinct P [] acc a b = a
All-distinct P (w ∷ ws) acc a b = All-distinct P ws (with_distinct acc w) (by (is_among acc w.text)) (All-tail P w ws b)
  where
    by : (c : Bool) → All P (if c then acc else acc ++ w ∷ [])
    by true = a
    by false = All-push P acc w a (All-head P w ws b)

-- Each of these words is among those.
abbrev pub Known : List WordText → List WordText → Type 0
Known ts ws = All (λ (w : WordText). is_among ts w.text ≡ true) ws

pub known_texts : (ts ws : List WordText) → Known ts ws → All (Contains (texts (distinct ts))) (texts ws)
known_texts ts ws h =
    All-map (Contains (texts (distinct ts))) (λ (w : WordText). w.text) ws
    (All-weaker (λ (w : WordText). is_among ts w.text ≡ true) (λ (w : WordText). Contains (texts (distinct ts)) w.text)
    (λ w k. among_contains (distinct ts) w.text (among_distinct ts w.text ∙ k)) ws h)

pub known_distinct : (ts ws : List WordText) → Known ts ws → All (Contains (texts (distinct ts))) (texts (distinct ws))
known_distinct ts ws h = known_texts ts (distinct ws) (All-distinct (λ (w : WordText). is_among ts w.text ≡ true) ws [] (All-nil (λ (w : WordText). is_among ts w.text ≡ true)) h)

pub known_themselves : (ws : List WordText) → Known ws ws
known_themselves [] = All-nil (λ (w : WordText). is_among [] w.text ≡ true)
known_themselves (v ∷ ws) =
    All-cons (λ (w : WordText). is_among (v ∷ ws) w.text ≡ true) v ws (named_itself v.text (is_among ws v.text))
    (All-weaker (λ (w : WordText). is_among ws w.text ≡ true) (λ (w : WordText). is_among (v ∷ ws) w.text ≡ true) (λ w k. or_true (bytes_eq w.text v.text) (is_among ws w.text) k) ws (known_themselves ws))

-- the second of two lists that are put together by index
placed_among : (v : WordText) (rest : List WordText → List WordText) (q : List ℕ) → ((ws : List WordText) → is_among ws q ≡ true → is_among (rest ws) q ≡ true)
    → (ws : List WordText) → is_among ws q ≡ true → is_among (put_by_offset v rest ws) q ≡ true
placed_among v rest q kept [] h = absurd (true≢false (sym h))
placed_among v rest q kept (w ∷ ws) h = by (nat_lt w.span.start v.span.start) (placed_among v rest q kept ws)
  where
    later : (b : Bool) → (b || is_among ws q) ≡ true → (is_among ws q ≡ true → is_among (put_by_offset v rest ws) q ≡ true) → (b || is_among (put_by_offset v rest ws) q) ≡ true
    later true k more_words = refl
    later false k more_words = more_words k

    by : (b : Bool) → (is_among ws q ≡ true → is_among (put_by_offset v rest ws) q ≡ true) → is_among (if b then w ∷ put_by_offset v rest ws else v ∷ rest (w ∷ ws)) q ≡ true
    by true more_words = later (bytes_eq q w.text) h more_words
    by false more_words = or_true (bytes_eq q v.text) (is_among (rest (w ∷ ws)) q) (kept (w ∷ ws) h)

pub by_offset_among : (q : List ℕ) (vs ws : List WordText) → is_among ws q ≡ true → is_among (by_offset vs ws) q ≡ true
by_offset_among q [] ws h = h
by_offset_among q (v ∷ vs) ws h = placed_among v (by_offset vs) q (by_offset_among q vs) ws h

-- lists of things with a word each, which take each name once
module _ {X : Type 0} (word : X → WordText) (step : List X → X → List X) (is : (acc : List X) (x : X) → step acc x ≡ (if is_among (map word acc) (word x).text then acc else acc ++ x ∷ [])) where
  word_step : (acc : List X) (x : X) → map word (step acc x) ≡ with_distinct (map word acc) (word x)
  word_step acc x = ap (map word) (is acc x) ∙ by (is_among (map word acc) (word x).text)
    where
      by : (b : Bool) → map word (if b then acc else acc ++ x ∷ []) ≡ (if b then map word acc else map word acc ++ word x ∷ [])
      by true = refl
      by false = map-append word acc (x ∷ [])

  pub words_fold : (xs acc : List X) → map word (fold step acc xs) ≡ fold with_distinct (map word acc) (map word xs)
  words_fold [] acc = refl
  words_fold (x ∷ xs) acc = words_fold xs (step acc x) ∙ ap (λ l. fold with_distinct l (map word xs)) (word_step acc x)
