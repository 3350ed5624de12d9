-- Rows of rules, and that none is lost of them.
use Rattle.std.proofs.Common.{◌≡◌, ℕ, zero, suc, ◌<◌, ◌==◌, Bool, true, false, ◌||◌, if◌then◌else◌, List, [], ◌∷◌, ◌++◌, map, set, replicate, length, get_or, All, IfSome, Option, None, Some, Fits, w8, slice_get, refl, sym, ap, ◌∙◌, subst, inl, inr, ⊎_elim, ◌⊎◌, true≢false, arith}
use Rattle.std.proofs.lemmas.Bool.{cases_lt, cases_eq, eq-eqb}
use Rattle.std.proofs.lemmas.List.{get_or-set_same, get_or-set_other, get_or-replicate, get_or-map, map-set, set-get_or, length-map, map-append}
use Rattle.std.proofs.lemmas.List.Elements.{All-from_get_or}
use Rattle.std.proofs.lemmas.List.Folds.{list_any-append}
use Rattle.std.proofs.lemmas.Option.{none-some, same_Some}
use Rattle.std.specs.List.{list_any}
use Rattle.std.specs.Prelude.{slice_index, unwrap_or, Vec}
use Rattle.std.specs.declared.alloc.Global.{Global}
use Rattle.regex.specs.Patterns.{Re}
use Rattle.regex.specs.Strings.{regex_pattern}
use Rattle.maximal_munch.specs.Beginnings.{BeginsIn, KeepsTried, LosesNone, is_tried, match_len, rows_of}
use Rattle.maximal_munch.specs.RuleValues.{RuleValue, rule_set_of, rule_value, is_active_at}
use Rattle.maximal_munch.specs.Munching.{rule_len, len_at}
use Rattle.maximal_munch.specs.declared.rules.Rule.{Rule}
use Rattle.maximal_munch.specs.declared.rules.RuleSet.{RuleSet}

or_left : (a b : Bool) → a ≡ true → (a || b) ≡ true
or_left true b e = refl
or_left false b e = absurd (true≢false (sym e))

or_right : (a b : Bool) → b ≡ true → (a || b) ≡ true
or_right true b e = refl
or_right false b e = e

-- an empty row behind the others changes nothing
row_behind : (rows : List (List ℕ)) (byte : ℕ) → get_or (rows ++ [] ∷ []) byte [] ≡ get_or rows byte []
row_behind [] zero = refl
row_behind [] (suc n) = refl
row_behind (r ∷ rows) zero = refl
row_behind (r ∷ rows) (suc n) = row_behind rows n

pub empty_row_keeps : (rows : List (List ℕ)) → KeepsTried rows (rows ++ [] ∷ [])
empty_row_keeps rows byte k h = subst (λ r. list_any (λ j. j == k) r ≡ true) (sym (row_behind rows byte)) h

module _ (rows : List (List ℕ)) (at rule : ℕ) (within : at < length rows) where
  -- a rule more in one row
  abbrev pub put : List (List ℕ)
  put = set rows at (get_or rows at [] ++ rule ∷ [])

  pub put_adds : is_tried put at rule ≡ true
  put_adds =
      subst (λ r. list_any (λ j. j == rule) r ≡ true) (sym (get_or-set_same rows at (get_or rows at [] ++ rule ∷ []) [] within))
      (list_any-append (λ j. j == rule) (get_or rows at []) (rule ∷ []) ∙ or_right _ _ (or_left _ _ (eq-eqb rule rule refl)))

  pub put_keeps : KeepsTried rows put
  put_keeps byte k h = elim (cases_eq byte at) [
    | inl same ↦ subst (λ r. list_any (λ j. j == k) r ≡ true) (sym (ap (λ b. get_or put b []) same ∙ get_or-set_same rows at (get_or rows at [] ++ rule ∷ []) [] within))
        (list_any-append (λ j. j == k) (get_or rows at []) (rule ∷ []) ∙ or_left _ _ (subst (λ b. list_any (λ j. j == k) (get_or rows b []) ≡ true) same h))
    | inr other ↦ subst (λ r. list_any (λ j. j == k) r ≡ true) (sym (get_or-set_other rows at byte (get_or rows at [] ++ rule ∷ []) [] other)) h
  ]

-- ---- rows as lists of vectors

module _ (rows : List (Vec ℕ Global)) (at : ℕ) (old new : Vec ℕ Global) (within : at < length rows) (is : old ≡ get_or rows at old) where
  abbrev items : List (List ℕ)
  items = map (λ r. r.items) rows

  row_at : get_or items at [] ≡ old.items
  row_at = get_or-map (λ (r : Vec ℕ Global). r.items) rows at old [] within ∙ ap (λ (r : Vec ℕ Global). r.items) (sym is)

  pub put_items : (rule : ℕ) → new.items ≡ old.items ++ rule ∷ [] → map (λ r. r.items) (set rows at new) ≡ put items at rule (omega (arith, length-map rows (λ (r : Vec ℕ Global). r.items)))
  put_items rule more = map-set (λ (r : Vec ℕ Global). r.items) rows at new ∙ ap (set items at) (more ∙ ap (λ xs. xs ++ rule ∷ []) (sym row_at))

  pub keep_items : new.items ≡ old.items → map (λ r. r.items) (set rows at new) ≡ items
  keep_items same = map-set (λ (r : Vec ℕ Global). r.items) rows at new ∙ ap (set items at) (same ∙ sym row_at) ∙ set-get_or items at []

pub kept_same : (a b : List (List ℕ)) → b ≡ a → KeepsTried a b
kept_same a b e byte k h = subst (λ r. is_tried r byte k ≡ true) (sym e) h

-- ---- rules

pub none_lost_later : (old new : List (List ℕ)) (ps : List Re) → KeepsTried old new → LosesNone old ps → LosesNone new ps
none_lost_later old new ps keeps none k p rest at bytes some = keeps (slice_index rest 0) k (none k p rest at bytes some)

last_or_before : (ps : List Re) (p q : Re) (k : ℕ) → slice_get (ps ++ p ∷ []) k ≡ Some q → (slice_get ps k ≡ Some q) ⊎ ((k ≡ length ps) × (p ≡ q))
last_or_before [] p q zero e = inr (refl, same_Some p q e)
last_or_before [] p q (suc k) e = absurd (none-some q e)
last_or_before (x ∷ ps) p q zero e = inl e
last_or_before (x ∷ ps) p q (suc k) e = ⊎_elim (λ before. inl before) (λ last. inr (omega (arith, last.0), last.1)) (last_or_before ps p q k e)

pub one_more_rule : (old new : List (List ℕ)) (ps : List Re) (p : Re) (first : List Bool) → KeepsTried old new → LosesNone old ps → BeginsIn p first →
    ((byte : ℕ) → get_or first byte false ≡ true → is_tried new byte (length ps) ≡ true) → LosesNone new (ps ++ p ∷ [])
one_more_rule old new ps p first keeps none begins adds k q rest at bytes some = elim (last_or_before ps p q k at) [
  | inl before ↦ keeps (slice_index rest 0) k (none k q rest before bytes some)
  | inr last ↦ subst (λ n. is_tried new (slice_index rest 0) n ≡ true) (sym last.0)
      (adds (slice_index rest 0) (begins rest bytes (subst (λ r. 0 < match_len r rest) (sym last.1) some)))
]

pub are_bytes : (text : List ℕ) → ((i : ℕ) → Fits w8 (get_or text i 0)) → All (λ b. b < 256) text
are_bytes text h = All-from_get_or (λ b. b < 256) text 0 (λ i _. omega (arith, h i))

first_small : (rest : List ℕ) → All (λ b. b < 256) rest → slice_index rest 0 < 256
first_small [] bytes = omega arith
first_small (b ∷ rest) bytes = bytes 0 0 (omega arith)

pub any_byte : (p : Re) → BeginsIn p (replicate 256 true)
any_byte p rest bytes some = get_or-replicate 256 (slice_index rest 0) true false (first_small rest bytes)

pub begins_or_any : (p : Re) (o : Option (List Bool)) → IfSome o (BeginsIn p) → BeginsIn p (unwrap_or o (replicate 256 true))
begins_or_any p None h = any_byte p
begins_or_any p (Some first) h = h

-- a rule that is put behind the others, or is not for want of memory
pub rule_or_none : (b : Bool) (old new : List (List ℕ)) (rs more : List Rule) (r : Rule) (first : List Bool) → more ≡ (if b then rs ++ r ∷ [] else rs) → KeepsTried old new →
    LosesNone old (map (λ x. regex_pattern x.regex) rs) → BeginsIn (regex_pattern r.regex) first →
    ((byte : ℕ) → get_or first byte false ≡ true → is_tried new byte (length rs) ≡ true) → LosesNone new (map (λ x. regex_pattern x.regex) more)
rule_or_none true old new rs more r first is keeps none begins adds =
    let ps = map (λ (x : Rule). regex_pattern x.regex) rs in
    let len : length rs ≡ length ps = sym (length-map rs (λ (x : Rule). regex_pattern x.regex)) in
    subst (LosesNone new) (sym (ap (map (λ (x : Rule). regex_pattern x.regex)) is ∙ map-append (λ (x : Rule). regex_pattern x.regex) rs (r ∷ [])))
    (one_more_rule old new ps (regex_pattern r.regex) first keeps none begins (λ byte in'. subst (λ n. is_tried new byte n ≡ true) len (adds byte in')))
rule_or_none false old new rs more r first is keeps none begins adds =
    subst (λ xs. LosesNone new (map (λ (x : Rule). regex_pattern x.regex) xs)) (sym is) (none_lost_later old new (map (λ (x : Rule). regex_pattern x.regex) rs) keeps none)

-- ---- rules that aren't tried

pattern_at : (rs : List Rule) (j : ℕ) (r : RuleValue) → slice_get (map rule_value rs) j ≡ Some r → slice_get (map (λ x. regex_pattern x.regex) rs) j ≡ Some r.pattern
pattern_at [] j r e = absurd (none-some r e)
pattern_at (x ∷ rs) zero r e = ap (λ (v : RuleValue). Some v.pattern) (same_Some (rule_value x) r e)
pattern_at (x ∷ rs) (suc j) r e = pattern_at rs j r e

if_zero : (b : Bool) (n : ℕ) → n ≡ 0 → (if b then n else 0) ≡ 0
if_zero true n e = e
if_zero false n e = refl

-- a rule that isn't tried before the first byte matches nothing there
pub untried : (s : RuleSet) (condition : ℕ) (rest : List ℕ) → All (λ b. b < 256) rest → (j : ℕ) → is_tried (rows_of s.tried) (slice_index rest 0) j ≡ false →
    len_at (rule_set_of s) condition rest j ≡ 0
untried s condition rest bytes j none = if_zero (is_active_at (rule_set_of s) condition j) _ (by (slice_get (rule_set_of s).rules j) refl)
  where
    by : (o : Option RuleValue) → slice_get (rule_set_of s).rules j ≡ o → rule_len rest o ≡ 0
    by None e = refl
    by (Some r) e = elim (cases_lt 0 (match_len r.pattern rest)) [
      | inl some ↦ absurd (true≢false (sym (s.loses_none j r.pattern rest (pattern_at s.rules.items j r e) bytes some) ∙ none))
      | inr less ↦ omega arith
    ]
