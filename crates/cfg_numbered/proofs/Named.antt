-- Names and their indices.
use Rattle.std.proofs.Common.{◌≡◌, ℕ, zero, suc, ◌+◌, ◌<◌, ◌≤◌, inl, inr, Bool, true, false, not, ◌||◌, List, [], ◌∷◌, ◌++◌, length, get_or, take, Option, Some, None, if◌then◌else◌, refl, sym, ap, ◌∙◌, arith}
use Rattle.std.specs.Prelude.{map, option_map, slice_get, MatchOption}
use Rattle.std.specs.List.{position, prefix_len, position_or_len, list_any, filter_map}
use Rattle.std.specs.Str.{bytes_eq}
use Rattle.std.specs.String.{string_bytes}
use Rattle.std.specs.declared.alloc.Global.{Global}
use Rattle.std.specs.declared.string.String.{String}
use Rattle.std.proofs.lemmas.List.{length-map, map-append}
use Rattle.std.proofs.lemmas.List.Quantifiers.{position-Some}
use Rattle.std.proofs.lemmas.Option.{slice_get-get_or, slice_get-map, slice_get_within, get_or_from_slice_get, same_Some, none-some}
use Rattle.std.proofs.lemmas.Slice.Eq.{bytes_eq-Decides}
use Rattle.std.proofs.lemmas.Bool.{cases_lt, cases_Bool, lt-ltb}
use Rattle.cfg_numbered.specs.Value.{RuleFacts, TokenFacts, end_facts}
use Rattle.cfg_numbered.specs.Info.{rule_facts, token_facts, with_end}
use Rattle.cfg_numbered.specs.declared.yacc.info.RuleInfo.{RuleInfo}
use Rattle.cfg_numbered.specs.declared.yacc.info.TokenInfo.{TokenInfo}

some_none : {X : Type 0} (x : X) → Some x ≡ None → ⊥
some_none x e = cc

none_some : {X : Type 0} (x : X) → None ≡ Some x → ⊥
none_some x e = cc

both : (b : Bool) → b ≡ false → b ≡ true → ⊥
both b e h = cc

module _ {X : Type 0} (p : X → Bool) where
  passed : (xs : List X) (k : ℕ) (d : X) → length xs ≤ prefix_len (λ x. not (p x)) xs → k < length xs → p (get_or xs k d) ≡ false
  passed [] k d le low = absurd (omega (arith, low))
  passed (x ∷ xs) k d le low = elim (cases_Bool (p x)) [ inl e ↦ absurd (stops e) | inr e ↦ on k low e (λ j a b. passed xs j d a b) ]
    where
      stops : p x ≡ true → ⊥
      stops e = let z : prefix_len (λ y. not (p y)) (x ∷ xs) ≡ 0 = rw e refl in omega (arith, le, z)

      on : (k : ℕ) → k < suc (length xs) → p x ≡ false → ((j : ℕ) → length xs ≤ prefix_len (λ y. not (p y)) xs → j < length xs → p (get_or xs j d) ≡ false) → p (get_or (x ∷ xs) k d) ≡ false
      on zero low e more = e
      on (suc k) low e more = let s : prefix_len (λ y. not (p y)) (x ∷ xs) ≡ 1 + prefix_len (λ y. not (p y)) xs = rw e refl in more k (omega (arith, le, s)) (omega (arith, low))

  pub none_at : (xs : List X) (k : ℕ) (d : X) → position p xs ≡ None → k < length xs → p (get_or xs k d) ≡ false
  none_at xs k d e low = elim (cases_lt (position_or_len p xs) (length xs)) [ inl less ↦ absurd (there less) | inr le ↦ passed xs k d le low ]
    where
      there : position_or_len p xs < length xs → ⊥
      there less = let t = lt-ltb (position_or_len p xs) (length xs) less in let q : position p xs ≡ Some (position_or_len p xs) = rw t refl in some_none (position_or_len p xs) (sym q ∙ e)

  pub found_at : (xs : List X) (k : ℕ) → position p xs ≡ Some k → (x : X) × (slice_get xs k ≡ Some x) × (p x ≡ true)
  found_at [] k e = absurd (none_some k e)
  found_at (x ∷ xs) k e = let h = position-Some p (x ∷ xs) k x e in (get_or (x ∷ xs) k x, slice_get-get_or (x ∷ xs) k x h.0, h.1)

text_at : (names : List (String Global)) (k : ℕ) (name : List ℕ) → slice_get (map string_bytes names) k ≡ Some name → (s : String Global) × (k < length names) × (slice_get names k ≡ Some s) × (string_bytes s ≡ name)
text_at [] k name e = absurd (none_some name e)
text_at (s ∷ names) zero name e = (s, omega arith, refl, same_Some (string_bytes s) name e)
text_at (s ∷ names) (suc k) name e = let h = text_at names k name e in (h.0, (let low = h.1 in omega (arith, low)), h.2, h.3)

abbrev pub has_name : List ℕ → String Global → Bool
has_name name s = bytes_eq name (string_bytes s)

-- the index of a name
pub placed : (names : List (String Global)) (name : List ℕ) (o : Option ℕ) → o ≡ position (has_name name) names → MatchOption o ((k : ℕ) → slice_get (map string_bytes names) k ≡ Some name → ⊥) (λ k. slice_get (map string_bytes names) k ≡ Some name)
placed names name None e = λ k h.
    let s = text_at names k name h in
    let free = none_at (has_name name) names k s.0 (sym e) s.1 in
    let same = get_or_from_slice_get names k s.0 s.0 s.2 in
    both (has_name name s.0) (sym (ap (has_name name) same) ∙ free) ((bytes_eq-Decides name (string_bytes s.0)).1 (sym s.3))
placed names name (Some k) e =
    let h = found_at (has_name name) names k (sym e) in
    slice_get-map string_bytes names k ∙ ap (option_map string_bytes) h.1 ∙ ap Some (sym ((bytes_eq-Decides name (string_bytes h.0)).0 h.2))

pub or_left : (a b : Bool) → (a || b) ≡ false → a ≡ false
or_left true b h = h
or_left false b h = refl

pub or_right : (a b : Bool) → (a || b) ≡ false → b ≡ false
or_right true b h = absurd (both (true || b) h refl)
or_right false b h = h

-- a name that isn't that of an earlier one
pub fresh_in : {X : Type 0} (f : X → List ℕ) (xs : List X) (i : ℕ) (q : List ℕ) → ((j : ℕ) → j < i → option_map f (slice_get xs j) ≡ Some q → ⊥) → list_any (bytes_eq q) (map f (take i xs)) ≡ false
fresh_in f [] zero q apart = refl
fresh_in f (x ∷ xs) zero q apart = refl
fresh_in f [] (suc i) q apart = refl
fresh_in f (x ∷ xs) (suc i) q apart = by (fresh_in f xs i q (λ j lt e. apart (suc j) (omega (arith, lt)) e))
  where
    by : list_any (bytes_eq q) (map f (take i xs)) ≡ false → list_any (bytes_eq q) (map f (take (suc i) (x ∷ xs))) ≡ false
    by rest = elim (cases_Bool (bytes_eq q (f x))) [ inl t ↦ absurd (apart zero (omega arith) (ap Some (sym ((bytes_eq-Decides q (f x)).0 t)))) | inr n ↦ rw n rest ]

-- the names of entries
abbrev pub names_in : {X : Type 0} → List (String Global × X) → List (List ℕ)
names_in {X} es = map string_bytes (map (λ (e : String Global × X). e.0) es)

-- are those of the rules
pub rule_at : (es : List (String Global × RuleInfo)) (A : ℕ) (name : List ℕ) → slice_get (names_in es) A ≡ Some name → option_map (λ (r : RuleFacts). r.name) (slice_get (map rule_facts es) A) ≡ Some name
rule_at [] A name h = absurd (none_some name h)
rule_at (e ∷ es) zero name h = h
rule_at (e ∷ es) (suc A) name h = rule_at es A name h

pub rule_in : (es : List (String Global × RuleInfo)) (A : ℕ) (name : List ℕ) → option_map (λ (r : RuleFacts). r.name) (slice_get (map rule_facts es) A) ≡ Some name → slice_get (names_in es) A ≡ Some name
rule_in [] A name h = absurd (none_some name h)
rule_in (e ∷ es) zero name h = h
rule_in (e ∷ es) (suc A) name h = rule_in es A name h

-- and of the tokens
unnamed : (name : List ℕ) → ◌≡◌ {A = Option (Option (List ℕ))} (Some None) (Some (Some name)) → ⊥
unnamed name h = cc

past : (name : List ℕ) → ◌≡◌ {A = Option (Option (List ℕ))} None (Some (Some name)) → ⊥
past name h = cc

pub token_at : (es : List (String Global × TokenInfo)) (t : ℕ) (name : List ℕ) → slice_get (names_in es) t ≡ Some name → option_map (λ (k : TokenFacts). k.name) (slice_get (with_end es) t) ≡ Some (Some name)
token_at [] t name h = absurd (none_some name h)
token_at (e ∷ es) zero name h = ap Some h
token_at (e ∷ es) (suc t) name h = token_at es t name h

pub token_in : (es : List (String Global × TokenInfo)) (t : ℕ) (name : List ℕ) → option_map (λ (k : TokenFacts). k.name) (slice_get (with_end es) t) ≡ Some (Some name) → slice_get (names_in es) t ≡ Some name
token_in [] zero name h = absurd (unnamed name h)
token_in [] (suc t) name h = absurd (past name h)
token_in (e ∷ es) zero name h = same_Some (Some (string_bytes e.0)) (Some name) h
token_in (e ∷ es) (suc t) name h = token_in es t name h

-- what stands at an index of the entries, and behind them
pub token_found : (es : List (String Global × TokenInfo)) (t : ℕ) (e : String Global × TokenInfo) → slice_get es t ≡ Some e → slice_get (with_end es) t ≡ Some (token_facts e)
token_found [] t e h = absurd (none-some e h)
token_found (x ∷ es) zero e h = ap (λ y. Some (token_facts y)) (same_Some x e h)
token_found (x ∷ es) (suc t) e h = token_found es t e h

pub token_last : (es : List (String Global × TokenInfo)) (t : ℕ) → slice_get es t ≡ None → t < suc (length es) → slice_get (with_end es) t ≡ Some end_facts
token_last [] zero h lt = refl
token_last [] (suc t) h lt = absurd (omega (arith, lt))
token_last (x ∷ es) zero h lt = absurd (some_none x h)
token_last (x ∷ es) (suc t) h lt = token_last es t h (omega (arith, lt))

pub count_with_end : (es : List (String Global × TokenInfo)) → length (with_end es) ≡ suc (length es)
count_with_end [] = refl
count_with_end (e ∷ es) = ap suc (count_with_end es)

pub names_listed : (es : List (String Global × TokenInfo)) → filter_map (λ (k : TokenFacts). k.name) (with_end es) ≡ names_in es
names_listed [] = refl
names_listed (e ∷ es) = ap (λ l. string_bytes e.0 ∷ l) (names_listed es)

pub count_names : {X : Type 0} (es : List (String Global × X)) → length (names_in es) ≡ length es
count_names [] = refl
count_names (e ∷ es) = ap suc (count_names es)

pub name_at : {X : Type 0} (es : List (String Global × X)) (k : ℕ) (e : String Global × X) → slice_get es k ≡ Some e → slice_get (names_in es) k ≡ Some (string_bytes e.0)
name_at [] k e h = absurd (none-some e h)
name_at (x ∷ es) zero e h = ap (λ y. Some (string_bytes y.0)) (same_Some x e h)
name_at (x ∷ es) (suc k) e h = name_at es k e h
