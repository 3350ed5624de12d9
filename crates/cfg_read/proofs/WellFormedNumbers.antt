-- Numbers of productions: each is listed by one rule, once, and each list ascends.
use Rattle.std.proofs.Common.{◌≡◌, ℕ, zero, suc, ◌+◌, ◌<◌, ◌≤◌, ◌⊎◌, inl, inr, ⊎_elim, length, get_or, Bool, true, false, List, [], ◌∷◌, ◌++◌, map, flat_map, option_map, None, Some, slice_get, if◌then◌else◌, Contains, All, AllPairs, slice_index_or, refl, sym, ap, ◌∙◌, subst, arith, true≢false, not-suc-le-zero, length-append}
use Rattle.std.specs.Str.{bytes_eq}
use Rattle.std.proofs.lemmas.List.{length-map}
use Rattle.std.proofs.lemmas.List.Elements.{All-append, All-cons, All-map, All-nil, All-weaker}
use Rattle.std.proofs.lemmas.Option.{slice_get_within, slice_get-get_or, get_or_from_slice_get, slice_get-map}
use Rattle.std.proofs.lemmas.Slice.Eq.{bytes_eq-Decides}
use Rattle.cfg_read.specs.SyntaxTexts.{WordText, AlternativeText, RuleText, SyntaxText}
use Rattle.cfg_read.specs.Names.{is_among, headings, declared_tokens, texts}
use Rattle.cfg_read.specs.FreshRules.{fresh_of, fresh_words, rule_words}
use Rattle.cfg_read.specs.Asts.{RuleAst, productions_in, productions_of, fresh_productions, fresh_heads, heads_in, heads, numbers_from, rule_ast, production_ast}
use Rattle.cfg_read.proofs.NameLemmas.{among_distinct}
use Rattle.cfg_read.proofs.FreshLemmas.{among_before, among_behind, fresh_as_many, fresh_heads_known}
use Rattle.cfg_read.proofs.WellFormedNames.{or_true, named_itself, Contains-head, Contains-cons, among_contains, index_of_name, distinct_texts}

none_some : {X : Type 0} (x : X) → None ≡ Some x → ⊥
none_some x e = true≢false cc

-- what is in a list with one more
Contains-cases : {X : Type 0} (y : X) (ys : List X) (x : X) (k : ℕ) → k < suc (length ys) → slice_index_or (y ∷ ys) k x ≡ x → (y ≡ x) ⊎ Contains ys x
Contains-cases y ys x zero below at = inl at
Contains-cases y ys x (suc k) below at = inr (k, omega (arith, below), at)

-- the number of each index of a name is listed
pub number_listed : (name : List ℕ) (n : ℕ) (hs : List (List ℕ)) (k : ℕ) → slice_get hs k ≡ Some name → Contains (numbers_from name n hs) (n + k)
number_listed name n [] k e = absurd (none_some name e)
number_listed name n (h ∷ hs) zero e =
    let same : h ≡ name = cc in
    let number : n ≡ n + 0 = omega arith in
    subst (λ b. Contains (if b then n ∷ numbers_from name (suc n) hs else numbers_from name (suc n) hs) (n + 0)) (sym ((bytes_eq-Decides h name).1 same))
    (subst (Contains (n ∷ numbers_from name (suc n) hs)) number (Contains-head n (numbers_from name (suc n) hs)))
number_listed name n (h ∷ hs) (suc k) e =
    let number : suc n + k ≡ n + suc k = omega arith in
    by (bytes_eq h name) (subst (Contains (numbers_from name (suc n) hs)) number (number_listed name (suc n) hs k e))
  where
    by : (b : Bool) → Contains (numbers_from name (suc n) hs) (n + suc k) → Contains (if b then n ∷ numbers_from name (suc n) hs else numbers_from name (suc n) hs) (n + suc k)
    by true c = Contains-cons n (numbers_from name (suc n) hs) (n + suc k) c
    by false c = c

-- and nothing else is
abbrev IsNumber : List ℕ → ℕ → List (List ℕ) → ℕ → Type 0
IsNumber name n hs p = (k : ℕ) × (p ≡ n + k) × (slice_get hs k ≡ Some name)

later : (name : List ℕ) (n : ℕ) (h : List ℕ) (hs : List (List ℕ)) (p : ℕ) → IsNumber name (suc n) hs p → IsNumber name n (h ∷ hs) p
later name n h hs p r = let number : p ≡ suc n + r.0 = r.1 in (suc r.0, omega (arith, number), r.2)

pub listed_number : (name : List ℕ) (n : ℕ) (hs : List (List ℕ)) (p : ℕ) → Contains (numbers_from name n hs) p → IsNumber name n hs p
listed_number name n [] p c = absurd (not-suc-le-zero c.1)
listed_number name n (h ∷ hs) p c = by (bytes_eq h name) refl c (λ r. later name n h hs p (listed_number name (suc n) hs p r))
  where
    here : h ≡ name → n ≡ p → IsNumber name n (h ∷ hs) p
    here same number = (0, omega (arith, number), ap Some same)

    by : (b : Bool) → bytes_eq h name ≡ b → Contains (if b then n ∷ numbers_from name (suc n) hs else numbers_from name (suc n) hs) p
        → (Contains (numbers_from name (suc n) hs) p → IsNumber name n (h ∷ hs) p) → IsNumber name n (h ∷ hs) p
    by true e l rest = ⊎_elim (here ((bytes_eq-Decides h name).0 e)) rest (Contains-cases n (numbers_from name (suc n) hs) p l.0 l.1 l.2)
    by false e l rest = rest l

-- the lists ascend
from_n : (name : List ℕ) (n : ℕ) (hs : List (List ℕ)) → All (λ p. n ≤ p) (numbers_from name n hs)
from_n name n [] = All-nil (λ p. n ≤ p)
from_n name n (h ∷ hs) = by (bytes_eq h name) (All-weaker (λ p. suc n ≤ p) (λ p. n ≤ p) (λ p above. omega (arith, above)) (numbers_from name (suc n) hs) (from_n name (suc n) hs))
  where
    by : (b : Bool) → All (λ p. n ≤ p) (numbers_from name (suc n) hs) → All (λ p. n ≤ p) (if b then n ∷ numbers_from name (suc n) hs else numbers_from name (suc n) hs)
    by true rest = All-cons (λ p. n ≤ p) n (numbers_from name (suc n) hs) (omega arith) rest
    by false rest = rest

pairs_cons : (n : ℕ) (xs : List ℕ) → All (λ q. n < q) xs → AllPairs (λ p q. p < q) xs → (i j : ℕ) (d : ℕ) → i < j → j < suc (length xs) → slice_index_or (n ∷ xs) i d < slice_index_or (n ∷ xs) j d
pairs_cons n xs above rest zero zero d before within = absurd (not-suc-le-zero before)
pairs_cons n xs above rest zero (suc j) d before within = above j d (omega (arith, within))
pairs_cons n xs above rest (suc i) zero d before within = absurd (not-suc-le-zero before)
pairs_cons n xs above rest (suc i) (suc j) d before within = rest i j d (omega (arith, before)) (omega (arith, within))

pub ascends : (name : List ℕ) (n : ℕ) (hs : List (List ℕ)) → AllPairs (λ p q. p < q) (numbers_from name n hs)
ascends name n [] = λ i j d before within. absurd (not-suc-le-zero within)
ascends name n (h ∷ hs) = by (bytes_eq h name) (ascends name (suc n) hs)
  where
    by : (b : Bool) → AllPairs (λ p q. p < q) (numbers_from name (suc n) hs) → AllPairs (λ p q. p < q) (if b then n ∷ numbers_from name (suc n) hs else numbers_from name (suc n) hs)
    by true rest = pairs_cons n (numbers_from name (suc n) hs) (from_n name (suc n) hs) rest
    by false rest = rest

-- There are as many heads as productions, and each is the name of a heading.
pub as_many : (declared : List ℕ → Bool) (rs : List RuleText) → length (flat_map heads_in rs) ≡ length (flat_map (productions_in declared) rs)
as_many declared [] = refl
as_many declared (r ∷ rs) =
    let here : length (heads_in r) ≡ length (productions_in declared r) = length-map r.alternatives (λ (a : AlternativeText). r.name.text) ∙ sym (length-map r.alternatives (production_ast declared)) in
    let left : length (heads_in r ++ flat_map heads_in rs) ≡ length (heads_in r) + length (flat_map heads_in rs) = length-append (heads_in r) (flat_map heads_in rs) in
    let right : length (productions_in declared r ++ flat_map (productions_in declared) rs) ≡ length (productions_in declared r) + length (flat_map (productions_in declared) rs) = length-append (productions_in declared r) (flat_map (productions_in declared) rs) in
    let rest = as_many declared rs in
    left ∙ ap (λ m. m + length (flat_map heads_in rs)) here ∙ ap (λ m. length (productions_in declared r) + m) rest ∙ sym right

pub all_as_many : (x : SyntaxText) → length (heads x) ≡ length (productions_of x)
all_as_many x =
    let declared = is_among (declared_tokens x) in
    length-append (flat_map heads_in x.rules) (flat_map fresh_heads (fresh_of x))
    ∙ ap (λ n. n + length (flat_map fresh_heads (fresh_of x))) (as_many declared x.rules)
    ∙ ap (λ n. length (flat_map (productions_in declared) x.rules) + n) (fresh_as_many declared (fresh_of x))
    ∙ sym (length-append (flat_map (productions_in declared) x.rules) (flat_map (fresh_productions declared) (fresh_of x)))

abbrev IsHeading : List RuleText → List ℕ → Type 0
IsHeading rs h = is_among (map (λ (r : RuleText). r.name) rs) h ≡ true

heads_known : (rs : List RuleText) → All (IsHeading rs) (flat_map heads_in rs)
heads_known [] = All-nil (IsHeading [])
heads_known (r ∷ rs) =
    All-append (IsHeading (r ∷ rs)) (heads_in r) (flat_map heads_in rs)
    (All-map (IsHeading (r ∷ rs)) (λ (a : AlternativeText). r.name.text) r.alternatives (λ k d below. named_itself r.name.text (is_among (map (λ (s : RuleText). s.name) rs) r.name.text)))
    (All-weaker (IsHeading rs) (IsHeading (r ∷ rs)) (λ h k. or_true (bytes_eq h r.name.text) (is_among (map (λ (s : RuleText). s.name) rs) h) k) (flat_map heads_in rs) (heads_known rs))

-- or of a fresh rule
abbrev IsRule : SyntaxText → List ℕ → Type 0
IsRule x h = is_among (headings x ++ fresh_words x) h ≡ true

all_heads_known : (x : SyntaxText) → All (IsRule x) (heads x)
all_heads_known x =
    All-append (IsRule x) (flat_map heads_in x.rules) (flat_map fresh_heads (fresh_of x))
    (All-weaker (IsHeading x.rules) (IsRule x) (λ h k. among_before (headings x) (fresh_words x) h k) (flat_map heads_in x.rules) (heads_known x.rules))
    (All-weaker (λ h. is_among (fresh_words x) h ≡ true) (IsRule x) (λ h k. among_behind (headings x) (fresh_words x) h k) (flat_map fresh_heads (fresh_of x)) (fresh_heads_known (fresh_of x)))

-- what stands at an index of a mapped list
map_at : {X Y : Type 0} (f : X → Y) (xs : List X) (k : ℕ) (y : Y) → slice_get (map f xs) k ≡ Some y → (x : X) × (slice_get xs k ≡ Some x) × (f x ≡ y)
map_at f [] k y e = absurd (none_some y e)
map_at f (x ∷ xs) zero y e = (x, refl, cc)
map_at f (x ∷ xs) (suc k) y e = map_at f xs k y e

at_map : {X Y : Type 0} (f : X → Y) (xs : List X) (k : ℕ) (x : X) → slice_get xs k ≡ Some x → slice_get (map f xs) k ≡ Some (f x)
at_map f xs k x e = slice_get-map f xs k ∙ ap (option_map f) e

pub all_at : {X : Type 0} (P : X → Type 0) (xs : List X) (k : ℕ) (x : X) → All P xs → slice_get xs k ≡ Some x → P x
all_at P xs k x h e = subst P (get_or_from_slice_get xs k x x e) (h k x (slice_get_within xs k x e))

-- the rule at the index A lists the production p
abbrev pub Lists : SyntaxText → ℕ → ℕ → Type 0
Lists x A p = (r : RuleAst) × (slice_get (map (rule_ast x) (rule_words x)) A ≡ Some r) × Contains r.productions p

-- which then stands behind a heading of its name
pub head_listed : (x : SyntaxText) (A p : ℕ) → Lists x A p → (q : List ℕ) × (slice_get (texts (rule_words x)) A ≡ Some q) × (slice_get (heads x) p ≡ Some q)
head_listed x A p l = by (map_at (rule_ast x) (rule_words x) A l.0 l.1)
  where
    at_zero : (w : WordText) → IsNumber w.text 0 (heads x) p → slice_get (heads x) p ≡ Some w.text
    at_zero w n =
        let number : p ≡ 0 + n.0 = n.1 in
        let same : n.0 ≡ p = omega (arith, number) in
        subst (λ m. slice_get (heads x) m ≡ Some w.text) same n.2

    by : (w : WordText) × (slice_get (rule_words x) A ≡ Some w) × (rule_ast x w ≡ l.0) → (q : List ℕ) × (slice_get (texts (rule_words x)) A ≡ Some q) × (slice_get (heads x) p ≡ Some q)
    by f =
        let listed : Contains (numbers_from f.0.text 0 (heads x)) p = subst (λ (r : RuleAst). Contains r.productions p) (sym f.2) l.2 in
        (f.0.text, at_map (λ (w : WordText). w.text) (rule_words x) A f.0 f.1, at_zero f.0 (listed_number f.0.text 0 (heads x) p listed))

pub one_lists : (x : SyntaxText) (A B p : ℕ) → Lists x A p → Lists x B p → A ≡ B
one_lists x A B p a b = by (head_listed x A p a) (head_listed x B p b)
  where
    by : (q : List ℕ) × (slice_get (texts (rule_words x)) A ≡ Some q) × (slice_get (heads x) p ≡ Some q) → (r : List ℕ) × (slice_get (texts (rule_words x)) B ≡ Some r) × (slice_get (heads x) p ≡ Some r) → A ≡ B
    by f g = distinct_texts (headings x ++ fresh_words x) A B f.0 f.1 (g.1 ∙ sym g.2 ∙ f.2)

pub listed_below : (x : SyntaxText) (A p : ℕ) → Lists x A p → p < length (heads x)
listed_below x A p l = let h = head_listed x A p l in slice_get_within (heads x) p h.0 h.2

pub some_lists : (x : SyntaxText) (p : ℕ) → p < length (heads x) → (A : ℕ) × Lists x A p
some_lists x p below =
    let at : slice_get (heads x) p ≡ Some (get_or (heads x) p []) = slice_get-get_or (heads x) p [] below in
    let known : is_among (headings x ++ fresh_words x) (get_or (heads x) p []) ≡ true = all_at (IsRule x) (heads x) p (get_or (heads x) p []) (all_heads_known x) at in
    let there = index_of_name (texts (rule_words x)) (get_or (heads x) p []) (among_contains (rule_words x) (get_or (heads x) p []) (among_distinct (headings x ++ fresh_words x) (get_or (heads x) p []) ∙ known)) in
    by (get_or (heads x) p []) at there.0 (map_at (λ (w : WordText). w.text) (rule_words x) there.0 (get_or (heads x) p []) there.1)
  where
    by : (h : List ℕ) → slice_get (heads x) p ≡ Some h → (A : ℕ) → (w : WordText) × (slice_get (rule_words x) A ≡ Some w) × (w.text ≡ h) → (B : ℕ) × Lists x B p
    by h at A f =
        let listed : Contains (numbers_from f.0.text 0 (heads x)) (0 + p) = number_listed f.0.text 0 (heads x) p (at ∙ ap Some (sym f.2)) in
        let same : 0 + p ≡ p = omega arith in
        (A, (rule_ast x f.0, at_map (rule_ast x) (rule_words x) A f.0 f.1, subst (Contains (numbers_from f.0.text 0 (heads x))) same listed))

pub lists_ascend : (x : SyntaxText) → All (λ (r : RuleAst). AllPairs (λ p q. p < q) r.productions) (map (rule_ast x) (rule_words x))
lists_ascend x = All-map (λ (r : RuleAst). AllPairs (λ p q. p < q) r.productions) (rule_ast x) (rule_words x) (λ k d below. ascends (slice_index_or (rule_words x) k d).text 0 (heads x))
