-- Iterators over a map with marks, entry by entry.
use Rattle.std.proofs.Common.{◌≡◌, Bool, true, false, cond, ◌||◌, List, [], ◌∷◌, ◌++◌, map, filter, Option, Some, None, is_some, unwrap_or, ap, refl, sym, ◌∙◌, append_assoc, append-nil}
use Rattle.std.specs.declared.cmp.Ordering.{Ordering}
use Rattle.std.specs.declared.cmp.Ordering.TheVariants.{Less, Equal, Greater}
use Rattle.std.specs.Cmp.{IsTotalOrder}
use Rattle.std.specs.Ordering.{is_eq}
use Rattle.std.specs.List.{list_any, AllByRecursion}
use Rattle.std.specs.List.Sorted.{IsStrictlySortedBy}
use Rattle.std.proofs.lemmas.Map.Keys.{sorted_head, sorted_tail}
use Rattle.std.specs.Map.{lookup}
use Rattle.std.specs.BTreeMap.{is_at}
use Rattle.cfg_sections.specs.declared.markmap.Slot.{Slot}
use Rattle.cfg_sections.specs.MarkMaps.{Marked, blank, has_value, keys_among, pairs_among, slot_in, with_value}
use Rattle.cfg_sections.specs.Merges.{conflicts_at, conflicts_of}

pub keys-yes : {K V : Type 0} (k : K) (s : Slot V) (es : List (K × Slot V)) → is_some s.value ≡ true → keys_among ((k, s) ∷ es) ≡ k ∷ keys_among es
keys-yes {K} {V} k s es e = ap (λ (b : Bool). map (λ (x : K × Slot V). x.0) (cond b ((k, s) ∷ filter has_value es) (filter has_value es))) e

pub keys-no : {K V : Type 0} (k : K) (s : Slot V) (es : List (K × Slot V)) → is_some s.value ≡ false → keys_among ((k, s) ∷ es) ≡ keys_among es
keys-no {K} {V} k s es e = ap (λ (b : Bool). map (λ (x : K × Slot V). x.0) (cond b ((k, s) ∷ filter has_value es) (filter has_value es))) e

pub pairs-some : {K V : Type 0} (k : K) (s : Slot V) (v : V) (es : List (K × Slot V)) → s.value ≡ Some v → pairs_among ((k, s) ∷ es) ≡ (k, v) ∷ pairs_among es
pairs-some {K} {V} k s v es e = ap (λ (o : Option V). with_value k o (pairs_among es)) e

pub pairs-none : {K V : Type 0} (k : K) (s : Slot V) (es : List (K × Slot V)) → s.value ≡ None → pairs_among ((k, s) ∷ es) ≡ pairs_among es
pairs-none {K} {V} k s es e = ap (λ (o : Option V). with_value k o (pairs_among es)) e

kept : {K X : Type 0} (t : Bool) (e : K × X) (old : List K) (rest : List (K × X)) → cond t (old ++ e.0 ∷ []) old ++ map (λ x. x.0) rest ≡ old ++ map (λ x. x.0) (cond t (e ∷ rest) rest)
kept {K} {X} true e old rest = append_assoc old (e.0 ∷ []) (map (λ (x : K × X). x.0) rest)
kept false e old rest = refl

-- one entry more of an iterator from s, where `new` is what is found behind `old`
pub iterator_step : {K X : Type 0} (has : K × X → Bool) (e : K × X) (es s : List (K × X)) (new old total : List K) (b : Bool) → new ≡ cond b (old ++ e.0 ∷ []) old → b ≡ has e → s ≡ e ∷ es → old ++ map (λ x. x.0) (filter has s) ≡ total → new ++ map (λ x. x.0) (filter has es) ≡ total
iterator_step {K} {X} has e es s new old total b found wanted step so_far =
    let here : new ≡ cond (has e) (old ++ e.0 ∷ []) old = found ∙ ap (λ (r : Bool). cond r (old ++ e.0 ∷ []) old) wanted in
    ap (λ (xs : List K). xs ++ map (λ (x : K × X). x.0) (filter has es)) here
    ∙ (kept (has e) e old (filter has es) ∙ (ap (λ (xs : List (K × X)). old ++ map (λ (x : K × X). x.0) (filter has xs)) (sym step) ∙ so_far))

pub iterator_end : {K X : Type 0} (has : K × X → Bool) (s : List (K × X)) (old total : List K) → s ≡ [] → old ++ map (λ x. x.0) (filter has s) ≡ total → old ≡ total
iterator_end {K} {X} has s old total none so_far =
    sym (append-nil old) ∙ (ap (λ (xs : List (K × X)). old ++ map (λ (x : K × X). x.0) (filter has xs)) (sym none) ∙ so_far)

filter-no : {K : Type 0} (test : K → Bool) (k : K) (rest : List K) → test k ≡ false → filter test (k ∷ rest) ≡ filter test rest
filter-no test k rest e = ap (λ (b : Bool). cond b (k ∷ filter test rest) (filter test rest)) e

filter-yes : {K : Type 0} (test : K → Bool) (k : K) (rest : List K) → test k ≡ true → filter test (k ∷ rest) ≡ k ∷ filter test rest
filter-yes test k rest e = ap (λ (b : Bool). cond b (k ∷ filter test rest) (filter test rest)) e

-- the first key that is left refuses no merge
pub conflicts_step : {K V : Type 0} (cmp : K → K → Ordering) (m n : Marked K V) (k : K) (ks rest : List K) → conflicts_of cmp m n ≡ filter (conflicts_at cmp m n) ks → ks ≡ k ∷ rest → false ≡ conflicts_at cmp m n k → conflicts_of cmp m n ≡ filter (conflicts_at cmp m n) rest
conflicts_step {K} cmp m n k ks rest so_far step fails =
    so_far ∙ (ap (λ (xs : List K). filter (conflicts_at cmp m n) xs) step ∙ filter-no (conflicts_at cmp m n) k rest (sym fails))

-- or it does
pub conflicts_found : {K V : Type 0} (cmp : K → K → Ordering) (m n : Marked K V) (k : K) (ks rest : List K) → conflicts_of cmp m n ≡ filter (conflicts_at cmp m n) ks → ks ≡ k ∷ rest → true ≡ conflicts_at cmp m n k → conflicts_of cmp m n ≡ k ∷ filter (conflicts_at cmp m n) rest
conflicts_found {K} cmp m n k ks rest so_far step passes =
    so_far ∙ (ap (λ (xs : List K). filter (conflicts_at cmp m n) xs) step ∙ filter-yes (conflicts_at cmp m n) k rest (sym passes))

first_case : {K : Type 0} (test : K → Bool) (x k : K) (kept rest : List K) → (kept ≡ k ∷ rest → test k ≡ true) → (b : Bool) → test x ≡ b → cond b (x ∷ kept) kept ≡ k ∷ rest → test k ≡ true
first_case test x k kept rest rec true passes same = let here : x ≡ k = cc in ap test (sym here) ∙ passes
first_case test x k kept rest rec false fails same = rec same

-- the first of what a filter keeps passes
pub first_passes : {K : Type 0} (test : K → Bool) (xs rest : List K) (k : K) → filter test xs ≡ k ∷ rest → test k ≡ true
first_passes test [] rest k e = cc
first_passes test (x ∷ xs) rest k e = first_case test x k (filter test xs) rest (first_passes test xs rest k) (test x) refl e

all_case : {K X : Type 0} (P : K → Type 0) (e : K × X) (rest : List (K × X)) (b : Bool) → P e.0 → AllByRecursion P (map (λ x. x.0) rest) → AllByRecursion P (map (λ x. x.0) (cond b (e ∷ rest) rest))
all_case P e rest true p ps = (p, ps)
all_case P e rest false p ps = ps

-- what holds of all keys holds of those that are kept
all_kept : {K X : Type 0} (P : K → Type 0) (has : K × X → Bool) (es : List (K × X)) → AllByRecursion P (map (λ x. x.0) es) → AllByRecursion P (map (λ x. x.0) (filter has es))
all_kept P has [] ps = ps
all_kept P has (e ∷ es) ps = all_case P e (filter has es) (has e) ps.0 (all_kept P has es ps.1)

sorted_case : {K X : Type 0} (c : K → K → Ordering) (e : K × X) (rest : List (K × X)) (b : Bool) → AllByRecursion (λ y. c e.0 y ≡ Less) (map (λ x. x.0) rest) → IsStrictlySortedBy c (map (λ x. x.0) rest) → IsStrictlySortedBy c (map (λ x. x.0) (cond b (e ∷ rest) rest))
unfolding IsStrictlySortedBy
sorted_case c e rest true below s = (below, s)
sorted_case c e rest false below s = s

-- the keys that are kept ascend
pub sorted_kept : {K X : Type 0} (c : K → K → Ordering) (has : K × X → Bool) (es : List (K × X)) → IsStrictlySortedBy c (map (λ x. x.0) es) → IsStrictlySortedBy c (map (λ x. x.0) (filter has es))
sorted_kept c has [] s = s
sorted_kept c has (e ∷ es) s =
    sorted_case c e (filter has es) (has e) (all_kept (λ y. c e.0 y ≡ Less) has es (sorted_head c e.0 (map (λ x. x.0) es) s)) (sorted_kept c has es (sorted_tail c e.0 (map (λ x. x.0) es) s))

none_equal : {K : Type 0} (c : K → K → Ordering) → IsTotalOrder c → (q k : K) → c q k ≡ Equal → (ks : List K) → AllByRecursion (λ y. c k y ≡ Less) ks → list_any (is_at (c q)) ks ≡ false
none_equal c o q k e [] below = refl
none_equal c o q k e (y ∷ ys) below =
    ap (λ (b : Bool). b || list_any (is_at (c q)) ys) (ap is_eq (o.congr q k y e ∙ below.0)) ∙ none_equal c o q k e ys below.1

keys_case : {K X : Type 0} (e : K × X) (rest : List (K × X)) (h : Bool) → map (λ x. x.0) (cond h (e ∷ rest) rest) ≡ cond h (e.0 ∷ map (λ x. x.0) rest) (map (λ x. x.0) rest)
keys_case e rest true = refl
keys_case e rest false = refl

member_case : {K : Type 0} (test : K → Bool) (k : K) (ks : List K) (h b : Bool) → test k ≡ b → (b ≡ true → list_any test ks ≡ false) → list_any test (cond h (k ∷ ks) ks) ≡ cond b h (list_any test ks)
member_case test k ks true true e none = ap (λ (t : Bool). t || list_any test ks) e
member_case test k ks true false e none = ap (λ (t : Bool). t || list_any test ks) e
member_case test k ks false true e none = none refl
member_case test k ks false false e none = refl

slot_case : {V : Type 0} (test : Slot V → Bool) (b : Bool) (s : Slot V) (o : Option (Slot V)) → test (unwrap_or (cond b (Some s) o) blank) ≡ cond b (test s) (test (unwrap_or o blank))
slot_case test true s o = refl
slot_case test false s o = refl

tied : (o : Ordering) → is_eq o ≡ true → o ≡ Equal
tied Less e = cc
tied Equal e = refl
tied Greater e = cc

-- the keys whose slots pass a test are those at which a look-up finds such a slot
pub each_kept : {K V : Type 0} (c : K → K → Ordering) → IsTotalOrder c → (test : Slot V → Bool) → test blank ≡ false → (es : List (K × Slot V)) (q : K) → IsStrictlySortedBy c (map (λ x. x.0) es) → list_any (is_at (c q)) (map (λ x. x.0) (filter (λ x. test x.1) es)) ≡ test (slot_in c es q)
each_kept c o test none [] q s = sym none
each_kept {K} {V} c o test none (e ∷ es) q s =
    let b = is_at (c q) e.0 in
    let kept_keys = map (λ (x : K × Slot V). x.0) (filter (λ (x : K × Slot V). test x.1) es) in
    ap (λ (ks : List K). list_any (is_at (c q)) ks) (keys_case e (filter (λ (x : K × Slot V). test x.1) es) (test e.1))
    ∙ (member_case (is_at (c q)) e.0 kept_keys (test e.1) b refl
    (λ same. none_equal c o q e.0 (tied (c q e.0) same) kept_keys (all_kept (λ y. c e.0 y ≡ Less) (λ (x : K × Slot V). test x.1) es (sorted_head c e.0 (map (λ x. x.0) es) s)))
    ∙ (ap (λ (r : Bool). cond b (test e.1) r) (each_kept c o test none es q (sorted_tail c e.0 (map (λ x. x.0) es) s))
    ∙ sym (slot_case test b e.1 (lookup (is_at (c q)) es))))

-- the keys with a value ascend
pub sorted_among : {K V : Type 0} (c : K → K → Ordering) (es : List (K × Slot V)) → IsStrictlySortedBy c (map (λ x. x.0) es) → IsStrictlySortedBy c (keys_among es)
sorted_among c es s = sorted_kept c has_value es s

-- they are those at which a look-up finds one
pub each_key : {K V : Type 0} (c : K → K → Ordering) → IsTotalOrder c → (es : List (K × Slot V)) (q : K) → IsStrictlySortedBy c (map (λ x. x.0) es) → list_any (is_at (c q)) (keys_among es) ≡ is_some (slot_in c es q).value
each_key c o es q s = each_kept c o (λ x. is_some x.value) refl es q s
