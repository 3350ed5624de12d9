-- What FOLLOW sets tell of productions, and where they begin.
use Rattle.std.proofs.Common.{◌≡◌, ℕ, zero, suc, ◌+◌, ◌-◌, ◌<◌, ◌≤◌, inl, inr, ◌↔◌, Bool, true, false, ◌||◌, List, [], ◌∷◌, length, get_or, set, drop, replicate, Some, slice_get, refl, sym, ap, ◌∙◌, subst, arith}
use Rattle.std.specs.Prelude.{map, IsTrue}
use Rattle.cfg_theory.specs.Grammar.{Sym, rule, token, Grammar, IsNext, IsEnd, WellFormed, InRange, head_of, body_of, end_token}
use Rattle.cfg_theory.specs.Derivation.{IsFollow}
use Rattle.cfg_theory.specs.First.{FirstTablesAreExact}
use Rattle.cfg_theory.specs.Follow.{IsFollowTable, FollowTablesAreExact}
use Rattle.cfg_theory.proofs.Derivation.{nullable_of, first_of_list}
use Rattle.cfg_theory.proofs.Follow.{follow_after, follow_passed, follow_end}
use Rattle.vob.specs.Sets.{is_set, is_set_in, AreRows}
use Rattle.cfg_sets.specs.Firsts.{FirstSets, HasEpsilon, HasFirst, AreFirsts, IsWithin, FirstBefore}
use Rattle.cfg_sets.specs.Follows.{FollowSets, HasFollow, AreFollowsOf, AreFollows, AreFollowsSound, Behind, HoldsAll, HandsOn, HasSet, added}
use Rattle.std.proofs.lemmas.List.{get_or-set_same, get_or-replicate, length-replicate, length-set}
use Rattle.vob.proofs.Bits.{join, length-bitwise, joined, row_set, rows_set, alone, none_in, empty_sized}
use Rattle.cfg_sets.proofs.FirstSteps.{first_table, within_of}
use Rattle.cfg_sets.proofs.Backwards.{rest_next, symbol_here}

-- one symbol more in front
pub behind_cons : (f : FirstSets) (X : Sym) (a : List Sym) (P Q : ℕ → Type 0) → ((t : ℕ) → Q t ↔ Behind f P a t) → (t : ℕ) → FirstBefore f X Q t ↔ Behind f P (X ∷ a) t
behind_cons f (rule A) a P Q h t = (to, from)
  where
    to : FirstBefore f (rule A) Q t → Behind f P (rule A ∷ a) t
    to (inl x) = inl (inl x)
    to (inr (n, q)) = elim ((h t).0 q) [ inl y ↦ inl (inr (n, y)) | inr z ↦ inr ((n, z.0), z.1) ]

    from : Behind f P (rule A ∷ a) t → FirstBefore f (rule A) Q t
    from (inl (inl x)) = inl x
    from (inl (inr (n, y))) = inr (n, (h t).1 (inl y))
    from (inr ((n, m), z)) = inr (n, (h t).1 (inr (m, z)))
behind_cons f (token u) a P Q h t = (λ e. inl e, λ x. elim x [ inl e ↦ e | inr z ↦ absurd z.0 ])

pub behind_none : (f : FirstSets) (P : ℕ → Type 0) (t : ℕ) → P t ↔ Behind f P [] t
behind_none f P t = (λ x. inr (tt, x), λ x. elim x [ inl e ↦ absurd e | inr z ↦ z.1 ])

-- what is behind a rule in a body follows it
pub behind_follows : (G : Grammar) (f : FirstSets) (s : FollowSets) → AreFirsts G f → AreFollowsSound G s → (p d R t : ℕ) → p < length G.productions → IsNext G p d (rule R) → Behind f (HasFollow s (head_of G p)) (drop (suc d) (body_of G p)) t → IsFollow G R t
behind_follows G f s k sound p d R t lt n (inl x) =
    follow_after G p (head_of G p) d R t (record { in_range = lt; head = refl }) n (first_of_list G (HasEpsilon f) (HasFirst f) (λ A. (k.nullable A).0) (λ A u. (k.first A u).0) (drop (suc d) (body_of G p)) t x)
behind_follows G f s k sound p d R t lt n (inr (m, w)) =
    follow_passed G p (head_of G p) d R t (record { in_range = lt; head = refl }) n (nullable_of G (HasEpsilon f) (HasFirst f) (λ A. (k.nullable A).0) (λ A u. (k.first A u).0) (drop (suc d) (body_of G p)) m) (sound (head_of G p) t w)

-- the rows after an addition
pub added_sizes : (n m : ℕ) (rows : List (List Bool)) (X : Sym) (bits : List Bool) → AreRows n m rows → ((A : ℕ) → X ≡ rule A → A < n) → length bits ≡ m → AreRows n m (added rows X bits)
added_sizes n m rows (token t) bits r within e = r
added_sizes n m rows (rule A) bits r within e =
    let lt = within A refl in
    rows_set n m rows A (join (get_or rows A []) bits) r (length-bitwise (λ x y. x || y) (get_or rows A []) bits (r.width A lt ∙ sym e) ∙ r.width A lt)

pub added_sound : (G : Grammar) (old new : FollowSets) (X : Sym) (bits : List Bool) → AreFollowsSound G old → AreRows G.rules G.tokens old.rows → ((A : ℕ) → X ≡ rule A → A < G.rules) → length bits ≡ G.tokens → new.rows ≡ added old.rows X bits →
    ((R t : ℕ) → X ≡ rule R → IsTrue (is_set bits t) → IsFollow G R t) → AreFollowsSound G new
added_sound G old new (token u) bits sound rows within len e true_bits = λ R t h. sound R t (subst (λ l. IsTrue (is_set_in l R t)) e h)
added_sound G old new (rule A) bits sound rows within len e true_bits = λ R t h. by R t (subst (λ l. IsTrue (is_set_in l R t)) e h)
  where
    lt : A < length old.rows
    lt = subst (λ k. A < k) (sym rows.count) (within A refl)

    here : (t : ℕ) → IsTrue (is_set (join (get_or old.rows A []) bits) t) → IsFollow G A t
    here t h = elim ((joined (get_or old.rows A []) bits t (rows.width A (within A refl) ∙ sym len)).0 h) [ inl x ↦ sound A t x | inr y ↦ true_bits A t refl y ]

    by : (R t : ℕ) → IsTrue (is_set_in (set old.rows A (join (get_or old.rows A []) bits)) R t) → IsFollow G R t
    by R t h = elim (row_set old.rows A R t (join (get_or old.rows A []) bits) lt) [ inl q ↦ subst (λ B. IsFollow G B t) (sym q.0) (here t (sym q.1 ∙ h)) | inr q ↦ sound R t (sym q.1 ∙ h) ]

pub some_same : (X Y : Sym) → Some X ≡ Some Y → X ≡ Y
some_same X Y e = cc

pub none_next : (xs : List Sym) (i : ℕ) (X : Sym) → length xs ≤ i → slice_get xs i ≡ Some X → ⊥
none_next [] i X le e = cc
none_next (x ∷ xs) zero X le e = omega arith
none_next (x ∷ xs) (suc i) X le e = none_next xs i X (omega (arith, le)) e

pub get_some : {X : Type 0} (f : X → Sym) (xs : List X) (i : ℕ) (x d : X) → i < length xs → x ≡ get_or xs i d → slice_get (map f xs) i ≡ Some (f x)
get_some f [] i x d lt e = absurd (omega arith)
get_some f (y ∷ xs) zero x d lt e = ap (λ z. Some (f z)) (sym e)
get_some f (y ∷ xs) (suc i) x d lt e = get_some f xs i x d (omega (arith, lt)) e

-- closed everywhere and true: exact
pub table_of : (G : Grammar) (f : FirstSets) (s : FollowSets) → AreFollowsSound G s → HoldsAll G f s → ((p : ℕ) → p < length G.productions → HandsOn G f s p) →
    IsFollowTable G (λ A. IsTrue (is_set f.epsilons A)) (λ A t. IsTrue (is_set_in f.rows A t)) (λ R t. IsTrue (is_set_in s.rows R t))
table_of G f s sound holds hands = record {
  follow = sound;
  after = λ p A d R t o n h. holds.firsts p o.in_range d R t n h;
  passed = λ p A d R t o n h w. hands p o.in_range d R t n h (subst (λ B. HasFollow s B t) (sym o.head) w);
  at_end = holds.end;
}

pub exact_follows : (G : Grammar) (f : FirstSets) (s : FollowSets) → FirstTablesAreExact → FollowTablesAreExact → AreFirsts G f → AreFollowsOf G s → AreFollowsSound G s → HoldsAll G f s → ((p : ℕ) → p < length G.productions → HandsOn G f s p) → AreFollows G s
exact_follows G f s first_law law firsts sizes sound holds hands =
    record { sizes = sizes; follow = λ R t. law.exact G (is_set f.epsilons) (is_set_in f.rows) (is_set_in s.rows) (first_table G f firsts) (table_of G f s sound holds hands) R t }

-- the end token alone
pub end_sound : (G : Grammar) (n m : ℕ) (s : FollowSets) → 0 < n → end_token G < m → s.rows ≡ set (replicate n (replicate m false)) 0 (set (get_or (replicate n (replicate m false)) 0 []) (end_token G) true) → AreFollowsSound G s
end_sound G n m s some within e R t h = elim (row_set (replicate n (replicate m false)) 0 R t (set (get_or (replicate n (replicate m false)) 0 []) (end_token G) true) (let len = length-replicate n (replicate m false) in omega (arith, some, len))) [
  | inl q ↦ subst (λ B. IsFollow G B t) (sym q.0) (follow_end G t (sym ((alone (end_token G) m t within).0 (subst (λ l. IsTrue (is_set (set l (end_token G) true) t)) (get_or-replicate n 0 (replicate m false) [] some) (sym q.1 ∙ subst (λ l. IsTrue (is_set_in l R t)) e h)))))
  | inr q ↦ absurd (none_in n m R t (sym q.1 ∙ subst (λ l. IsTrue (is_set_in l R t)) e h))
]

pub end_there : (G : Grammar) (n m : ℕ) (s : FollowSets) → 0 < n → end_token G < m → s.rows ≡ set (replicate n (replicate m false)) 0 (set (get_or (replicate n (replicate m false)) 0 []) (end_token G) true) → (t : ℕ) → IsEnd G t → HasFollow s 0 t
end_there G n m s some within e t is =
    let row = get_or (replicate n (replicate m false)) 0 [] in
    let same = get_or-set_same (replicate n (replicate m false)) 0 (set row (end_token G) true) [] (let len = length-replicate n (replicate m false) in omega (arith, some, len)) in
    let one : IsTrue (is_set (set row (end_token G) true) t) = subst (λ l. IsTrue (is_set (set l (end_token G) true) t)) (sym (get_or-replicate n 0 (replicate m false) [] some)) ((alone (end_token G) m t within).1 (sym is)) in
    subst (λ l. IsTrue (is_set_in l 0 t)) (sym e) (subst (λ l. IsTrue (is_set l t)) (sym same) one)

-- what stays in the set of the start rule
pub added_keeps : (n m : ℕ) (rows : List (List Bool)) (X : Sym) (bits : List Bool) (R t : ℕ) → AreRows n m rows → ((A : ℕ) → X ≡ rule A → A < n) → length bits ≡ m → IsTrue (is_set_in rows R t) → IsTrue (is_set_in (added rows X bits) R t)
added_keeps n m rows (token u) bits R t r within len h = h
added_keeps n m rows (rule A) bits R t r within len h =
    let lt = within A refl in
    let row = get_or rows A [] in
    elim (row_set rows A R t (join row bits) (subst (λ k. A < k) (sym r.count) lt)) [
      | inl q ↦ q.1 ∙ (joined row bits t (r.width A lt ∙ sym len)).1 (inl (subst (λ B. IsTrue (is_set_in rows B t)) q.0 h))
      | inr q ↦ q.1 ∙ h
    ]

pub starts_behind : (f : FirstSets) (P : ℕ → Type 0) (a : List Sym) (k : ℕ) (bits : List Bool) → length a ≤ k → ((t : ℕ) → IsTrue (is_set bits t) ↔ P t) → (t : ℕ) → IsTrue (is_set bits t) ↔ Behind f P (drop k a) t
starts_behind f P a k bits le h t =
    let n = behind_none f P t in
    subst (λ l. IsTrue (is_set bits t) ↔ Behind f P l t) (sym (past a k le)) ((λ x. n.0 ((h t).0 x)), (λ x. (h t).1 (n.1 x)))
  where
    past : (l : List Sym) (k : ℕ) → length l ≤ k → drop k l ≡ []
    past [] zero le = refl
    past [] (suc k) le = refl
    past (x ∷ l) zero le = absurd (omega (arith, le))
    past (x ∷ l) (suc k) le = past l k (omega (arith, le))

-- one symbol of a body, from its end
module _ (G : Grammar) (good : WellFormed G) (f : FirstSets) (k : AreFirsts G f) (p : ℕ) (in_range : p < length G.productions) {X : Type 0} (view : X → Sym) (xs : List X) (body : map view xs ≡ body_of G p) (index at : ℕ) (x : X) (e : at + 1 + index ≡ length xs) (is : x ≡ get_or xs at x) where
  pub here : slice_get (body_of G p) at ≡ Some (view x)
  here = subst (λ l. slice_get l at ≡ Some (view x)) body (symbol_here view xs index at x e is)

  pub next : drop (length xs - (index + 1)) (body_of G p) ≡ view x ∷ drop (length xs - index) (body_of G p)
  next = subst (λ l. drop (length xs - (index + 1)) l ≡ view x ∷ drop (length xs - index) l) body (rest_next view xs index at x e is)

  ranged : InRange G (view x)
  ranged = good.symbols p at (view x) (record { at = here })

  pub has_set : (s : FollowSets) → AreFollowsOf G s → HasSet s (view x)
  has_set s h = by (view x) ranged
    where
      by : (Y : Sym) → InRange G Y → HasSet s Y
      by (rule A) lt = subst (λ n. A < n) (sym h.rows.count) lt
      by (token t) lt = tt

  pub is_within : IsWithin f (view x)
  is_within = within_of G f (view x) k.sizes ranged

  pub in_rules : (A : ℕ) → view x ≡ rule A → A < G.rules
  in_rules A q = subst (InRange G) q ranged

  module _ (start : FollowSets) (bits : List Bool) (tells : (t : ℕ) → IsTrue (is_set bits t) ↔ Behind f (HasFollow start (head_of G p)) (drop (length xs - index) (body_of G p)) t) where
    pub told : (t : ℕ) → IsTrue (is_set bits t) ↔ Behind f (HasFollow start (head_of G p)) (drop (suc at) (body_of G p)) t
    told t = let n : length xs - index ≡ suc at = omega (arith, e) in subst (λ d. IsTrue (is_set bits t) ↔ Behind f (HasFollow start (head_of G p)) (drop d (body_of G p)) t) n (tells t)

    pub true_bits : AreFollowsSound G start → (R t : ℕ) → view x ≡ rule R → IsTrue (is_set bits t) → IsFollow G R t
    true_bits sound R t q h = behind_follows G f start k sound p at R t in_range (record { at = here ∙ ap Some q }) ((told t).0 h)

    pub new_bits : (new : List Bool) → ((t : ℕ) → IsTrue (is_set new t) ↔ FirstBefore f (view x) (λ u. IsTrue (is_set bits u)) t) → (t : ℕ) → IsTrue (is_set new t) ↔ Behind f (HasFollow start (head_of G p)) (drop (length xs - (index + 1)) (body_of G p)) t
    new_bits new made t =
        let h = behind_cons f (view x) (drop (length xs - index) (body_of G p)) (HasFollow start (head_of G p)) (λ u. IsTrue (is_set bits u)) tells t in
        subst (λ l. IsTrue (is_set new t) ↔ Behind f (HasFollow start (head_of G p)) l t) (sym next) ((λ y. h.0 ((made t).0 y)), (λ y. (made t).1 (h.1 y)))

-- where takings begin
pub record Begins (G : Grammar) (s : FollowSets) : Type 0 where
  pub sizes : AreFollowsOf G s
  pub sound : AreFollowsSound G s
  pub end : (t : ℕ) → IsEnd G t → HasFollow s 0 t

pub begins : (G : Grammar) (n m r e : ℕ) (old new : FollowSets) → n ≡ G.rules → m ≡ G.tokens → r ≡ 0 → e ≡ end_token G → 0 < G.rules → end_token G < G.tokens → old.tokens ≡ m → old.rows ≡ replicate n (replicate m false) → new.tokens ≡ old.tokens → new.rows ≡ set old.rows r (set (get_or old.rows r []) e true) → Begins G new
begins G n m r e old new rules tokens at last some within width empty kept put = record {
  sizes = record { tokens = kept ∙ width ∙ tokens; rows = sized };
  sound = end_sound G n m new some' within' rows;
  end = end_there G n m new some' within' rows;
}
  where
    some' : 0 < n
    some' = subst (λ k. 0 < k) (sym rules) some

    within' : end_token G < m
    within' = subst (λ k. end_token G < k) (sym tokens) within

    rows : new.rows ≡ set (replicate n (replicate m false)) 0 (set (get_or (replicate n (replicate m false)) 0 []) (end_token G) true)
    rows = put ∙ ap (λ l. set l r (set (get_or l r []) e true)) empty ∙ ap (λ i. set (replicate n (replicate m false)) i (set (get_or (replicate n (replicate m false)) i []) e true)) at ∙ ap (λ i. set (replicate n (replicate m false)) 0 (set (get_or (replicate n (replicate m false)) 0 []) i true)) last

    row_len : length (set (get_or (replicate n (replicate m false)) 0 []) (end_token G) true) ≡ m
    row_len = length-set (get_or (replicate n (replicate m false)) 0 []) (end_token G) true ∙ ap length (get_or-replicate n 0 (replicate m false) [] some') ∙ length-replicate m false

    sized : AreRows G.rules G.tokens new.rows
    sized = subst (λ i. AreRows i G.tokens new.rows) rules (subst (λ i. AreRows n i new.rows) tokens (subst (AreRows n m) (sym rows) (rows_set n m (replicate n (replicate m false)) 0 (set (get_or (replicate n (replicate m false)) 0 []) (end_token G) true) (empty_sized n m (replicate n (replicate m false)) refl) row_len)))
