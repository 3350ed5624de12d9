-- How two lists that share their parts are compared from their fronts.
use Rattle.std.proofs.Common.{◌≡◌, ℕ, zero, suc, ◌+◌, ◌<◌, inl, inr, ◌↔◌, Bool, true, false, List, [], ◌∷◌, ◌++◌, length, get_or, Option, Some, None, refl, sym, ap, ◌∙◌, subst, append_assoc, append-nil, arith}
use Rattle.std.specs.Prelude.{IsTrue, not, MatchOption}
use Rattle.std.specs.List.{All}
use Rattle.std.specs.Option.{option_map}
use Rattle.std.proofs.lemmas.List.{length-append, get_or_append_left}
use Rattle.std.proofs.lemmas.List.Sums.{sum_by_push}
use Rattle.std.proofs.lemmas.List.Elements.{All-push, All-same}
use Rattle.cfg_sentences.specs.SharedLists.{HasTokens, AreRests, ForksBefore, IsTold, IsAhead, AreNested, stacked, turns, turns_of}
use Rattle.cfg_sentences.proofs.SharedSteps.{stacked_push}
use Rattle.cfg_sentences.proofs.ForkedLists.{forks_behind, forks_both}

-- ---- what was told

pub told_behind : (u v a z : List ℕ) (b : Bool) → AreRests u v a z → IsTold a z b → IsTold u v b
told_behind u v a z true r h = subst (λ l. ForksBefore l v) (sym r.left) (subst (λ l. ForksBefore (r.front ++ a) l) (sym r.right) (forks_behind r.front a z h))
told_behind u v a z false r h = subst (λ l. ForksBefore l u) (sym r.right) (subst (λ l. ForksBefore (r.front ++ z) l) (sym r.left) (forks_behind r.front z a h))

-- what was told is which one forks before the other
pub told_ahead : (u v : List ℕ) (b : Bool) → IsTold u v b → IsAhead u v b
told_ahead u v true h = h
told_ahead u v false h = inr h

pub token_told : (u v a z : List ℕ) (t s : ℕ) (b : Bool) → u ≡ t ∷ [] → v ≡ s ∷ [] → IsTold (t ∷ []) (s ∷ []) b → IsTold (u ++ a) (v ++ z) b
token_told u v a z t s true e q h = subst (λ l. ForksBefore (l ++ a) (v ++ z)) (sym e) (subst (λ l. ForksBefore (t ∷ a) (l ++ z)) (sym q) (forks_both (t ∷ []) a (s ∷ []) z h))
token_told u v a z t s false e q h = subst (λ l. ForksBefore (l ++ z) (u ++ a)) (sym q) (subst (λ l. ForksBefore (s ∷ z) (l ++ a)) (sym e) (forks_both (s ∷ []) z (t ∷ []) a h))

pub less_told : (t s : ℕ) → t < s → ForksBefore (t ∷ []) (s ∷ [])
less_told t s lt = ForksBefore.smaller lt

other_way : (u v : List ℕ) (b : Bool) → IsTold v u b → IsTold u v (not b)
other_way u v true h = h
other_way u v false h = h

pub turned_told : (u v a z : List ℕ) (o q : Option Bool) → q ≡ option_map not o → MatchOption o (AreRests v u z a) (λ b. IsTold v u b) → MatchOption q (AreRests u v a z) (λ b. IsTold u v b)
turned_told u v a z None q e h = subst (λ (r : Option Bool). MatchOption r (AreRests u v a z) (λ b. IsTold u v b)) (sym e) (record { front = h.front; left = h.right; right = h.left })
turned_told u v a z (Some b) q e h = subst (λ (r : Option Bool). MatchOption r (AreRests u v a z) (λ b. IsTold u v b)) (sym e) (other_way u v b h)

-- ---- the stacks

pub in_range : (lists : List (List ℕ)) (k : ℕ) → HasTokens lists k → k < length lists
in_range [] k h = absurd (omega (arith, h))
in_range (l ∷ lists) zero h = omega arith
in_range (l ∷ lists) (suc k) h = let lt = in_range lists k h in omega (arith, lt)

-- both were taken apart, and what they spell stayed
pub same_rests : (u v a z : List ℕ) → a ≡ u → z ≡ v → AreRests u v a z
same_rests u v a z e q = record { front = []; left = sym e; right = sym q }

-- both began with one list
pub front_rests : (s u v a z : List ℕ) → u ≡ s ++ a → v ≡ s ++ z → AreRests u v a z
front_rests s u v a z e q = record { front = s; left = e; right = q }

pub rests_on : (u v a z b y : List ℕ) → AreRests u v a z → AreRests a z b y → AreRests u v b y
rests_on u v a z b y h k = record {
  front = h.front ++ k.front;
  left = h.left ∙ ap (λ l. h.front ++ l) k.left ∙ sym (append_assoc h.front k.front b);
  right = h.right ∙ ap (λ l. h.front ++ l) k.right ∙ sym (append_assoc h.front k.front y);
}

module _ (lists : List (List ℕ)) where
  pub pushed_on : (old new : List ℕ) (k : ℕ) → new ≡ old ++ k ∷ [] → stacked lists new ≡ get_or lists k [] ++ stacked lists old
  pushed_on old new k e = ap (stacked lists) e ∙ stacked_push lists old k

  pub pushed_turns : (old new : List ℕ) (k : ℕ) → new ≡ old ++ k ∷ [] → turns lists new ≡ turns lists old + turns_of lists k
  pushed_turns old new k e = ap (turns lists) e ∙ sum_by_push (turns_of lists) old k

  pub pushed_tokens : (old new : List ℕ) (k : ℕ) → new ≡ old ++ k ∷ [] → All (HasTokens lists) old → HasTokens lists k → All (HasTokens lists) new
  pushed_tokens old new k e h t = All-same (HasTokens lists) new (old ++ k ∷ []) e (All-push (HasTokens lists) old k h t)

  some_tokens : (ks : List ℕ) → All (HasTokens lists) ks → 0 < length ks → 0 < length (stacked lists ks)
  some_tokens [] h lt = absurd (omega (arith, lt))
  some_tokens (k ∷ ks) h lt = let t = h 0 k (omega arith) in let n = length-append (stacked lists ks) (get_or lists k []) in omega (arith, n, t)

  -- where one list has ended, the other one is that and what is left
  module _ (u v : List ℕ) (ls rs : List ℕ) (r : AreRests u v (stacked lists ls) (stacked lists rs)) where
    left_ends : ls ≡ [] → v ≡ u ++ stacked lists rs
    left_ends e = r.right ∙ ap (λ l. l ++ stacked lists rs) (sym (r.left ∙ ap (λ l. r.front ++ stacked lists l) e ∙ append-nil r.front))

    right_ends : rs ≡ [] → u ≡ v ++ stacked lists ls
    right_ends e = r.left ∙ ap (λ l. l ++ stacked lists ls) (sym (r.right ∙ ap (λ l. r.front ++ stacked lists l) e ∙ append-nil r.front))

    -- so one begins the other
    pub left_begins : ls ≡ [] → 0 < length rs → All (HasTokens lists) rs → AreNested u v
    left_begins e lt h = inl (record { rest = stacked lists rs; some = some_tokens rs h lt; whole = left_ends e })

    pub right_begins : rs ≡ [] → 0 < length ls → All (HasTokens lists) ls → AreNested u v
    right_begins e lt h = inr (record { rest = stacked lists ls; some = some_tokens ls h lt; whole = right_ends e })

-- both are tokens
pub both_tokens : (u v a z b y : List ℕ) (t s : ℕ) (o : Option Bool) → u ≡ t ∷ [] → v ≡ s ∷ [] → b ≡ a → y ≡ z → MatchOption o (t ≡ s) (λ r. IsTold (t ∷ []) (s ∷ []) r) → MatchOption o (AreRests (u ++ a) (v ++ z) b y) (λ r. IsTold (u ++ a) (v ++ z) r)
both_tokens u v a z b y t s None e q m n h = record {
  front = t ∷ [];
  left = ap (λ l. l ++ a) e ∙ ap (λ l. t ∷ l) (sym m);
  right = ap (λ l. l ++ z) q ∙ ap (λ k. k ∷ z) (sym h) ∙ ap (λ l. t ∷ l) (sym n);
}
both_tokens u v a z b y t s (Some r) e q m n h = token_told u v a z t s r e q h

-- ---- what a call answered

pub match_none : {X : Type 0} {P : Type 0} (Q : X → Type 0) (o : Option X) → MatchOption o P Q → o ≡ None → P
match_none Q None h e = h
match_none Q (Some x) h e = cc

pub match_some : {X : Type 0} (P : Type 0) (Q : X → Type 0) (o : Option X) (x : X) → MatchOption o P Q → o ≡ Some x → Q x
match_some {X} P Q o x h e = subst (λ (r : Option X). MatchOption r P Q) e h

pub rests_by : (u v a z b y : List ℕ) → AreRests u v a z → a ≡ b → z ≡ y → AreRests u v b y
rests_by u v a z b y h e q = record { front = h.front; left = h.left ∙ ap (λ l. h.front ++ l) e; right = h.right ∙ ap (λ l. h.front ++ l) q }

pub popped_all : (P : ℕ → Type 0) (old new : List ℕ) (k : ℕ) → old ≡ new ++ k ∷ [] → All P old → All P new
popped_all P old new k e h = λ i d lt. subst P (get_or_append_left new (k ∷ []) d i lt) (All-same P (new ++ k ∷ []) old (sym e) h i d (let n = length-append new (k ∷ []) in omega (arith, n, lt)))
