-- A text munches in one way, and its parts follow one another.
use Rattle.std.proofs.Common.{◌≡◌, ℕ, zero, suc, All, ◌+◌, ◌≤◌, List, ◌∷◌, length, drop, Bool, true, false, if◌then◌else◌, Option, None, Some, option_map, slice_get, refl, sym, ap₂, subst, arith, length-drop, zero-add}
use Rattle.regex.specs.Patterns.{Re, Match, find_str, span}
use Rattle.regex.proofs.SearchLemmas.{leftmost_within}
use Rattle.maximal_munch.specs.RuleValues.{RuleSetValue, RuleValue, Stack, target_at, moved, is_active_at}
use Rattle.maximal_munch.specs.Munching.{MunchesFrom, Munches, Follow, rule_len, end_of, part_at, ends, stuck, part}
use Rattle.maximal_munch.specs.Beginnings.{front_len, match_len}
use Rattle.maximal_munch.specs.declared.munching.Part.{Part}
use Rattle.maximal_munch.specs.declared.munching.Ending.{Ending}
use Rattle.maximal_munch.proofs.BestSoFar.{one_length, one_rule}

module _ (v : RuleSetValue) where
  pub one_way : {at : ℕ} {rest : List ℕ} {s : Stack} {ps qs : List Part} {d e : Ending} → MunchesFrom v at rest s ps d → MunchesFrom v at rest s qs e → (ps ≡ qs) × (d ≡ e)
  one_way ends ends = (refl, refl)
  one_way ends (stuck some h) = absurd (omega arith)
  one_way ends (part k n some l r) = absurd (omega arith)
  one_way (stuck some h) ends = absurd (omega arith)
  one_way (stuck some h) (stuck some' h') = (refl, refl)
  one_way (stuck some h) (part k n some' l r) = absurd (let z = h k in let p = l.nonempty in let q = l.has in omega arith)
  one_way (part k n some l r) ends = absurd (omega arith)
  one_way (part k n some l r) (stuck some' h) = absurd (let z = h k in let p = l.nonempty in let q = l.has in omega arith)
  one_way {at} {rest} {s} (part {parts = ps} k n some l r) (part {parts = qs} {e = e} k' n' some' l' r') =
      let same_n : n ≡ n' = one_length l l' in
      let same_k : k ≡ k' = one_rule l l' in
      let by_n = subst (λ x. MunchesFrom v (at + x) (drop x rest) (moved (target_at v k') s) qs e) (sym same_n) r' in
      let there : MunchesFrom v (at + n) (drop n rest) (moved (target_at v k) s) qs e = subst (λ x. MunchesFrom v (at + n) (drop n rest) (moved (target_at v x) s) qs e) (sym same_k) by_n in
      let more = one_way r there in
      (ap₂ ◌∷◌ (ap₂ (λ x y. part_at x at y) same_k same_n) more.0, more.1)

-- a match lies within the rest
either_within : (b : Bool) (x n : ℕ) → x ≤ n → (if b then x else 0) ≤ n
either_within true x n le = le
either_within false x n le = omega arith

match_within : (p : Re) (rest : List ℕ) → match_len p rest ≤ length rest
match_within p rest = by (find_str p rest 0) refl
  where
    by : (o : Option Match) → find_str p rest 0 ≡ o → front_len (option_map span o) ≤ length rest
    by None e = omega arith
    by (Some m) e =
        either_within _ m.trace.end (length rest) (leftmost_within p rest true 0 m e).2

rule_within : (rest : List ℕ) (o : Option RuleValue) → rule_len rest o ≤ length rest
rule_within rest None = omega arith
rule_within rest (Some r) = match_within r.pattern rest

module _ (v : RuleSetValue) where
  pub follows : {at : ℕ} {rest : List ℕ} {s : Stack} {ps : List Part} {e : Ending} → MunchesFrom v at rest s ps e → Follow at ps (end_of (at + length rest) e)
  follows ends = omega arith
  follows (stuck some h) = refl
  follows {at} {rest} {s} (part {parts = ps} {e = e} k n some l r) =
      let fits = either_within (is_active_at v s.current k) (rule_len rest (slice_get v.rules k)) (length rest) (rule_within rest (slice_get v.rules k)) in
      let same : at + n + length (drop n rest) ≡ at + length rest = omega (arith, length-drop n rest, l.has, fits) in
      (refl, l.nonempty, subst (λ end. Follow (at + n) ps (end_of end e)) same (follows r))

  pub parts_follow : (text : List ℕ) (ps : List Part) (e : Ending) → Munches v text ps e → Follow 0 ps (end_of (length text) e)
  parts_follow text ps e m = subst (λ n. Follow 0 ps (end_of n e)) (zero-add (length text)) (follows m)

  all_cons : (P : Part → Type 0) (x : Part) (xs : List Part) → P x → All P xs → All P (x ∷ xs)
  all_cons P x xs h t zero d lt = h
  all_cons P x xs h t (suc k) d lt = t k d (omega arith)

  lie_within : {at : ℕ} {rest : List ℕ} {s : Stack} {ps : List Part} {e : Ending} → MunchesFrom v at rest s ps e → All (λ p. p.start + p.len ≤ at + length rest) ps
  lie_within ends = λ k d lt. absurd (omega arith)
  lie_within (stuck some h) = λ k d lt. absurd (omega arith)
  lie_within {at} {rest} {s} (part {parts = ps} {e = e} k n some l r) =
      let fits = either_within (is_active_at v s.current k) (rule_len rest (slice_get v.rules k)) (length rest) (rule_within rest (slice_get v.rules k)) in
      let same : at + n + length (drop n rest) ≡ at + length rest = omega (arith, length-drop n rest, l.has, fits) in
      all_cons (λ p. p.start + p.len ≤ at + length rest) (part_at k at n) ps (omega (arith, l.has, fits)) (subst (λ end. All (λ p. p.start + p.len ≤ end) ps) same (lie_within r))

  pub parts_lie_within : (text : List ℕ) (ps : List Part) (e : Ending) → Munches v text ps e → All (λ p. p.start + p.len ≤ length text) ps
  parts_lie_within text ps e m = subst (λ n. All (λ p. p.start + p.len ≤ n) ps) (zero-add (length text)) (lie_within m)
