-- Small cases in which a rule could have chosen otherwise.
use Rattle.std.proofs.Common.{◌≡◌, ℕ, zero, suc, ◌<◌, ◌⊎◌, inl, inr, Bool, true, false, List, [], ◌∷◌, slice_get, Option, Some, None, refl, sym, ap, ◌∙◌, subst, arith}
use Rattle.cfg_theory.specs.Grammar.{head_of, body_of}
use Rattle.cfg_theory.specs.SmallGrammar.{example}
use Rattle.lr_theory.specs.Itemset.{HasItem, HasLook, Differ, Meet, Cross, WeaklyCompatible}
use Rattle.lr_theory.specs.Graph.{CoreItem, CoreLook}
use Rattle.lr_theory.specs.Building.{symbols, Incompatible, Joins, StaysOut}
use Rattle.lr_theory.specs.Automaton.{Action, reduce, error}
use Rattle.lr_theory.specs.Chains.{reduction}
use Rattle.lr_theory.specs.LongChains.{Chain, GoesPast, Passes, RuleBefore, ChainBefore}
use Rattle.lr_theory.specs.SmallGrammars.{d_alone, e_alone, completed, after_a, after_b, graph_after_a}
use Rattle.lr_theory.specs.SmallCases.{d_and_e, sharing, graph_of_sharing, three_alike, chain_table, EditsAreApplied, SymbolsAreInOrder, SharedTokensJoin, FirstFitIsJoined, LeastChainIsTold}
use Rattle.lr_theory.proofs.Literal.{some_same, none_some}
use Rattle.lr_theory.proofs.MergeExample.{each_item, item4, item5, look4, look5, same_items, apart_after_a, apart_after_b, other_way, not_compatible}

pub edits_are_applied : EditsAreApplied
edits_are_applied = record { all_kinds = refl; behind_delete = refl; at_end = refl; keep_past = refl; delete_past = refl }

pub symbols_are_in_order : SymbolsAreInOrder
unfolding symbols
symbols_are_in_order = record { in_order = refl }

-- two different items of such a set are the two, in either order
each_pair : (a b : List Bool) (P : ℕ → ℕ → ℕ → ℕ → Type 0) → P 4 1 5 1 → P 5 1 4 1 → (p d q e : ℕ) → HasItem (completed a b) p d → HasItem (completed a b) q e → Differ p d q e → P p d q e
each_pair a b P x y p d q e h k differ = each_item a b (λ p d. Differ p d q e → P p d q e) (first q e k) (second q e k) p d h differ
  where
    first : (q e : ℕ) → HasItem (completed a b) q e → Differ 4 1 q e → P 4 1 q e
    first q e k = each_item a b (λ q e. Differ 4 1 q e → P 4 1 q e) (λ differ. absurd (differ refl refl)) (λ differ. x) q e k

    second : (q e : ℕ) → HasItem (completed a b) q e → Differ 5 1 q e → P 5 1 q e
    second q e k = each_item a b (λ q e. Differ 5 1 q e → P 5 1 q e) (λ differ. y) (λ differ. absurd (differ refl refl)) q e k

shares : Meet (HasLook sharing) 4 1 5 1
shares = (4, look4 e_alone d_and_e 4 refl, look5 e_alone d_and_e 4 refl)

shares_back : Meet (HasLook sharing) 5 1 4 1
shares_back = (4, look5 e_alone d_and_e 4 refl, look4 e_alone d_and_e 4 refl)

-- so no two items of that set are apart
all_meet : (a b : List Bool) (p d q e : ℕ) → HasItem (completed a b) p d → HasItem (completed a b) q e → Differ p d q e → Meet (HasLook sharing) p d q e
all_meet a b = each_pair a b (λ p d q e. Meet (HasLook sharing) p d q e) shares shares_back

none_before : {P : Type 0} (j : ℕ) → j < 0 → P
none_before j lt = absurd (omega (arith, lt))

pub shared_tokens_join : SharedTokensJoin
shared_tokens_join = record {
  crosses = (3, look4 d_alone e_alone 3 refl, look5 e_alone d_and_e 3 refl);
  apart = apart_after_a;
  shares = shares;
  newer = record {
    state = omega arith;
    same = λ p d. (same_items d_alone e_alone e_alone d_and_e p d, same_items e_alone d_and_e d_alone e_alone p d);
    fits = λ p d q e h k differ. inr (inr (all_meet d_alone e_alone p d q e h k differ));
    first = λ j lt. none_before j lt;
  };
  newer_fits = newer_fits;
  older = record {
    state = omega arith;
    same = λ p d. (same_items e_alone d_and_e d_alone e_alone p d, same_items d_alone e_alone e_alone d_and_e p d);
    fits = λ p d q e h k differ. inr (inl (all_meet e_alone d_and_e p d q e h k differ));
    first = λ j lt. none_before j lt;
  };
  older_fits = older_fits;
}
  where
    newer_fits : StaysOut graph_after_a 0 (HasItem sharing) (HasLook sharing) → ⊥
    newer_fits (inl other) = other (λ p d. (same_items d_alone e_alone e_alone d_and_e p d, same_items e_alone d_and_e d_alone e_alone p d))
    newer_fits (inr i) = i.other_apart (all_meet d_alone e_alone _ _ _ _ i.item i.other_item i.differ)

    older_fits : StaysOut graph_of_sharing 0 (HasItem after_a) (HasLook after_a) → ⊥
    older_fits (inl other) = other (λ p d. (same_items e_alone d_and_e d_alone e_alone p d, same_items d_alone e_alone e_alone d_and_e p d))
    older_fits (inr i) = i.apart (all_meet e_alone d_and_e _ _ _ _ i.item i.other_item i.differ)

-- the set after b crosses itself nowhere
no_crossing : Cross (HasLook after_b) (HasLook after_b) 4 1 5 1 → ⊥
no_crossing m = apart_after_b m

no_crossing_back : Cross (HasLook after_b) (HasLook after_b) 5 1 4 1 → ⊥
no_crossing_back m = apart_after_b (m.0, m.2, m.1)

fits_itself : WeaklyCompatible (HasItem after_b) (HasLook after_b) (HasLook after_b)
fits_itself = each_pair e_alone d_alone (λ p d q e. ((Cross (HasLook after_b) (HasLook after_b) p d q e → ⊥) × (Cross (HasLook after_b) (HasLook after_b) p d q e → ⊥)) ⊎ Meet (HasLook after_b) p d q e ⊎ Meet (HasLook after_b) p d q e)
    (inl (no_crossing, no_crossing)) (inl (no_crossing_back, no_crossing_back))

pub first_fit_is_joined : FirstFitIsJoined
first_fit_is_joined = record {
  joins = record {
    state = omega arith;
    same = λ p d. (λ h. h, λ h. h);
    fits = fits_itself;
    first = earlier;
  };
  no_other = only;
}
  where
    earlier : (j : ℕ) → j < 1 → StaysOut three_alike j (HasItem after_b) (HasLook after_b)
    earlier zero lt = inr other_way
    earlier (suc j) lt = absurd (omega (arith, lt))

    second_fits : StaysOut three_alike 1 (HasItem after_b) (HasLook after_b) → ⊥
    second_fits (inl other) = other (λ p d. (λ h. h, λ h. h))
    second_fits (inr i) = i.apart i.cross

    only : (k : ℕ) → Joins three_alike k (HasItem after_b) (HasLook after_b) → k ≡ 1
    only zero j = absurd (not_compatible j.fits)
    only (suc zero) j = refl
    only (suc (suc k)) j = absurd (second_fits (j.first 1 (omega arith)))

list_of : (x y : List ℕ) → Some x ≡ Some y → x ≡ y
list_of x y e = cc

number_of : (x y : ℕ) → Some x ≡ Some y → x ≡ y
number_of x y e = cc

-- from 0 there is one reduction
one_at_most : (given : Action) (r : Option ℕ) (t : ℕ) → GoesPast example (chain_table given) 1 0 r t → ⊥
unfolding head_of body_of
one_at_most given None t (ss, e, (us, f, _)) = none_some us (ap (reduction example (chain_table given) t) (list_of (3 ∷ 0 ∷ []) ss e) ∙ f)
one_at_most given (Some zero) t (q, g, h) = none_some q g
one_at_most given (Some (suc zero)) t (q, g, h) = none_some q g
one_at_most given (Some (suc (suc zero))) t (q, g, (ss, e, h)) = none_some ss (ap (λ n. reduction example (chain_table given) t (n ∷ 0 ∷ [])) (number_of 3 q g) ∙ e)
one_at_most given (Some (suc (suc (suc r)))) t (q, g, h) = none_some q g

pub least_chain_is_told : LeastChainIsTold
unfolding head_of body_of
least_chain_is_told = record {
  within = one_at_most (reduce 3) None 0;
  past = (_, refl, tt);
  from_state = record { passes = (_, refl, (_, refl, tt)); least = before_state };
  other_token = (_, refl, (_, refl, tt));
  other_rule = (2, refl, (_, refl, (_, refl, tt)));
  other_state = (_, refl, (_, refl, tt));
  from_goto = record { passes = (2, refl, (_, refl, (_, refl, tt))); least = before_goto };
  goto_other_token = (2, refl, (_, refl, (_, refl, tt)));
  goto_other_rule = (2, refl, (_, refl, (_, refl, tt)));
  goto_other_state = (_, refl, (_, refl, tt));
}
  where
    lower : (given : Action) (d : Chain) → Passes example (chain_table given) 1 d → d.state < 1 → ⊥
    lower given d p lt = one_at_most given d.rule d.token (subst (λ s. GoesPast example (chain_table given) 1 s d.rule d.token) (let e : d.state ≡ 0 = omega (arith, lt) in e) p)

    before_none : (r : Option ℕ) → RuleBefore r None → ⊥
    before_none None h = h
    before_none (Some r) h = h

    before_state : (d : Chain) → Passes example (chain_table (reduce 3)) 1 d → ChainBefore d (record { state = 1; rule = None; token = 0 }) → ⊥
    before_state d p (inl lt) = lower (reduce 3) d p lt
    before_state d p (inr (e, inl r)) = before_none d.rule r
    before_state d p (inr (e, inr (f, lt))) = absurd (omega (arith, lt))

    -- 1 does nothing by itself, and has no goto on the rule 0
    none_there : (r : Option ℕ) (t : ℕ) → RuleBefore r (Some 1) → GoesPast example (chain_table error) 1 1 r t → ⊥
    none_there None t h (ss, e, _) = none_some ss e
    none_there (Some zero) t h (q, g, _) = none_some q g
    none_there (Some (suc r)) t h p = absurd (omega (arith, h))

    before_goto : (d : Chain) → Passes example (chain_table error) 1 d → ChainBefore d (record { state = 1; rule = Some 1; token = 0 }) → ⊥
    before_goto d p (inl lt) = lower error d p lt
    before_goto d p (inr (e, inl r)) = none_there d.rule d.token r (subst (λ s. GoesPast example (chain_table error) 1 s d.rule d.token) e p)
    before_goto d p (inr (e, inr (f, lt))) = absurd (omega (arith, lt))
