-- Each definition is met on the small grammar: bounded and unbounded rules, and all of it put together.
use Rattle.std.proofs.Common.{◌≡◌, ℕ, zero, suc, ◌<◌, ◌≤◌, ◌⊎◌, inl, inr, true, false, List, [], ◌∷◌, min, Some, refl, sym, ap, subst, arith}
use Rattle.std.specs.Prelude.{IsTrue, Contains}
use Rattle.cfg_theory.specs.Grammar.{rule, IsNext, head_of, body_of}
use Rattle.cfg_theory.specs.Derivation.{Derives}
use Rattle.cfg_theory.specs.Productive.{RulesIn}
use Rattle.cfg_theory.specs.Fold.{no_span}
use Rattle.cfg_theory.specs.Cost.{cost, Has, IsUnbounded, IsBefore}
use Rattle.cfg_theory.specs.CostTables.{Sums, Surrounds}
use Rattle.cfg_theory.specs.Greatest.{IsBoundedBy, AreUnbounded, IsKeptTable, IsNarrowed}
use Rattle.cfg_theory.specs.CheapestLists.{HaveCosts, IsClosedOver}
use Rattle.cfg_theory.specs.SmallGrammar.{example, place, tree, numbers, one_number, each_rule, one, least_costs, greatest_costs, cheapest_lists, open_rules, costs_to_one, costs_to_two, ExampleIsMet}
use Rattle.cfg_theory.proofs.Derivation.{tokens_both}
use Rattle.cfg_theory.proofs.Folds.{folds_iff}
use Rattle.cfg_theory.proofs.Productive.{productive_exact}
use Rattle.cfg_theory.proofs.CostTables.{is_least, is_greatest, unbounded_by_cycles}
use Rattle.cfg_theory.proofs.SmallGrammar.{some_same, none_some, false_true, of_each, next_each, of0, of1, of4, next01, next40, by0, by2, by4, good, derivation, sentence, nullable, first_tokens, follow_true, reach_true, productive, all_productive, N, lone, lone_is, first_table, follow_table, reach_table, productive_table, least_table, greatest_table, cheapest_table, all_cheapest}

around : Surrounds example one 1 1 1
unfolding body_of
around = unbounded_by_cycles.by_production example one 0 1 1 1 (0 ∷ []) [] of0 next01 Derives.none Derives.none

-- S and ^ are unbounded, and B costs no more than one
unbounded_one : IsUnbounded example one 1
unbounded_one = unbounded_by_cycles.cycle example one 1 1 (omega arith) around (productive 1 refl)

unbounded : (A : ℕ) → IsTrue (open_rules A) → IsUnbounded example one A
unfolding body_of
unbounded zero h = unbounded_by_cycles.handed_on example one 0 1 0 (unbounded_by_cycles.by_production example one 4 0 0 1 [] [] of4 next40 Derives.none Derives.none) unbounded_one
unbounded (suc zero) h = unbounded_one
unbounded (suc (suc A)) h = absurd (false_true h)

true_false : true ≡ false → ⊥
true_false e = cc

bounded : IsBoundedBy example one open_rules 1
bounded zero w e h = absurd (true_false e)
bounded (suc zero) w e h = absurd (true_false e)
bounded (suc (suc zero)) w e h = (is_greatest example one greatest_costs greatest_table 2 1 refl).greatest w h
bounded (suc (suc (suc A))) w e h = absurd (false_true (((productive_exact example N productive_table).rule_productive (suc (suc (suc A)))).1 (w, h)))

unbounded_rules : AreUnbounded example one open_rules
unbounded_rules = record { unbounded = unbounded; bounded = (1, bounded) }

-- some token lists
one_a : Has example 1 (0 ∷ [])
one_a = by0 (tokens_both example (0 ∷ []) [] Derives.none (nullable 1 refl))

two_as : Has example 1 (0 ∷ 0 ∷ [])
two_as = by0 (tokens_both example (0 ∷ []) (0 ∷ []) Derives.none one_a)

one_b : Has example 2 (1 ∷ [])
one_b = by2 Derives.none

to_one : (A n : ℕ) → costs_to_one A ≡ Some n → (w : List ℕ) × Has example A w × (n ≤ cost one w) × (n < 1 → cost one w ≤ n)
to_one zero n e = let q = some_same 1 n e in (0 ∷ [], by4 one_a, omega arith, λ lt. omega arith)
to_one (suc zero) n e = let q = some_same 1 n e in (0 ∷ [], one_a, omega arith, λ lt. omega arith)
to_one (suc (suc zero)) n e = let q = some_same 1 n e in (1 ∷ [], one_b, omega arith, λ lt. omega arith)
to_one (suc (suc (suc A))) n e = absurd (none_some n e)

within_one : (A n : ℕ) → costs_to_one A ≡ Some n → n ≤ 1
within_one zero n e = let q = some_same 1 n e in omega arith
within_one (suc zero) n e = let q = some_same 1 n e in omega arith
within_one (suc (suc zero)) n e = let q = some_same 1 n e in omega arith
within_one (suc (suc (suc A))) n e = absurd (none_some n e)

below_one : IsKeptTable example one 1 (λ A. false) costs_to_one
below_one = record {
  within = within_one;
  lists = to_one;
  closed = λ p A n o e s. of_each (λ p A. (m : ℕ) × (costs_to_one A ≡ Some m) × (min n 1 ≤ m)) (1, refl, omega arith) (1, refl, omega arith) (1, refl, omega arith) (1, refl, omega arith) (1, refl, omega arith) p A o;
}

to_two : (A n : ℕ) → costs_to_two A ≡ Some n → (w : List ℕ) × Has example A w × (n ≤ cost one w) × (n < 2 → cost one w ≤ n)
to_two zero n e = let q = some_same 2 n e in (0 ∷ 0 ∷ [], by4 two_as, omega arith, λ lt. omega arith)
to_two (suc zero) n e = let q = some_same 2 n e in (0 ∷ 0 ∷ [], two_as, omega arith, λ lt. omega arith)
to_two (suc (suc zero)) n e = let q = some_same 1 n e in (1 ∷ [], one_b, omega arith, λ lt. omega arith)
to_two (suc (suc (suc A))) n e = absurd (none_some n e)

within_two : (A n : ℕ) → costs_to_two A ≡ Some n → n ≤ 2
within_two zero n e = let q = some_same 2 n e in omega arith
within_two (suc zero) n e = let q = some_same 2 n e in omega arith
within_two (suc (suc zero)) n e = let q = some_same 1 n e in omega arith
within_two (suc (suc (suc A))) n e = absurd (none_some n e)

below_two : IsKeptTable example one 2 open_rules costs_to_two
unfolding body_of
below_two = record {
  within = within_two;
  lists = to_two;
  closed = λ p A n o e s. of_each (λ p A. open_rules A ≡ false → Sums one costs_to_two (body_of example p) n → (m : ℕ) × (costs_to_two A ≡ Some m) × (min n 2 ≤ m))
      (λ e s. absurd (true_false e)) (λ e s. absurd (true_false e)) (λ e s. let q = s.1 in let r = s.2 in (1, refl, omega arith)) (λ e s. (1, refl, omega arith)) (λ e s. absurd (true_false e)) p A o e s;
}

-- a rule stands in no body of B
not_in_b : (p d B : ℕ) → IsNext example p d (rule B) → (p ≡ 2) ⊎ (p ≡ 3) → ⊥
not_in_b p d B n h = next_each (λ p d X. X ≡ rule B → (p ≡ 2) ⊎ (p ≡ 3) → ⊥) (λ e. apart 0 (inl (omega arith))) (λ e. apart 0 (inl (omega arith))) (λ e. apart 1 (inl (omega arith))) (λ e. cc) (λ e. apart 4 (inr (omega arith))) p d (rule B) n refl h
  where
    apart : (p : ℕ) → (p < 2) ⊎ (3 < p) → (p ≡ 2) ⊎ (p ≡ 3) → ⊥
    apart p (inl lt) (inl e) = omega arith
    apart p (inl lt) (inr e) = omega arith
    apart p (inr lt) (inl e) = omega arith
    apart p (inr lt) (inr e) = omega arith

narrowed : IsNarrowed example one costs_to_one each_rule open_rules
unfolding body_of
narrowed = record {
  several = λ p d A B n o s le next old. of_each (λ p A. Sums one costs_to_one (body_of example p) n → IsTrue (open_rules A)) (λ s. refl) (λ s. refl)
      (λ s. let q = s.1 in let r = s.2 in absurd (omega arith)) (λ s. absurd (omega arith)) (λ s. refl) p A o s;
  single = λ p d A B n o s lt next new. of_each (λ p A. IsNext example p d (rule B) → IsTrue (open_rules A)) (λ n. refl) (λ n. refl)
      (λ n. absurd (not_in_b 2 d B n (inl refl))) (λ n. absurd (not_in_b 3 d B n (inr refl))) (λ n. refl) p A o next;
}

-- each of the lists costs nothing
costs_nothing : (A : ℕ) (w : List ℕ) → cheapest_lists A ≡ lone → least_costs A ≡ Some 0 → IsTrue (each_rule A) → Contains (cheapest_lists A) w → (n : ℕ) × (least_costs A ≡ Some n) × Has example A w × (cost one w ≡ n)
costs_nothing A w e f h c =
    let x : w ≡ [] = lone_is w (subst (λ l. Contains l w) e c) in
    (0, f, subst (Has example A) (sym x) (nullable A h), ap (cost one) x)

have_costs : HaveCosts example one least_costs cheapest_lists
have_costs zero w c = costs_nothing 0 w refl refl refl c
have_costs (suc zero) w c = costs_nothing 1 w refl refl refl c
have_costs (suc (suc zero)) w c = costs_nothing 2 w refl refl refl c
have_costs (suc (suc (suc A))) w c = absurd (omega (arith, c.1))

closed_lists : IsClosedOver example one least_costs 1 each_rule cheapest_lists
unfolding body_of
closed_lists = record {
  handed_on = λ p A n lt wanted tight. of_each (λ p A. RulesIn (λ B. IsTrue (each_rule B)) (body_of example p)) (refl, tt) (refl, tt) tt tt (refl, tt) p A tight.is_of;
  closed = λ p A n w lt wanted tight c. cheapest_table.closed p A n w tight.is_of tight.has_cost tight.sums c;
}

pub example_is_met : ExampleIsMet
unfolding body_of head_of
example_is_met = record {
  well_formed = good;
  sentence = sentence;
  begins = (1 ∷ [], sentence);
  derivation = derivation;
  span = refl;
  value = refl;
  folds = (folds_iff ℕ (List ℕ) example place one_number numbers tree no_span (0 ∷ 0 ∷ [])).1 refl;
  told = refl;
  empty_span = refl;
  middle_span = refl;
  nullable = nullable 1 refl;
  first_token = first_tokens 1 1 refl;
  first_before = inr (nullable 2 refl, refl);
  follow_token = follow_true 2 2 refl;
  path = reach_true 1 refl;
  productive = all_productive;
  first_table = first_table;
  follow_table = follow_table;
  reach_table = reach_table;
  productive_table = productive_table;
  least_table = least_table;
  greatest_table = greatest_table;
  cheapest_table = cheapest_table;
  least_cost = is_least example one least_costs least_table 1 0 refl;
  greatest_cost = is_greatest example one greatest_costs greatest_table 2 1 refl;
  all_cheapest = all_cheapest;
  in_order = IsBefore.later (IsBefore.smaller (omega arith));
  cycle = around;
  unbounded = unbounded_one;
  unbounded_rules = unbounded_rules;
  gains = record { productive = productive 1 refl; to = 1; cost_is = 1; within = refl; positive = omega arith; surrounds = around };
  below_one = below_one;
  below_two = below_two;
  narrowed = narrowed;
  none_cheaper = least_table.closed;
  tight = record { is_of = of1; has_cost = refl; sums = (0, 0, refl, refl, refl) };
  have_costs = have_costs;
  closed_lists = closed_lists;
}
