-- The search for the least chain that passes.
use Rattle.std.proofs.Common.{◌≡◌, ℕ, suc, ◌+◌, ◌<◌, ◌≤◌, inl, inr, ⊎_elim, List, [], ◌∷◌, Option, Some, None, refl, sym, ap, ◌∙◌, subst, arith}
use Rattle.std.proofs.lemmas.Bool.{cases_lt}
use Rattle.cfg_theory.specs.Grammar.{Grammar}
use Rattle.lr_theory.specs.Automaton.{error}
use Rattle.lr_theory.specs.Chains.{reduce_by, reduction, Reductions, ChainsWithin}
use Rattle.lr_theory.specs.LongChains.{Chain, GoesPast, Passes, RuleBefore, ChainBefore, IsLeastChain}
use Rattle.state_table.specs.Graphs.{GraphValue}
use Rattle.state_table.specs.TableValues.{TableValue, action_at, goto_at}
use Rattle.lrpar.specs.Ranges.{IsTable}
use Rattle.state_table.specs.Tables.{automaton_of}
use Rattle.lrpar.specs.Reducing.{IsLong, TellsAbove, TellsOf, chain_of}
use Rattle.lrpar.specs.declared.chains.LongChain.{LongChain}

module _ (G : Grammar) (x : GraphValue) (v : TableValue) (table : IsTable v) (limit : ℕ) where
  none_on : (top t : ℕ) (ss : List ℕ) → action_at v top t ≡ error → Reductions G (automaton_of x v) t (limit + 1) (top ∷ ss) → ⊥
  none_on top t ss e h =
      let n : limit + 1 ≡ suc limit = omega arith in
      let k = subst (λ m. Reductions G (automaton_of x v) t m (top ∷ ss)) n h in
      let none : reduction G (automaton_of x v) t (top ∷ ss) ≡ None = ap (λ c. reduce_by G (automaton_of x v) c (top ∷ ss)) e in
      cc (sym none ∙ k.1)

  -- on no token past the last one is a chain long
  pub token_past : (p : ℕ) (above : Option ℕ) (t : ℕ) → v.tokens ≤ t → IsLong G (automaton_of x v) limit p above t → ⊥
  token_past p None t le h = none_on p t [] (table.no_action p t (inr le)) h
  token_past p (Some q) t le h = none_on q t (p ∷ []) (table.no_action q t (inr le)) h

  pub any_token : (p : ℕ) (above : Option ℕ) → ((t : ℕ) → t < v.tokens → IsLong G (automaton_of x v) limit p above t → ⊥) → (t : ℕ) → IsLong G (automaton_of x v) limit p above t → ⊥
  any_token p above inside t h = ⊎_elim (λ lt. inside t lt h) (λ le. token_past p above t le h) (cases_lt t v.tokens)

  some_number : (a b : ℕ) → Some a ≡ Some b → a ≡ b
  some_number a b e = cc

  -- the goto on a rule is the only one
  pub at_rule : (p R q t : ℕ) → goto_at v p R ≡ Some q → (IsLong G (automaton_of x v) limit p (Some q) t → ⊥) → GoesPast G (automaton_of x v) limit p (Some R) t → ⊥
  at_rule p R q t e short h =
      let same : h.0 ≡ q = some_number h.0 q (sym h.1 ∙ e) in
      short (subst (λ r. IsLong G (automaton_of x v) limit p (Some r) t) same h.2)

  pub no_rule : (p R t : ℕ) → goto_at v p R ≡ None → GoesPast G (automaton_of x v) limit p (Some R) t → ⊥
  no_rule p R t e h = cc (sym e ∙ h.1)

  -- nor is there a chain of a state past the last one
  pub state_past : (d : Chain) → v.states ≤ d.state → Passes G (automaton_of x v) limit d → ⊥
  state_past d le h = by d.rule h
    where
      by : (o : Option ℕ) → GoesPast G (automaton_of x v) limit d.state o d.token → ⊥
      by None h = none_on d.state d.token [] (table.no_action d.state d.token (inl le)) h
      by (Some R) h = no_rule d.state R d.token (table.no_goto d.state R (inl le)) h

  pub within : ((d : Chain) → d.state < v.states → Passes G (automaton_of x v) limit d → ⊥) → ChainsWithin G (automaton_of x v) limit
  within inside = record {
    from_state = λ p t h. all (record { state = p; rule = None; token = t }) h;
    from_goto = λ p r q t e h. all (record { state = p; rule = Some r; token = t }) (q, e, h);
  }
    where
      all : (d : Chain) → Passes G (automaton_of x v) limit d → ⊥
      all d h = ⊎_elim (λ lt. inside d lt h) (λ le. state_past d le h) (cases_lt d.state v.states)

  -- one rule more, one state more
  pub more_rule : (p n R t : ℕ) → R < n + 1 → ((Q u : ℕ) → Q < n → GoesPast G (automaton_of x v) limit p (Some Q) u → ⊥) → ((u : ℕ) → GoesPast G (automaton_of x v) limit p (Some n) u → ⊥) → GoesPast G (automaton_of x v) limit p (Some R) t → ⊥
  more_rule p n R t lt below here h = ⊎_elim
      (λ before. below R t before h)
      (λ past. let same : R ≡ n = omega (arith, lt, past) in here t (subst (λ r. GoesPast G (automaton_of x v) limit p (Some r) t) same h))
      (cases_lt R n)

  pub more_state : (n : ℕ) (d : Chain) → d.state < n + 1 → ((b : Chain) → b.state < n → Passes G (automaton_of x v) limit b → ⊥) → ((b : Chain) → b.state ≡ n → Passes G (automaton_of x v) limit b → ⊥) → Passes G (automaton_of x v) limit d → ⊥
  more_state n d lt below here h = ⊎_elim (λ before. below d before h) (λ past. here d (omega (arith, lt, past)) h) (cases_lt d.state n)

  pub least_above : (p R q u : ℕ) → goto_at v p R ≡ Some q → ((Q t : ℕ) → Q < R → GoesPast G (automaton_of x v) limit p (Some Q) t → ⊥) → ((t : ℕ) → t < u → IsLong G (automaton_of x v) limit p (Some q) t → ⊥) →
      (Q t : ℕ) → GoesPast G (automaton_of x v) limit p (Some Q) t → ChainBefore (record { state = p; rule = Some Q; token = t }) (record { state = p; rule = Some R; token = u }) → ⊥
  least_above p R q u e below tokens Q t h (inl lt) = omega (arith, lt)
  least_above p R q u e below tokens Q t h (inr (same, inl lt)) = below Q t lt h
  least_above p R q u e below tokens Q t h (inr (same, inr (rules, lt))) =
      let r : Q ≡ R = some_number Q R rules in
      at_rule p R q t e (tokens t lt) (subst (λ k. GoesPast G (automaton_of x v) limit p (Some k) t) r h)

  no_rule_before : (o : Option ℕ) → RuleBefore o None → ⊥
  no_rule_before None b = b
  no_rule_before (Some R) b = b

  pub least_alone : (p u : ℕ) → ((t : ℕ) → t < u → IsLong G (automaton_of x v) limit p None t → ⊥) → (d : Chain) → d.state ≡ p → Passes G (automaton_of x v) limit d → ChainBefore d (record { state = p; rule = None; token = u }) → ⊥
  least_alone p u tokens d e h (inl lt) = omega (arith, lt, e)
  least_alone p u tokens d e h (inr (same, inl b)) = no_rule_before d.rule b
  least_alone p u tokens d e h (inr (same, inr (rules, lt))) =
      tokens d.token lt (subst (λ s. GoesPast G (automaton_of x v) limit s None d.token) e (subst (λ o. GoesPast G (automaton_of x v) limit d.state o d.token) rules h))

  module _ {S : Type 0} (number : S → ℕ) (p : ℕ) (alone : (t : ℕ) → IsLong G (automaton_of x v) limit p None t → ⊥) where
    by_rule : (s t : ℕ) (o : Option ℕ) → s ≡ p → GoesPast G (automaton_of x v) limit s o t → ((R : ℕ) → o ≡ Some R → GoesPast G (automaton_of x v) limit p (Some R) t → ⊥) → ⊥
    by_rule s t None e h rules = alone t (subst (λ r. GoesPast G (automaton_of x v) limit r None t) e h)
    by_rule s t (Some R) e h rules = rules R refl (subst (λ r. GoesPast G (automaton_of x v) limit r (Some R) t) e h)

    -- where no chain of the state alone passes
    pub of_above : (found : Option (LongChain S)) → TellsAbove number G (automaton_of x v) limit p found → TellsOf number G (automaton_of x v) limit p found
    of_above None k = λ d e h. by_rule d.state d.token d.rule e h (λ R o r. k R d.token r)
    of_above (Some c) k = (k.0, k.2, λ d e h before. by_rule d.state d.token d.rule e h (λ R o r. k.3 R d.token r (subst (λ b. ChainBefore b (chain_of number c)) (same d e R o) before)))
      where
        same : (d : Chain) → d.state ≡ p → (R : ℕ) → d.rule ≡ Some R → d ≡ record { state = p; rule = Some R; token = d.token }
        same d e R o = λ i. record { state = e i; rule = o i; token = d.token }
        -- the first state of which one passes

  pub least_of_all : {S : Type 0} (number : S → ℕ) (p : ℕ) (c : LongChain S) → TellsOf number G (automaton_of x v) limit p (Some c) → ((b : Chain) → b.state < p → Passes G (automaton_of x v) limit b → ⊥) → IsLeastChain G (automaton_of x v) limit (chain_of number c)
  least_of_all number p c k below = record {
    passes = k.1;
    least = λ d h before. ⊎_elim (λ lt. below d lt h) (λ le. least_here d h before le) (cases_lt d.state p);
  }
    where
      least_here : (d : Chain) → Passes G (automaton_of x v) limit d → ChainBefore d (chain_of number c) → p ≤ d.state → ⊥
      least_here d h (inl lt) le = let same = k.0 in omega (arith, lt, le, same)
      least_here d h (inr b) le = k.2 d (b.0 ∙ k.0) h (inr b)
