-- Chains of reductions that pass a cap.
use Rattle.std.proofs.Common.{◌≡◌, ℕ, ◌<◌, ◌⊎◌, inl, inr, Option, Some, None, refl, sym, ap, arith}
use Rattle.std.proofs.Math.Decide.{dec_lt}
use Rattle.cfg_theory.specs.Grammar.{Grammar}
use Rattle.lr_theory.specs.Automaton.{Automaton}
use Rattle.lr_theory.specs.Chains.{ChainsWithin}
use Rattle.lr_theory.specs.LongChains.{Chain, GoesPast, RuleBefore, ChainBefore, IsLeastChain, LongChainsAreExact}

within_none : (G : Grammar) (a : Automaton) (cap : ℕ) → ChainsWithin G a cap → (p : ℕ) (o : Option ℕ) (t : ℕ) → GoesPast G a cap p o t → ⊥
within_none G a cap h p None t k = h.from_state p t k
within_none G a cap h p (Some R) t (q, e, k) = h.from_goto p R q t e k

compare : (m n : ℕ) → (m < n) ⊎ (m ≡ n) ⊎ (n < m)
compare m n = by (dec_lt m n) (dec_lt n m)
  where
    by : Dec (m < n) → Dec (n < m) → (m < n) ⊎ (m ≡ n) ⊎ (n < m)
    by (yes x) _ = inl x
    by (no x) (yes y) = inr (inr y)
    by (no x) (no y) = inr (inl (omega arith))

compare_rules : (o q : Option ℕ) → RuleBefore o q ⊎ (o ≡ q) ⊎ RuleBefore q o
compare_rules None None = inr (inl refl)
compare_rules None (Some R) = inl tt
compare_rules (Some Q) None = inr (inr tt)
compare_rules (Some Q) (Some R) = by (compare Q R)
  where
    by : (Q < R) ⊎ (Q ≡ R) ⊎ (R < Q) → (Q < R) ⊎ (Some Q ≡ Some R) ⊎ (R < Q)
    by (inl x) = inl x
    by (inr (inl e)) = inr (inl (ap Some e))
    by (inr (inr y)) = inr (inr y)

compare_chains : (c d : Chain) → ChainBefore c d ⊎ (c ≡ d) ⊎ ChainBefore d c
compare_chains c d = by_state (compare c.state d.state)
  where
    by_token : c.state ≡ d.state → c.rule ≡ d.rule → (c.token < d.token) ⊎ (c.token ≡ d.token) ⊎ (d.token < c.token) → ChainBefore c d ⊎ (c ≡ d) ⊎ ChainBefore d c
    by_token e f (inl x) = inl (inr (e, inr (f, x)))
    by_token e f (inr (inl g)) = inr (inl (λ i. record { state = e i; rule = f i; token = g i }))
    by_token e f (inr (inr y)) = inr (inr (inr (sym e, inr (sym f, y))))

    by_rule : c.state ≡ d.state → RuleBefore c.rule d.rule ⊎ (c.rule ≡ d.rule) ⊎ RuleBefore d.rule c.rule → ChainBefore c d ⊎ (c ≡ d) ⊎ ChainBefore d c
    by_rule e (inl x) = inl (inr (e, inl x))
    by_rule e (inr (inl f)) = by_token e f (compare c.token d.token)
    by_rule e (inr (inr y)) = inr (inr (inr (sym e, inl y)))

    by_state : (c.state < d.state) ⊎ (c.state ≡ d.state) ⊎ (d.state < c.state) → ChainBefore c d ⊎ (c ≡ d) ⊎ ChainBefore d c
    by_state (inl x) = inl (inl x)
    by_state (inr (inl e)) = by_rule e (compare_rules c.rule d.rule)
    by_state (inr (inr y)) = inr (inr (inl y))

one_least : (G : Grammar) (a : Automaton) (cap : ℕ) (c d : Chain) → IsLeastChain G a cap c → IsLeastChain G a cap d → c ≡ d
one_least G a cap c d x y = by (compare_chains c d)
  where
    by : ChainBefore c d ⊎ (c ≡ d) ⊎ ChainBefore d c → c ≡ d
    by (inl b) = absurd (y.least c x.passes b)
    by (inr (inl e)) = e
    by (inr (inr b)) = absurd (x.least d y.passes b)

pub long_chains_are_exact : LongChainsAreExact
long_chains_are_exact = record {
  none = λ G a cap. (
    λ h. record {
      from_state = λ p t k. h (record { state = p; rule = None; token = t }) k;
      from_goto = λ p r q t e k. h (record { state = p; rule = Some r; token = t }) (q, e, k);
    },
    λ h c k. within_none G a cap h c.state c.rule c.token k,
  );
  one_least = one_least;
}
