-- What a value's facts say of the end token and of the implicit rule.
use Rattle.std.proofs.Common.{◌≡◌, ℕ, ◌<◌, inl, inr, List, [], ◌∷◌, length, get_or, Option, Some, None, sym, ap, ◌∙◌, subst, arith}
use Rattle.std.specs.Prelude.{map, option_map, slice_get, MatchOption, IfSome}
use Rattle.std.specs.Option.{option_or}
use Rattle.std.proofs.lemmas.Option.{slice_get-get_or, slice_get-map, same_Some, none-some}
use Rattle.std.proofs.lemmas.Bool.{cases_lt}
use Rattle.cfg_theory.specs.Grammar.{end_token}
use Rattle.cfg_numbered.specs.Value.{GrammarValue, TokenFacts, IsGrammar, IsRuleNamed, end_facts, shown_text}

-- what every token but the end token has
module _ (top : ℕ) (v : GrammarValue) (good : IsGrammar top v) (look : TokenFacts → Option (List ℕ)) (of_end : look end_facts ≡ None) (of_named : (k : TokenFacts) (name : List ℕ) → k.name ≡ Some name → look k ≡ None → ⊥) where
  found : (o : Option TokenFacts) (name : List ℕ) → option_map (λ (k : TokenFacts). k.name) o ≡ Some (Some name) → option_map look o ≡ Some None → ⊥
  found None name e h = none-some (Some name) e
  found (Some k) name e h = of_named k name (same_Some k.name (Some name) e) (same_Some (look k) None h)

  pub or_end : {X : Type 0} (f : X → List ℕ) (t : ℕ) (k : TokenFacts) (o : Option X) → t < v.grammar.tokens → slice_get v.tokens t ≡ Some k → option_map f o ≡ look k → MatchOption o (t ≡ end_token v.grammar) (λ _. t < end_token v.grammar)
  or_end f t k None lt at h = elim (cases_lt t (end_token v.grammar)) [ inl less ↦ absurd (let n = good.named t less in found (slice_get v.tokens t) n.0 n.1.at (ap (option_map look) at ∙ ap Some (sym h))) | inr ge ↦ omega (arith, ge, lt) ]
  or_end f t k (Some x) lt at h = elim (cases_lt t (end_token v.grammar)) [ inl less ↦ less | inr ge ↦ absurd (apart (omega (arith, ge, lt))) ]
    where
      apart : t ≡ end_token v.grammar → ⊥
      apart e =
          let same : k ≡ end_facts = same_Some k end_facts (sym at ∙ ap (slice_get v.tokens) e ∙ good.end_unnamed) in
          none-some (f x) (sym of_end ∙ ap look (sym same) ∙ sym h)

-- a name is what messages show, where there is no other text
pub name_named : (k : TokenFacts) (name : List ℕ) → k.name ≡ Some name → k.name ≡ None → ⊥
name_named k name e h = none-some name (sym h ∙ e)

pub shown_named : (k : TokenFacts) (name : List ℕ) → k.name ≡ Some name → shown_text k ≡ None → ⊥
shown_named k name e h = by k.epp h
  where
    by : (o : Option (List ℕ)) → option_or o k.name ≡ None → ⊥
    by None h = none-some name (sym h ∙ e)
    by (Some x) h = none-some x (sym h)

-- the implicit rule is named
pub implicit_named : (top : ℕ) (v : GrammarValue) → IsGrammar top v → {X : Type 0} (f : X → ℕ) (o : Option X) → option_map f o ≡ v.kept.implicit_rule → IfSome o (λ r. IsRuleNamed v (f r) (126 ∷ []))
implicit_named top v good f None e = tt
implicit_named top v good f (Some x) e = good.implicit_rule (f x) (sym e)
