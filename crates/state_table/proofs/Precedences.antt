-- The precedences of tokens and of productions.
use Rattle.std.proofs.Common.{◌≡◌, ℕ, Option, Some, None, refl, ap}
use Rattle.std.specs.Prelude.{option_map, slice_get}
use Rattle.cfg_base.specs.declared.precedence.Precedence.{Precedence}
use Rattle.cfg_numbered.specs.Value.{GrammarValue, TokenFacts, ProductionFacts, HasNoPrecedences}
use Rattle.table_theory.specs.Cells.{NoPrecedences}
use Rattle.state_table.specs.CellViews.{precedence_of, precedences_of, of_token_facts, of_production_facts}

of_token_at : (o : Option TokenFacts) (r : Option Precedence) → option_map (λ k. k.precedence) o ≡ Some r → of_token_facts o ≡ option_map precedence_of r
of_token_at None r e = cc
of_token_at (Some k) r e = let f : k.precedence ≡ r = cc in ap (option_map precedence_of) f

of_production_at : (o : Option ProductionFacts) (r : Option Precedence) → option_map (λ k. k.precedence) o ≡ Some r → of_production_facts o ≡ option_map precedence_of r
of_production_at None r e = cc
of_production_at (Some k) r e = let f : k.precedence ≡ r = cc in ap (option_map precedence_of) f

pub token_level : (v : GrammarValue) (t : ℕ) (r : Option Precedence) → option_map (λ k. k.precedence) (slice_get v.tokens t) ≡ Some r → of_token_facts (slice_get v.tokens t) ≡ option_map precedence_of r
token_level v t r e = of_token_at (slice_get v.tokens t) r e

pub production_level : (v : GrammarValue) (p : ℕ) (r : Option Precedence) → option_map (λ k. k.precedence) (slice_get v.productions p) ≡ Some r → of_production_facts (slice_get v.productions p) ≡ option_map precedence_of r
production_level v p r e = of_production_at (slice_get v.productions p) r e

-- a grammar in which no token and no production has a precedence
none_kept : (o : Option Precedence) → ((r : Precedence) → o ≡ Some r → ⊥) → option_map precedence_of o ≡ None
none_kept None h = refl
none_kept (Some r) h = absurd (h r refl)

no_token : (o : Option TokenFacts) → ((r : Precedence) → option_map (λ k. k.precedence) o ≡ Some (Some r) → ⊥) → of_token_facts o ≡ None
no_token None h = refl
no_token (Some k) h = none_kept k.precedence (λ r e. h r (ap Some e))

no_production : (o : Option ProductionFacts) → ((r : Precedence) → option_map (λ q. q.precedence) o ≡ Some (Some r) → ⊥) → of_production_facts o ≡ None
no_production None h = refl
no_production (Some q) h = none_kept q.precedence (λ r e. h r (ap Some e))

pub no_precedences : (v : GrammarValue) → HasNoPrecedences v → NoPrecedences (precedences_of v)
no_precedences v h = record { of_token = λ t. no_token (slice_get v.tokens t) (h.of_token t); of_production = λ p. no_production (slice_get v.productions p) (h.of_production p) }
