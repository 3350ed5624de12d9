-- The parts of a grammar value as contracts see them.
use Rattle.std.specs.Prelude.{◌≡◌, ℕ, suc, ◌<◌, ◌==◌, List, [], ◌∷◌, ◌++◌, length, map, option_map, get_or, filter, Option, Some, None}
use Rattle.std.specs.List.{range_with_len}
use Rattle.std.specs.Borrow.{Bor}
use Rattle.std.specs.String.{string_bytes}
use Rattle.std.specs.declared.alloc.Global.{Global}
use Rattle.std.specs.declared.string.String.{String}
use Rattle.cfg_theory.specs.Grammar.{Production, Grammar, head_of}
use Rattle.cfg_numbered.specs.Symbols.{syms_of}
use Rattle.cfg_numbered.specs.Value.{RuleFacts, TokenFacts, ProductionFacts, ParamFacts, KeptFacts, GrammarValue, productions_of, end_facts}
use Rattle.cfg_numbered.specs.declared.yacc.info.RuleInfo.{RuleInfo}
use Rattle.cfg_numbered.specs.declared.yacc.info.TokenInfo.{TokenInfo}
use Rattle.cfg_numbered.specs.declared.yacc.info.ProductionInfo.{ProductionInfo}
use Rattle.cfg_numbered.specs.declared.yacc.info.KeptInfo.{KeptInfo}

-- what stands beside the name of a rule
abbrev pub rule_beside : List ℕ → RuleInfo → RuleFacts
rule_beside name r = record { name = name; span = r.span; action_type = option_map string_bytes r.action_type }

abbrev pub rule_facts : String Global × RuleInfo → RuleFacts
rule_facts e = rule_beside (string_bytes e.0) e.1

-- and beside that of a token
abbrev pub token_beside : List ℕ → TokenInfo → TokenFacts
token_beside name t = record {
  name = Some name;
  span = Some t.span;
  epp = option_map string_bytes t.epp;
  precedence = t.precedence;
  is_avoided = t.is_avoided;
}

abbrev pub token_facts : String Global × TokenInfo → TokenFacts
token_facts e = token_beside (string_bytes e.0) e.1

-- the named tokens, and the end token behind them
abbrev pub with_end : List (String Global × TokenInfo) → List TokenFacts
with_end tokens = map token_facts tokens ++ end_facts ∷ []

-- a rule that was looked up, and a token; the end token has no entry
abbrev pub rule_seen : Bor (List ℕ) × Bor RuleInfo → RuleFacts
rule_seen e = rule_beside e.0.now e.1.now

abbrev pub token_seen : Option (Bor (List ℕ) × Bor TokenInfo) → TokenFacts
token_seen (Some e) = token_beside e.0.now e.1.now
token_seen None = end_facts

abbrev pub production_facts : {S : Type 0} → ProductionInfo S → ProductionFacts
production_facts p = record {
  span = p.span;
  precedence = p.precedence;
  action = option_map string_bytes p.action;
  action_span = p.action_span;
}

abbrev pub param_facts : String Global × String Global → ParamFacts
param_facts p = record { name = string_bytes p.0; param_type = string_bytes p.1 }

abbrev pub kept_facts : {S : Type 0} → (S → ℕ) → KeptInfo S → KeptFacts
kept_facts number k = record {
  implicit_rule = option_map (λ r. number r.0) k.implicit_rule;
  parse_param = option_map param_facts k.parse_param;
  parse_generics = option_map string_bytes k.parse_generics;
  programs = option_map string_bytes k.programs;
  expect = k.expect;
  expect_rr = k.expect_rr;
}

abbrev pub production_of : {S : Type 0} → (S → ℕ) → ProductionInfo S → Production
production_of number p = record { head = number p.rule.0; body = syms_of number p.symbols.items }

-- the value of these parts
abbrev pub value_of : {S : Type 0} → (S → ℕ) → List (String Global × RuleInfo) → List (String Global × TokenInfo) → List (ProductionInfo S) → ℕ → KeptInfo S → GrammarValue
value_of number rules tokens prods start kept = record {
  grammar = record { rules = length rules; tokens = suc (length tokens); productions = map (production_of number) prods; start = start };
  rules = map rule_facts rules;
  tokens = with_end tokens;
  productions = map production_facts prods;
  kept = kept_facts number kept;
}

-- the list beside each rule has those of the first n productions that are the rule's
pub record ListsBelow (G : Grammar) (n : ℕ) (lists : List (List ℕ)) : Type 0 where
  pub count : length lists ≡ G.rules
  pub each : (A : ℕ) → A < G.rules → get_or lists A [] ≡ filter (λ p. head_of G p == A) (range_with_len 0 n)

-- or all of them
pub record ListsProductions (G : Grammar) (lists : List (List ℕ)) : Type 0 where
  pub count : length lists ≡ G.rules
  pub each : (A : ℕ) → A < G.rules → get_or lists A [] ≡ productions_of G A

-- a grammar of which only rules and productions are told
abbrev pub with_productions : ℕ → List Production → Grammar
with_productions rules productions = record { rules = rules; tokens = 0; productions = productions; start = 0 }
