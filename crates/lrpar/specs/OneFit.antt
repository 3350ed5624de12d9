-- That a table fits a grammar, and is safe for it with a graph, has one proof at most, so ghost fields may hold it.
use Rattle.std.specs.Prelude.{◌≡◌, ◌⊎◌, ℕ, Bool, List, [], ◌∷◌, length, Option, Some, None}
use Rattle.std.specs.Coded.{Coded, Coded-set, coded_bool, coded_ℕ, coded⊎, coded_option, coded_list, code_by, ×_prop, Π_prop, →_prop, le_prop}
use mathlib.Core.HLevel.{Σ_prop_path, is_prop→PathP, ⊥_prop}
use mathlib.Core.Logic.{inl, inr}
use mathlib.Core.Path.{refl, sym, ap, ◌∙◌}
use Rattle.cfg_theory.specs.Grammar.{Sym, rule, token, Grammar, IsOf, IsNext, InRange, WellFormed, body_of, end_token, head_of, symbol_at}
use Rattle.lr_theory.specs.Automaton.{Action, shift, reduce, accept, error, Automaton, Safe, closed_of}
use Rattle.lr_theory.specs.Itemset.{ItemSet, HasItem, entry_at}
use Rattle.state_table.specs.Graphs.{GraphValue}
use Rattle.state_table.specs.TableValues.{TableValue, action_at, goto_at}
use Rattle.state_table.specs.Tables.{CountsAgree, automaton_of}
use Rattle.lrpar.specs.Pair.{IsSafePair}
use Rattle.lrpar.specs.Ranges.{IsTable}
use Rattle.lrpar.specs.Reducing.{IsTableFor}

number_set : IsSet ℕ
number_set = Coded-set coded_ℕ

-- symbols and actions as numbers
abbrev sym_parts : Sym → ℕ ⊎ ℕ
sym_parts (rule A) = inl A
sym_parts (token t) = inr t

abbrev sym_of : ℕ ⊎ ℕ → Sym
sym_of (inl A) = rule A
sym_of (inr t) = token t

sym_same : (X : Sym) → sym_of (sym_parts X) ≡ X
sym_same (rule A) = refl
sym_same (token t) = refl

abbrev action_parts : Action → Option (Option (ℕ ⊎ ℕ))
action_parts (shift q) = Some (Some (inl q))
action_parts (reduce p) = Some (Some (inr p))
action_parts accept = Some None
action_parts error = None

abbrev action_of_parts : Option (Option (ℕ ⊎ ℕ)) → Action
action_of_parts (Some (Some (inl q))) = shift q
action_of_parts (Some (Some (inr p))) = reduce p
action_of_parts (Some None) = accept
action_of_parts None = error

action_same : (a : Action) → action_of_parts (action_parts a) ≡ a
action_same (shift q) = refl
action_same (reduce p) = refl
action_same accept = refl
action_same error = refl

action_set : IsSet Action
action_set = Coded-set (code_by (Option (Option (ℕ ⊎ ℕ))) (coded_option (coded_option (coded⊎ coded_ℕ coded_ℕ))) action_parts action_of_parts action_same)

sym_code : Coded Sym
sym_code = code_by (ℕ ⊎ ℕ) (coded⊎ coded_ℕ coded_ℕ) sym_parts sym_of sym_same

body_set : IsSet (List Sym)
body_set = Coded-set (coded_list sym_code)

symbol_set : IsSet (Option Sym)
symbol_set = Coded-set (coded_option sym_code)

looks_set : IsSet (Option (List Bool))
looks_set = Coded-set (coded_option (coded_list coded_bool))

state_set : IsSet (Option ℕ)
state_set = Coded-set (coded_option coded_ℕ)

none_of : {X : Type 0} → IsProp (X → ⊥)
none_of = Π_prop (λ x. ⊥_prop)

is_of_prop : (G : Grammar) (p A : ℕ) → IsProp (IsOf G p A)
is_of_prop G p A a b = λ i. record { in_range = le_prop a.in_range b.in_range i; head = number_set (head_of G p) A a.head b.head i }

in_range_prop : (G : Grammar) (X : Sym) → IsProp (InRange G X)
in_range_prop G (rule A) = le_prop
in_range_prop G (token t) = le_prop

abbrev first_rule : List Sym → ℕ
first_rule [] = 0
first_rule (rule A ∷ rest) = A
first_rule (token t ∷ rest) = 0

start_rule_prop : (G : Grammar) → IsProp ((A : ℕ) × (body_of G G.start ≡ rule A ∷ []))
start_rule_prop G a b = Σ_prop_path (λ A. body_set (body_of G G.start) (rule A ∷ [])) (ap first_rule (sym a.1 ∙ b.1))

well_formed_prop : (G : Grammar) → IsProp (WellFormed G)
well_formed_prop G a b = λ i. record {
  start_of = is_of_prop G G.start 0 a.start_of b.start_of i;
  start_alone = Π_prop (λ p. →_prop (number_set p G.start)) a.start_alone b.start_alone i;
  start_rule = start_rule_prop G a.start_rule b.start_rule i;
  no_start = Π_prop (λ p. Π_prop (λ d. none_of)) a.no_start b.no_start i;
  no_end = Π_prop (λ p. Π_prop (λ d. Π_prop (λ t. →_prop none_of))) a.no_end b.no_end i;
  heads = Π_prop (λ p. Π_prop (λ A. →_prop le_prop)) a.heads b.heads i;
  symbols = Π_prop (λ p. Π_prop (λ d. Π_prop (λ X. →_prop (in_range_prop G X)))) a.symbols b.symbols i;
  end_token = le_prop a.end_token b.end_token i;
}

is_table_prop : (v : TableValue) → IsProp (IsTable v)
is_table_prop v a b = λ i. record {
  start = le_prop a.start b.start i;
  shifts = Π_prop (λ s. Π_prop (λ t. Π_prop (λ q. →_prop le_prop))) a.shifts b.shifts i;
  reduces = Π_prop (λ s. Π_prop (λ t. Π_prop (λ p. →_prop le_prop))) a.reduces b.reduces i;
  targets = Π_prop (λ s. Π_prop (λ A. Π_prop (λ q. →_prop le_prop))) a.targets b.targets i;
  no_action = Π_prop (λ s. Π_prop (λ t. →_prop (action_set (action_at v s t) error))) a.no_action b.no_action i;
  no_goto = Π_prop (λ s. Π_prop (λ A. →_prop (state_set (goto_at v s A) None))) a.no_goto b.no_goto i;
}

-- any two proofs that a table fits are equal
pub one_fit : (G : Grammar) (v : TableValue) → IsProp (IsTableFor G v)
one_fit G v a b = λ i. record {
  well_formed = well_formed_prop G a.well_formed b.well_formed i;
  is_table = is_table_prop v a.is_table b.is_table i;
  tokens = number_set v.tokens G.tokens a.tokens b.tokens i;
  rules = number_set v.rules G.rules a.rules b.rules i;
  productions = number_set v.productions (length G.productions) a.productions b.productions i;
}

-- what an option holds
abbrev held : {X : Type 0} → X → Option X → X
held x None = x
held x (Some y) = y

item_prop : (s : ItemSet) (p d : ℕ) → IsProp (HasItem s p d)
item_prop s p d a b =
    let same = ap (held a.lookaheads) (sym a.at ∙ b.at) in
    λ i. record {
      lookaheads = same i;
      at = is_prop→PathP (λ j. entry_at s p d ≡ Some (same j)) (λ j. looks_set (entry_at s p d) (Some (same j))) a.at b.at i;
    }

goto_prop : (o : Option ℕ) → IsProp ((q : ℕ) × (o ≡ Some q))
goto_prop o a b = Σ_prop_path (λ q. state_set o (Some q)) (ap (held a.0) (sym a.1 ∙ b.1))

next_prop : (G : Grammar) (p d : ℕ) (X : Sym) → IsProp (IsNext G p d X)
next_prop G p d X a b = λ i. record { at = symbol_set (symbol_at G p d) (Some X) a.at b.at i }

safe_prop : (G : Grammar) (a : Automaton) → IsProp (Safe G a)
safe_prop G a x y = λ i. record {
  in_range = Π_prop (λ s. Π_prop (λ p. Π_prop (λ d. →_prop (×_prop le_prop le_prop)))) x.in_range y.in_range i;
  start_dots = Π_prop (λ p. Π_prop (λ d. →_prop (number_set d 0))) x.start_dots y.start_dots i;
  start_apart = Π_prop (λ s. Π_prop (λ X. Π_prop (λ q. →_prop none_of))) x.start_apart y.start_apart i;
  start_only = Π_prop (λ s. →_prop (number_set s a.graph.start)) x.start_only y.start_only i;
  carried = Π_prop (λ s. Π_prop (λ X. Π_prop (λ q. Π_prop (λ p. Π_prop (λ d. →_prop (→_prop (×_prop (item_prop (closed_of a s) p d) (next_prop G p d X)))))))) x.carried y.carried i;
  shifts = Π_prop (λ s. Π_prop (λ t. Π_prop (λ q. →_prop (×_prop (state_set (a.graph.edge s (token t)) (Some q)) none_of)))) x.shifts y.shifts i;
  reduces = Π_prop (λ s. Π_prop (λ t. Π_prop (λ p. →_prop (×_prop (item_prop (closed_of a s) p (length (body_of G p))) none_of)))) x.reduces y.reduces i;
  accepts = Π_prop (λ s. Π_prop (λ t. →_prop (×_prop (item_prop (closed_of a s) G.start (length (body_of G G.start))) (number_set t (end_token G))))) x.accepts y.accepts i;
  gotos = Π_prop (λ s. Π_prop (λ A. state_set (a.goto s A) (a.graph.edge s (rule A)))) x.gotos y.gotos i;
  has_goto = Π_prop (λ s. Π_prop (λ p. →_prop (→_prop (goto_prop (a.goto s (head_of G p)))))) x.has_goto y.has_goto i;
}

counts_prop : (G : Grammar) (g : GraphValue) (v : TableValue) → IsProp (CountsAgree G g v)
counts_prop G g v a b = λ i. record {
  states = number_set v.states (length g.cores) a.states b.states i;
  tokens = number_set v.tokens G.tokens a.tokens b.tokens i;
  rules = number_set v.rules G.rules a.rules b.rules i;
  productions = number_set v.productions (length G.productions) a.productions b.productions i;
  start = number_set v.start g.start a.start b.start i;
}

-- any two proofs that a graph and a table are safe for a grammar are equal
pub one_pair : (G : Grammar) (g : GraphValue) (v : TableValue) → IsProp (IsSafePair G g v)
one_pair G g v a b = λ i. record {
  counts = counts_prop G g v a.counts b.counts i;
  safe = safe_prop G (automaton_of g v) a.safe b.safe i;
}
