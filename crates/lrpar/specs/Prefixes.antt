-- Tokens that a run has shifted one after another, and the states right after the last of them.
use Rattle.std.specs.Prelude.{◌≡◌, ◌<◌, ℕ, List, ◌++◌, length, map}
use Rattle.cfg_theory.specs.Grammar.{Grammar}
use Rattle.cfg_base.specs.declared.symbol.TIdx.{TIdx}
use Rattle.lr_theory.specs.Automaton.{Automaton}
use Rattle.lr_theory.specs.Machine.{Config, going, run, start_config}
use Rattle.lr_theory.specs.NextTokens.{IsFresh}
use Rattle.lr_theory.specs.Repair.{with_rest}
use Rattle.state_table.specs.Tables.{IsTableOf, automaton_of}
use Rattle.lrpar.specs.Checked.{ParserValue}
use Rattle.lrpar.specs.NextStates.{AreInside}
use Rattle.lrpar.specs.Reducing.{AreStates}

-- the data of a parser, and the tokens
pub record PrefixValue : Type 0 where
  pub parser : ParserValue
  pub tokens : List ℕ

-- the grammar and the machine of the data, and that its table was made of the grammar
abbrev pub grammar_in : ParserValue → Grammar
grammar_in d = d.grammar.grammar

abbrev pub machine_in : ParserValue → Automaton
machine_in d = automaton_of d.graph d.table

abbrev pub IsTableIn : ParserValue → Type 0
IsTableIn d = IsTableOf d.grammar d.graph d.table

-- a token as a lexeme of itself
abbrev pub own : ℕ → ℕ
own t = t

-- the numbers of tokens
abbrev pub tokens_of : {S : Type 0} → (S → ℕ) → List (TIdx S) → List ℕ
tokens_of number ts = map (λ t. number t.0) ts

-- the run on these tokens, whatever comes behind them, comes to these states, right after it shifted the last one or at the start
pub record ComesTo (G : Grammar) (a : Automaton) (tokens ss : List ℕ) : Type 0 where
  pub config : Config ℕ
  pub steps : ℕ
  pub goes : (ws : List ℕ) → run G a own steps (start_config a (tokens ++ ws)) ≡ going (with_rest config ws)
  pub fresh : IsFresh a config
  pub states : config.states ≡ ss

-- what is so of the tokens and the states of a prefix
pub record IsPrefix (d : ParserValue) (tokens ss : List ℕ) : Type 0 where
  pub inside : AreInside (grammar_in d) own tokens
  pub are_states : AreStates d.table ss
  pub some : 0 < length ss
  pub comes : ComesTo (grammar_in d) (machine_in d) tokens ss
