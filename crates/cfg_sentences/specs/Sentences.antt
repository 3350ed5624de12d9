-- What contracts see of the costs of a grammar's sentences, and when each refusal comes.
use Rattle.std.specs.Prelude.{◌≡◌, ℕ, ◌<◌, List, length, get_or, Option}
use Rattle.cfg_base.specs.declared.symbol.TIdx.{TIdx}
use Rattle.cfg_theory.specs.Grammar.{Grammar}
use Rattle.cfg_theory.specs.Derivation.{IsProductive}
use Rattle.cfg_theory.specs.Cost.{IsLeastCost}
use Rattle.cfg_sentences.specs.declared.sentences.CostError.{CostError}
use Rattle.cfg_sentences.specs.declared.sentences.CostError.TheVariants.{NoSentence, CostTooLarge}

-- a grammar with the costs of its tokens
pub record Costed : Type 0 where
  pub grammar : Grammar
  pub costs : List ℕ

-- and with a table of costs of its rules
pub record CostedTable : Type 0 where
  pub grammar : Grammar
  pub costs : List ℕ
  pub table : List (Option ℕ)

-- the rule derives no token list; or its least cost is past 65,535
abbrev pub LeastIsRefused : Grammar → (ℕ → ℕ) → ℕ → CostError → Type 0
LeastIsRefused G f A NoSentence = IsProductive G A → ⊥
LeastIsRefused G f A CostTooLarge = (n : ℕ) × IsLeastCost G f A n × (65535 < n)

-- the costs are answers of a function, `post` of an index and an answer: one for each of n tokens, in order
pub record AreAnswers {S : Type 0} (number : S → ℕ) (post : TIdx S → ℕ → Type 0) (n : ℕ) (costs : List ℕ) : Type 0 where
  pub count : length costs ≡ n
  pub each : (t : ℕ) → t < n → (x : TIdx S) × (number x.0 ≡ t) × post x (get_or costs t 0)
