-- A grammar with its graph, its table and a cap, and why a grammar has none.
use Rattle.std.specs.Prelude.{◌≡◌, ℕ, List}
use Rattle.cfg_numbered.specs.Value.{GrammarValue}
use Rattle.cfg_theory.specs.Grammar.{Grammar, Sym, WellFormed}
use Rattle.lr_theory.specs.Canonical.{Contest, Look, Present, accept, reduce}
use Rattle.lr_theory.specs.Chains.{ChainsWithin}
use Rattle.lr_theory.specs.LongChains.{Chain, IsLeastChain}
use Rattle.lr_theory.specs.Sizes.{StaysWithin}
use Rattle.lrpar.specs.Checked.{ParserValue}
use Rattle.lrpar.specs.Reducing.{rule_number}
use Rattle.state_table.specs.Graphs.{GraphValue, IsGraphOf}
use Rattle.state_table.specs.TableValues.{TableValue}
use Rattle.state_table.specs.Tables.{HasCanonicalCause, IsRefusal, IsTableOf, Refusal, automaton_of}
use Rattle.parser_kit.specs.declared.grammar_kit_error.GrammarKitError.{GrammarKitError}
use Rattle.parser_kit.specs.declared.grammar_kit_error.GrammarKitError.TheVariants as errors

-- graph and table are the grammar's own, where indices go up to `top`, and no chain of reductions passes the cap
pub record IsTabled (top : ℕ) (d : ParserValue) : Type 0 where
  pub well_formed : WellFormed d.grammar.grammar
  pub states : StaysWithin d.grammar.grammar top
  pub graph : IsGraphOf d.grammar.grammar d.graph
  pub table : IsTableOf d.grammar d.graph d.table
  pub chains : ChainsWithin d.grammar.grammar (automaton_of d.graph d.table) d.cap

-- no string leaves a token accept and a reduction
abbrev pub NeverAcceptsAndReduces : Grammar → Type 0
NeverAcceptsAndReduces G = (w : List Sym) (t p : ℕ) → Contest G (Present G w) (Look G w) t accept (reduce p) → ⊥

-- the least chain of reductions that passes the cap in the grammar's table
pub record HasLeastChain (v : GrammarValue) (cap : ℕ) (c : Chain) : Type 0 where
  pub graph : GraphValue
  pub table : TableValue
  pub is_graph : IsGraphOf v.grammar graph
  pub is_table : IsTableOf v graph table
  pub least : IsLeastChain v.grammar (automaton_of graph table) cap c

-- what a refusal says: the first thing for which the grammar has no table; or of its table the least chain that passes the cap
abbrev pub IsTabledRefusal : {S : Type 0} → (S → ℕ) → ℕ → GrammarValue → ℕ → GrammarKitError S → Type 0
IsTabledRefusal number top v cap (errors.TooManyStates n) = IsRefusal top v (Refusal.states n)
IsTabledRefusal number top v cap (errors.AcceptReduce p) = IsRefusal top v (Refusal.told (number p.0))
IsTabledRefusal number top v cap errors.TooLarge = IsRefusal top v Refusal.cells
IsTabledRefusal number top v cap (errors.TooManyReductions s r t c) = (c ≡ cap) × StaysWithin v.grammar top × HasLeastChain v cap (record { state = number s.0; rule = rule_number number r; token = number t.0 })
IsTabledRefusal number top v cap (errors.Memory e) = Unit {0}

-- the same of canonical LR(1), with no word of how states are built
abbrev pub HasTabledCause : {S : Type 0} → (S → ℕ) → ℕ → GrammarValue → GrammarKitError S → Type 0
HasTabledCause number top v (errors.TooManyStates n) = HasCanonicalCause v.grammar top (Refusal.states n)
HasTabledCause number top v (errors.AcceptReduce p) = HasCanonicalCause v.grammar top (Refusal.told (number p.0))
HasTabledCause number top v errors.TooLarge = HasCanonicalCause v.grammar top Refusal.cells
HasTabledCause number top v (errors.TooManyReductions s r t c) = Unit {0}
HasTabledCause number top v (errors.Memory e) = Unit {0}
