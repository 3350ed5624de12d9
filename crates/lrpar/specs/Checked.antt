-- The checked data of a parser, and the refusals.
use Rattle.std.specs.Prelude.{◌≡◌, ℕ}
use Rattle.cfg_theory.specs.Grammar.{Grammar}
use Rattle.lr_theory.specs.Chains.{ChainsWithin}
use Rattle.lr_theory.specs.LongChains.{IsLeastChain}
use Rattle.cfg_numbered.specs.Value.{GrammarValue}
use Rattle.state_table.specs.Graphs.{GraphValue}
use Rattle.state_table.specs.TableValues.{TableValue}
use Rattle.state_table.specs.Tables.{CountsAgree, automaton_of}
use Rattle.lrpar.specs.Pair.{IsSafePair}
use Rattle.lrpar.specs.Reducing.{IsTableFor, chain_of, rule_number}
use Rattle.lrpar.specs.Safety.{IsLeastMisfit}
use Rattle.lrpar.specs.Fitting.{cell_of}
use Rattle.lrpar.specs.declared.parserdata.Verdict.{Verdict}
use Rattle.lrpar.specs.declared.parserdata.Verdict.TheVariants as verdicts
use Rattle.lrpar.specs.declared.parserdata.Parts.{Parts}
use Rattle.lrpar.specs.declared.parserdata.BuiltDataError.{BuiltDataError}
use Rattle.lrpar.specs.declared.parserdata.BuiltDataError.TheVariants as built_errors
use Rattle.lrpar.specs.declared.parserdata.ParserDataError.{ParserDataError}
use Rattle.lrpar.specs.declared.parserdata.ParserDataError.TheVariants as errors

-- a grammar, a graph and a table that fit it, and the cap that its chains of reductions are within
pub record ParserValue : Type 0 where
  pub grammar : GrammarValue
  pub graph : GraphValue
  pub table : TableValue
  pub cap : ℕ

-- what is so of checked data; of chains it is so with each graph, since machines read cells alone
pub record IsData (G : Grammar) (g : GraphValue) (v : TableValue) (cap : ℕ) : Type 0 where
  pub pair : IsSafePair G g v
  pub table : IsTableFor G v
  pub chains : (x : GraphValue) → ChainsWithin G (automaton_of x v) cap

-- what a check of the three comes to
abbrev pub TellsVerdict : {S : Type 0} → (S → ℕ) → Grammar → GraphValue → TableValue → ℕ → Verdict S → Type 0
TellsVerdict number G g v cap verdicts.Checked = IsData G g v cap
TellsVerdict number G g v cap (verdicts.Unsafe m) = IsLeastMisfit (CountsAgree G g v) G (automaton_of g v) (number m.state.0) (cell_of number m.cell)
TellsVerdict number G g v cap (verdicts.Long c) = IsSafePair G g v × IsLeastChain G (automaton_of g v) cap (chain_of number c)

-- the three parts that were handed in
abbrev pub AreParts : {S : Type 0} → GrammarValue → GraphValue → TableValue → Parts S → Type 0
AreParts v g t parts = (parts.grm ≡ v) × (parts.sgraph ≡ g) × (parts.stable ≡ t)

-- what a refusal says: the pair isn't safe, and where first, or a chain passes the cap, and which is the least
abbrev pub IsDataRefusal : {S : Type 0} → (S → ℕ) → GrammarValue → GraphValue → TableValue → ℕ → ParserDataError S → Type 0
IsDataRefusal number v g t limit (errors.UnsafeTable state cell parts) = IsLeastMisfit (CountsAgree v.grammar g t) v.grammar (automaton_of g t) (number state.0) (cell_of number cell) × AreParts v g t parts
IsDataRefusal number v g t limit (errors.TooManyReductions state above on cap parts) = IsSafePair v.grammar g t × IsLeastChain v.grammar (automaton_of g t) limit (record { state = number state.0; rule = rule_number number above; token = number on.0 }) × (cap ≡ limit) × AreParts v g t parts
IsDataRefusal number v g t limit (errors.Memory e) = Unit {0}

-- it says that the pair isn't safe
abbrev pub IsUnsafeTable : {S : Type 0} → ParserDataError S → Type 0
IsUnsafeTable (errors.UnsafeTable state cell parts) = Unit {0}
IsUnsafeTable (errors.TooManyReductions state above on cap parts) = ⊥
IsUnsafeTable (errors.Memory e) = ⊥

-- why a safe pair gives no data: a chain passes the cap, and which is the least
abbrev pub IsBuiltRefusal : {S : Type 0} → (S → ℕ) → Grammar → GraphValue → TableValue → ℕ → BuiltDataError S → Type 0
IsBuiltRefusal number G g t cap (built_errors.TooManyReductions c) = IsLeastChain G (automaton_of g t) cap (chain_of number c)
IsBuiltRefusal number G g t cap (built_errors.Memory e) = Unit {0}
