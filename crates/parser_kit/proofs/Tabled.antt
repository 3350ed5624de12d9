-- Kits of grammars: what is refused of their parts, and that there is one of a grammar.
use Rattle.std.proofs.Common.{◌≡◌, ◌↔◌, ℕ, Bool, true, false, refl, sym, ap, ◌∙◌, subst}
use Rattle.std.specs.Prelude.{IsTrue}
use Rattle.cfg_numbered.specs.Value.{GrammarValue}
use Rattle.cfg_theory.specs.Derivation.{AllProductive}
use Rattle.cfg_theory.specs.Grammar.{Grammar, WellFormed, rule}
use Rattle.lr_theory.specs.Chains.{ChainsWithin}
use Rattle.lr_theory.specs.Sizes.{StaysWithin}
use Rattle.lrpar.specs.Checked.{ParserValue}
use Rattle.state_table.specs.Graphs.{GraphValue, IsGraphOf}
use Rattle.state_table.specs.TableValues.{TableValue}
use Rattle.state_table.specs.Tables.{IsTableOf, automaton_of}
use Rattle.cfg_sets.specs.Productive.{EachProductive}
use Rattle.cfg_theory.specs.Decides.{Decides}
use Rattle.parser_kit.specs.Tabled.{IsTabled}

-- where each rule derives some text, so does each that a body names
pub named_productive : (G : Grammar) → WellFormed G → EachProductive G → AllProductive G
named_productive G good each p d A next = each A (good.symbols p d (rule A) next)

-- ---- answers

pub tells_iff : (P : Type 0) (b : Bool) → Decides P b → IsTrue b ↔ P
tells_iff P true h = ((λ e. h), (λ p. refl))
tells_iff P false h = ((λ e. absurd (false_true e)), (λ p. absurd (h p)))
  where
    false_true : ◌≡◌ {A = Bool} false true → ⊥
    false_true e = cc

pub is_tabled : (top cap : ℕ) (v : GrammarValue) (g : GraphValue) (u : TableValue) → WellFormed v.grammar → StaysWithin v.grammar top → IsGraphOf v.grammar g → IsTableOf v g u →
    (d : ParserValue) → d ≡ record { grammar = v; graph = g; table = u; cap = cap } → ChainsWithin v.grammar (automaton_of g u) cap → IsTabled top d
is_tabled top cap v g u good states is_graph is_table d e chains = subst (IsTabled top) (sym e) (record { well_formed = good; states = states; graph = is_graph; table = is_table; chains = chains })

-- ---- one kit

module _ (one_graph : (G : Grammar) (g h : GraphValue) → WellFormed G → IsGraphOf G g → IsGraphOf G h → g ≡ h)
    (one_table : (v : GrammarValue) (g : GraphValue) (t u : TableValue) → WellFormed v.grammar → IsTableOf v g t → IsTableOf v g u → t ≡ u)
    (top top' : ℕ) (k l : ParserValue) (x : IsTabled top k) (y : IsTabled top' l) (same_grammar : k.grammar ≡ l.grammar) (same_cap : k.cap ≡ l.cap) where
  same_graph : k.graph ≡ l.graph
  same_graph = one_graph l.grammar.grammar k.graph l.graph y.well_formed (subst (λ (v : GrammarValue). IsGraphOf v.grammar k.graph) same_grammar x.graph) y.graph

  table_here : IsTableOf l.grammar l.graph k.table
  table_here = subst (λ g. IsTableOf l.grammar g k.table) same_graph (subst (λ v. IsTableOf v k.graph k.table) same_grammar x.table)

  same_table : k.table ≡ l.table
  same_table = one_table l.grammar l.graph k.table l.table y.well_formed table_here y.table

  pub one_kit : k ≡ l
  one_kit =
      let of : GrammarValue → GraphValue → TableValue → ℕ → ParserValue = λ v g t n. record { grammar = v; graph = g; table = t; cap = n } in
      ap (λ v. of v k.graph k.table k.cap) same_grammar ∙ (ap (λ g. of l.grammar g k.table k.cap) same_graph ∙ (ap (λ t. of l.grammar l.graph t k.cap) same_table ∙ ap (λ n. of l.grammar l.graph l.table n) same_cap))
