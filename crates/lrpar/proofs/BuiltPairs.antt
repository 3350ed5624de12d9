-- A pair that was made of a grammar is safe for it, and without precedences complete where no conflict is listed.
use Rattle.std.proofs.Common.{ℕ, ◌↔◌, Bool, Option, sym, subst}
use Rattle.std.specs.Prelude.{IsNone, IsTrue}
use Rattle.cfg_theory.specs.Grammar.{WellFormed}
use Rattle.cfg_numbered.specs.Value.{GrammarValue}
use Rattle.lr_theory.specs.Automaton.{Complete}
use Rattle.lr_theory.proofs.TableLaws.{automaton_is_safe}
use Rattle.table_theory.specs.Cells.{Conflicts, NoPrecedences}
use Rattle.table_theory.proofs.TableCells.{built_law, list_law}
use Rattle.state_table.specs.CellViews.{precedences_of}
use Rattle.state_table.specs.Graphs.{GraphValue}
use Rattle.state_table.specs.TableValues.{TableValue}
use Rattle.state_table.specs.Tables.{CountsAgree, IsTableOf, automaton_of}
use Rattle.lrpar.specs.Pair.{IsSafePair}
use Rattle.lrpar.specs.Safety.{PairCell, counts, items, on_token, on_rule, AllFit, CellFits, IsLeastMisfit}
use Rattle.cfg_theory.specs.Decides.{Decides}
use Rattle.lrpar.proofs.Completed.{tells_both}
use Rattle.lrpar.proofs.SafePairs.{fitting_pairs_are_safe}

module _ (v : GrammarValue) (g : GraphValue) (t : TableValue) (good : WellFormed v.grammar) (is : IsTableOf v g t) where
  pub built_is_safe : IsSafePair v.grammar g t
  built_is_safe = record {
    counts = is.counts;
    safe = automaton_is_safe.safe v.grammar (automaton_of g t) good (built_law.automaton v.grammar (precedences_of v) (automaton_of g t) good is.built);
  }

  all_fit : AllFit v.grammar (automaton_of g t)
  all_fit = (fitting_pairs_are_safe.safe v.grammar (automaton_of g t)).1 built_is_safe.safe

  cell_fits : (s : ℕ) (c : PairCell) → CellFits (CountsAgree v.grammar g t) v.grammar (automaton_of g t) s c
  cell_fits s counts = λ _. is.counts
  cell_fits s items = (all_fit s).0
  cell_fits s (on_token u) = (all_fit s).1 u
  cell_fits s (on_rule A) = (all_fit s).2 A

  -- so nowhere is one that doesn't fit
  pub no_misfit : (s : ℕ) (c : PairCell) → IsLeastMisfit (CountsAgree v.grammar g t) v.grammar (automaton_of g t) s c → ⊥
  no_misfit s c least = least.misfit (cell_fits s c)

  unlisted : NoPrecedences (precedences_of v) → Complete v.grammar (automaton_of g t) ↔ IsNone t.conflicts
  unlisted bare = subst (λ (o : Option Conflicts). Complete v.grammar (automaton_of g t) ↔ IsNone o) (sym is.conflicts) (list_law.unlisted v.grammar (precedences_of v) (automaton_of g t) good is.built bare)

  -- and an answer to whether it is complete is one to whether no conflict is listed
  pub complete_tells : (b : Bool) → Decides (Complete v.grammar (automaton_of g t)) b → NoPrecedences (precedences_of v) → IsTrue b ↔ IsNone t.conflicts
  complete_tells b tells bare =
      let told = tells_both (Complete v.grammar (automaton_of g t)) b tells in
      let lists = unlisted bare in
      (λ yes. lists.0 (told.0 yes), λ none. told.1 (lists.1 none))
