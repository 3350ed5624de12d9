use Rattle.std.proofs.Common.{length, sym, subst}
use Rattle.cfg_theory.specs.Grammar.{Grammar}
use Rattle.cfg_sets.specs.WorkLists.{ListsNaming}
use Rattle.cfg_sets.specs.Orders.{IsOrder}
use Rattle.cfg_sentences.specs.CostTable.{cost_of}
use Rattle.cfg_sentences.proofs.NarrowSteps.{none_skipped}
use Rattle.cfg_sentences.proofs.sentences.max_cost.greatest_tables.Goals as goal

pub new-costly-requires-clause-table : goal.new-costly-requires-clause-table
new-costly-requires-clause-table g c =
    none_skipped c.args.tokens.now.grammar (cost_of c.args.tokens.now.costs) c.to_usize.result c.in_ok-none.none.bits c.in_ok-table.table.items c.in_ok-none.ensures.bits c.in_ok-table.ensures.table

pub unbounded_rules-requires-clause-naming : goal.unbounded_rules-requires-clause-naming
unbounded_rules-requires-clause-naming g c = subst (λ (G : Grammar). ListsNaming G (length G.productions) c.args.naming.now) (sym c.new-costly.ensures.grammar) c.requires.naming

pub unbounded_rules-requires-clause-order : goal.unbounded_rules-requires-clause-order
unbounded_rules-requires-clause-order g c = subst (λ (G : Grammar). IsOrder (length G.productions) c.args.order.now) (sym c.new-costly.ensures.grammar) c.requires.order
