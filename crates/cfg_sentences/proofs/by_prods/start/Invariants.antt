use Rattle.std.proofs.Common.{◌≡◌, ℕ, ◌+◌, ◌<◌, ◌≤◌, ◌⊎◌, length}
use Rattle.cfg_sets.specs.WorkLists.{NamesOne, StandsFrom}
use Rattle.cfg_sentences.proofs.by_prods.start.Given as goal

abbrev pub invariant-prods : goal.invariant-prods
invariant-prods g l = record {
  grammar : g.T.ProdTable.grammar l.table ≡ g.T.ProdTable.grammar l.initial.table;
  same : g.T.ProdTable.is_of_same l.initial.table l.table;
  sound : g.T.ProdTable.is_sound l.table;
  work : l.work.rules ≡ l.initial.work.rules;
  closed : (p : ℕ) → p < length (g.T.ProdTable.grammar l.initial.table).productions → (g.T.ProdTable.is_closed_by l.table p ⊎ NamesOne (g.T.ProdTable.grammar l.initial.table) l.work.list p) ⊎ StandsFrom l.order l.index p;
  room : g.T.ProdTable.room l.table + length l.work.list ≤ g.T.ProdTable.room l.initial.table + length l.initial.work.list;
}
