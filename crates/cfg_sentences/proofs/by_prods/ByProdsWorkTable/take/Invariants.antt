use Rattle.std.proofs.Common.{◌≡◌, ℕ, ◌+◌, ◌<◌, ◌≤◌, ◌⊎◌, length}
use Rattle.cfg_sets.specs.WorkLists.{NamesOne, StandsFrom}
use Rattle.cfg_sentences.proofs.by_prods.ByProdsWorkTable.take.Given as goal

abbrev pub invariant-prods : goal.invariant-prods
invariant-prods g l = record {
  grammar : g.T.ProdTable.grammar l.self.table ≡ g.T.ProdTable.grammar l.initial.self.table;
  same : g.T.ProdTable.is_of_same l.initial.self.table l.self.table;
  naming : l.self.naming.now ≡ l.initial.self.naming.now;
  sound : g.T.ProdTable.is_sound l.self.table;
  work : l.work.rules ≡ (g.T.ProdTable.grammar l.initial.self.table).rules;
  closed : (p : ℕ) → p < length (g.T.ProdTable.grammar l.initial.self.table).productions → (g.T.ProdTable.is_closed_by l.self.table p ⊎ NamesOne (g.T.ProdTable.grammar l.initial.self.table) l.work.list p) ⊎ StandsFrom l.named l.index p;
  room : g.T.ProdTable.room l.self.table + length l.work.list ≤ g.T.ProdTable.room l.initial.self.table + length l.initial.work.list;
}
