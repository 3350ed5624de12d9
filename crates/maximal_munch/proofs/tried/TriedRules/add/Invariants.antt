use Rattle.std.proofs.Common.{◌≡◌, ℕ, ◌<◌, ◌≤◌, true, false, length, get_or}
use Rattle.maximal_munch.specs.Beginnings.{rows_of, is_tried, KeepsTried}
use Rattle.maximal_munch.proofs.tried.TriedRules.add.Given as goal

abbrev pub invariant-bytes : goal.invariant-bytes
invariant-bytes l = record {
  keeps : KeepsTried (rows_of l.fn.self) (rows_of l.self);
  wide : 256 ≤ length (rows_of l.self);
  adds : (b : ℕ) → b < l.byte → get_or l.first b false ≡ true → is_tried (rows_of l.self) b l.rule ≡ true;
}
