use Rattle.std.proofs.Common.{◌≡◌, ◌++◌, drop}
use Rattle.lrlex.specs.Lexing.{items_of}
use Rattle.lrlex.proofs.bound.push_items.Given as goal

abbrev pub invariant-parts : goal.invariant-parts
invariant-parts g l = l.fn.items.items ++ items_of l.meanings l.parts l.ending ≡ l.items.items ++ items_of l.meanings (drop l.part-index l.parts) l.ending
