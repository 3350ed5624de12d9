-- What is left is what the other productions may have.
use Rattle.std.proofs.Common.{◌≡◌, ◌+◌, drop, map}
use Rattle.cfg_read.specs.AstModels.{production_of}
use Rattle.grammar_report.specs.Messages.{size_of}
use Rattle.grammar_report.proofs.large.are_many.Given as goal

abbrev pub invariant-productions : goal.invariant-productions
invariant-productions l = size_of (map production_of l.prods) + l.left ≡ size_of (map production_of (drop l.prod-index l.prods)) + l.most
