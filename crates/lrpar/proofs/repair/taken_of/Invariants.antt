use Rattle.std.proofs.Common.{drop}
use Rattle.lrpar.specs.Reducing.{stack_of}
use Rattle.parse_trees.specs.Lex.{token_by}
use Rattle.parse_trees.specs.Edits.{sequences_of}
use Rattle.lrpar.specs.Taking.{ListTells}
use Rattle.lrpar.proofs.repair.taken_of.Given as goal

abbrev pub invariant-sequences : goal.invariant-sequences
invariant-sequences g l = ListTells g.S.IndexStorage.MAX l.machine.grm.now.grammar l.machine.stable.now (token_by g.L.Lexeme.lex) (stack_of g.S.IndexStorage.number l.base) (drop l.index l.lexemes) (sequences_of g.S.IndexStorage.number l.yielded) (sequences_of g.S.IndexStorage.number l.taken.items)
