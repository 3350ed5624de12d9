use Rattle.std.proofs.Common.{take}
use Rattle.parse_trees.specs.Lexemes.{lexemes_of}
use Rattle.parse_trees.proofs.LexemeLists.{first_fault, one_more, all_are}
use Rattle.parse_trees.proofs.lexeme_list.read_list.Goals as goal

pub items-preserved : goal.items-preserved
items-preserved g c = one_more c.args.items.now c.items.index c.in_default.field-0 _ c.items.invariant c.items-test.true c.in_default.is

pub invariant_of-result : goal.invariant_of-result
invariant_of-result g c = all_are c.args.items.now c.items.index c.items.invariant c.items-test.false

pub returns-in-Err : goal.returns-in-Err
returns-in-Err g c = first_fault c.args.items.now c.items.index (lexemes_of (take c.items.index c.args.items.now)) c.in-Err.e _ c.items.invariant c.items-test.true c.in-Err.is
