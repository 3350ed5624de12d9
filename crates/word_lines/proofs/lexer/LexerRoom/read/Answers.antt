use Rattle.word_lines.proofs.TakenLexemes.{taken_inside, inside_not_refused}
use Rattle.word_lines.proofs.lexer.LexerRoom.read.Goals as goal

pub returns-clause-taken : goal.returns-clause-taken
returns-clause-taken g c = taken_inside g.S.IndexStorage.number g.S.IndexStorage.of_number c.args.grm.now c.args.line.now _ c.in_ok-items.ensures.items c.in_ok-items.ensures.inside

pub returns-clause-not_refused : goal.returns-clause-not_refused
returns-clause-not_refused g c = inside_not_refused g.S.IndexStorage.number g.S.IndexStorage.of_number c.args.grm.now c.args.line.now _ c.in_ok-items.ensures.items c.in_ok-items.ensures.inside
