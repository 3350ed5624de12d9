use Rattle.lrpar.specs.Made.{made_by}
use Rattle.lrpar.specs.NextTokens.{HasError}
use Rattle.lrpar.specs.Reducing.{stack_of}
use Rattle.parse_trees.specs.Lex.{token_by}
use Rattle.lrpar.proofs.NextTold.{after_all}
use Rattle.lrpar.proofs.next_tokens.told_behind.Goals as goal

pub returns-then-not-are_inside : goal.returns-then-not-are_inside
returns-then-not-are_inside g c =
    let h = rw c.if-not-are_inside.true at c.are_inside.ensures in
    HasError.outside h.0 h.1 h.2 h.3

pub returns-in_default : goal.returns-in_default
returns-in_default g c = rw c.in_default.is at c.in_ok-states.ensures.reaches

pub returns : goal.returns
returns g c =
    let x = c.args.machine.now.sgraph.now in
    let reached = rw c.in-Some.is at c.in_ok-states.ensures.reaches in
    after_all c.args.machine.now.grm.now.grammar c.args.machine.now.stable.now (token_by g.L.Lexeme.lex) c.args.machine.now.table c.args.lexemes.now (rw c.if-not-are_inside.false at c.are_inside.ensures) (made_by g.L.Lexeme.faulty_of g.L.Lexeme.lex 0) x
    (stack_of g.S.IndexStorage.number c.in-Some.states.items) c.in_ok-bits.bits c.args.machine.now.pair.safe reached (rw c.as_slice.ensures.value at (c.in_ok-bits.ensures x))
