use Rattle.std.proofs.Common.{arith}
use Rattle.parse_trees.specs.Lex.{token_by}
use Rattle.lrpar.proofs.NextTold.{inside_more}
use Rattle.lrpar.proofs.Turning.{slice_read}
use Rattle.lrpar.proofs.next_tokens.are_inside.Goals as goal

pub lexemes-init : goal.lexemes-init
lexemes-init g c = λ k y lt e. absurd (omega (arith, lt))

pub lexemes-preserved : goal.lexemes-preserved
lexemes-preserved g c =
    let y = c.index-lexemes-index.result in
    let at = slice_read c.args.lexemes.now c.lexemes.index y c.lexemes-test.true c.index-lexemes-index.is in
    let is = c.tok_id.ensures in
    let value = c.to_usize.ensures.value in
    let lt = c.if-to_usize-end.false in
    inside_more c.to_usize-end.result (token_by g.L.Lexeme.lex) c.args.lexemes.now c.lexemes.index y at (omega (arith, is, value, lt)) c.lexemes.invariant
