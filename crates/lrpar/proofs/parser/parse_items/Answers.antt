use Rattle.std.proofs.Common.{subst}
use Rattle.parse_trees.specs.Refusals.{Admits}
use Rattle.lrpar.proofs.parser.parse_items.Goals as goal

pub returns-in-Ok-parse_lexemes-clause-parsed : goal.returns-in-Ok-parse_lexemes-clause-parsed
returns-in-Ok-parse_lexemes-clause-parsed g c =
    let G = c.args.machine.now.grm.now.grammar in
    let lex = g.L.Lexeme.lex in
    let h = subst (Admits G lex c.args.items.now) c.in-Ok.is c.in_ok-lexemes.ensures.admitted in
    (h.0, h.1, c.in-Ok-parse_lexemes.ensures.parse)
