use Rattle.parse_trees.specs.Lex.{span_by}
use Rattle.lrpar.proofs.Valued.{value_folded}
use Rattle.lrpar.proofs.folded_parse.value_left.Goals as goal

pub returns-then-accepted : goal.returns-then-accepted
returns-then-accepted g c = λ G tree h. value_folded _ _ G _ (span_by g.L.Lexeme.lex) _ _ c.folded_value.result c.args.accepted c.if-accepted.true (c.folded_value.ensures G) tree h
