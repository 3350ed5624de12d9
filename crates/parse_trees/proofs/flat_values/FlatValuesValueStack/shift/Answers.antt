use Rattle.std.proofs.Common.{refl, arith}
use Rattle.parse_trees.specs.Lex.{span_by}
use Rattle.parse_trees.specs.FlatTrees.{pieces_of, term}
use Rattle.parse_trees.proofs.FlatSpans.{stand_shifted, start_put}
use Rattle.parse_trees.proofs.flat_values.FlatValuesValueStack.shift.Goals as goal

pub returns-clause-stands : goal.returns-clause-stands
returns-clause-stands g c = λ G ts h.
    stand_shifted (span_by g.L.Lexeme.lex) ts (pieces_of g.S.IndexStorage.number c.args.self.now.builder.nodes.items) c.args.self.now.builder.ends.items h _ _ c.args.lexeme (g.L.Lexeme.lex c.args.lexeme).places (c.in_ok-shift.ensures.stack ts h.flat) refl c.requires.start

pub returns-clause-start : goal.returns-clause-start
returns-clause-start g c =
    rw c.in_ok-shift.ensures.put
    (start_put (span_by g.L.Lexeme.lex) (pieces_of g.S.IndexStorage.number c.args.self.now.builder.nodes.items) (term c.args.lexeme) (g.L.Lexeme.lex c.args.lexeme).places.start c.requires.start (omega arith))
