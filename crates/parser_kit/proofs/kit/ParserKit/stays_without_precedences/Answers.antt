use Rattle.parser_kit.proofs.Undeclared.{undeclared}
use Rattle.parser_kit.proofs.kit.ParserKit.stays_without_precedences.Goals as goal

pub returns : goal.returns
returns g c = undeclared c.args.self.now c.stays_kit.ensures c.trees_without_precedences_make_grammars_without.ensures c.precedences_are_kept.ensures
