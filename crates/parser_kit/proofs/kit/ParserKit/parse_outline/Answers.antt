use Rattle.parser_kit.proofs.kit.ParserKit.parse_outline.Goals as goal

pub returns-clause-parsed : goal.returns-clause-parsed
returns-clause-parsed g c = rw c.kit.ensures at c.parse_outline.ensures.parsed

pub returns-clause-refused : goal.returns-clause-refused
returns-clause-refused g c = rw c.kit.ensures at c.parse_outline.ensures.refused
