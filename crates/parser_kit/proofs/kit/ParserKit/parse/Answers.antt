use Rattle.parser_kit.proofs.kit.ParserKit.parse.Goals as goal

pub returns-clause-parsed : goal.returns-clause-parsed
returns-clause-parsed g c = rw c.kit.ensures at c.parse_map.ensures.parsed

pub returns-clause-refused : goal.returns-clause-refused
returns-clause-refused g c = rw c.kit.ensures at c.parse_map.ensures.refused

pub returns-clause-sentences : goal.returns-clause-sentences
returns-clause-sentences g c =
    let sentences = rw c.kit.ensures at c.parse_map.ensures.sentences in
    λ none. sentences (c.stays_without_precedences.ensures none)

pub returns-clause-traceless : goal.returns-clause-traceless
returns-clause-traceless g c =
    let traceless = rw c.kit.ensures at c.parse_map.ensures.traceless in
    λ none. traceless (c.stays_without_precedences.ensures none)
