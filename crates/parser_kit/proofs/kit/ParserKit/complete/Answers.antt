use Rattle.parser_kit.proofs.kit.ParserKit.complete.Goals as goal

pub returns-clause-value : goal.returns-clause-value
returns-clause-value g c = rw c.kit.ensures at c.complete.ensures.value

pub returns-clause-unlisted : goal.returns-clause-unlisted
returns-clause-unlisted g c =
    let unlisted = rw c.kit.ensures at c.complete.ensures.unlisted in
    λ none. unlisted (c.stays_without_precedences.ensures none)
