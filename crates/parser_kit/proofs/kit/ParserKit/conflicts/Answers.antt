use Rattle.parser_kit.proofs.kit.ParserKit.conflicts.Goals as goal

pub returns-clause-value : goal.returns-clause-value
returns-clause-value g c = rw c.kit.ensures at c.conflicts.ensures.value

pub returns-clause-exact : goal.returns-clause-exact
returns-clause-exact g c =
    let exact = rw c.kit.ensures at c.conflicts.ensures.exact in
    λ none. exact (c.stays_without_precedences.ensures none)

pub returns-clause-contested : goal.returns-clause-contested
returns-clause-contested g c = rw c.kit.ensures at c.conflicts.ensures.contested
