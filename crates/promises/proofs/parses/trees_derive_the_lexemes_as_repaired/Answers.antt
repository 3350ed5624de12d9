use Rattle.promises.proofs.parses.trees_derive_the_lexemes_as_repaired.Goals as goal

pub returns-clause-parsed : goal.returns-clause-parsed
returns-clause-parsed g c = c.parse_flat.ensures.parsed
