use Rattle.parser_kit.proofs.kit.ParserKit.all_productive.Goals as goal

pub returns-clause-value : goal.returns-clause-value
returns-clause-value g c = rw (← c.self.view_is) c.all_productive.ensures.value

pub returns-clause-named : goal.returns-clause-named
returns-clause-named g c = rw (← c.self.view_is) c.all_productive.ensures.named
