use Rattle.parser_kit.proofs.grammar_kit.GrammarKit.conflicts.Goals as goal

pub returns-clause-exact : goal.returns-clause-exact
returns-clause-exact g c = c.conflicts_are_canonical.ensures.exact c.args.self.now.grammar c.args.self.now.graph c.args.self.now.table c.stays_tabled.ensures.well_formed c.stays_tabled.ensures.table

pub returns-clause-contested : goal.returns-clause-contested
returns-clause-contested g c = c.conflicts_are_canonical.ensures.contested c.args.self.now.grammar c.args.self.now.graph c.args.self.now.table c.stays_tabled.ensures.well_formed c.stays_tabled.ensures.table
