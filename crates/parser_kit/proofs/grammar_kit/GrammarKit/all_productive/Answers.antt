use Rattle.parser_kit.proofs.Tabled.{named_productive, tells_iff}
use Rattle.parser_kit.proofs.grammar_kit.GrammarKit.all_productive.Goals as goal

pub returns-clause-value : goal.returns-clause-value
returns-clause-value g c = tells_iff _ c.tells_productive.result c.tells_productive.ensures

pub returns-clause-named : goal.returns-clause-named
returns-clause-named g c = λ e. named_productive c.args.self.now.grammar.grammar c.stays_tabled.ensures.well_formed ((tells_iff _ c.tells_productive.result c.tells_productive.ensures).0 e)
