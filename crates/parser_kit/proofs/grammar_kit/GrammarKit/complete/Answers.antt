use Rattle.parser_kit.proofs.grammar_kit.GrammarKit.complete.Goals as goal

pub returns-clause-unlisted : goal.returns-clause-unlisted
returns-clause-unlisted g c =
    let told = rw c.parser_data.ensures at c.complete.ensures.listed in
    told c.stays_tabled.ensures.table
