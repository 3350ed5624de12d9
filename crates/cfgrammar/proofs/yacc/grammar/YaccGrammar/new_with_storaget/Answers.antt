use Rattle.cfgrammar.proofs.FromAstTexts.{text_memory}
use Rattle.cfgrammar.proofs.yacc.grammar.YaccGrammar.new_with_storaget.Goals as goal

pub returns-in-Err : goal.returns-in-Err
returns-in-Err g c = text_memory g.S.IndexStorage.MAX c.args.kind c.args.text.now c.in-Err.e (c.one_file.ensures.some c.args.kind c.args.text.now)
