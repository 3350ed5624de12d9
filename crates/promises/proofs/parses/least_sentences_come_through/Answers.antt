use Rattle.lrpar.specs.FlatParses.{HasFlat}
use Rattle.parse_trees.specs.Lex.{span_by}
use Rattle.promises.proofs.LeastSentences.{least_come, least_of_start_come}
use Rattle.promises.proofs.parses.least_sentences_come_through.Goals as goal

pub returns-clause-start_symbol : goal.returns-clause-start_symbol
returns-clause-start_symbol g c = λ none unlisted A cost lexemes start are least.
    let lex = g.T.LexemeT.Lexeme.lex in
    least_come lex (λ v. HasFlat (span_by lex) v) c.parse_flat.result (c.parse_flat.ensures.sentences none unlisted) A cost lexemes start are least

pub returns-clause-start_rule : goal.returns-clause-start_rule
returns-clause-start_rule g c = λ none unlisted cost lexemes are least.
    let lex = g.T.LexemeT.Lexeme.lex in
    let G = c.args.kit.now.parser.grammar.grammar in
    let good = c.stays_kit.ensures.is_of.tabled.well_formed in
    least_of_start_come lex (λ v. HasFlat (span_by lex) v) (λ w. (c.well_formed_has_start.ensures.sentences G w good).1) c.parse_flat.result (c.parse_flat.ensures.sentences none unlisted) cost lexemes are least
