use Rattle.lrkit_c.proofs.parsing.answer_lexemes.Goals as goal

pub returns : goal.returns
returns c = record { found = c.parse_lexemes-found.result; parsed = c.parse_lexemes-found.ensures.parsed; refused = c.parse_lexemes-found.ensures.refused; written = c.put_found-put.ensures }
