use Rattle.lrkit_c.proofs.parsing.answer_lexed.Goals as goal

pub returns : goal.returns
returns c = record { found = c.parse_lexed-found.result; parsed = c.parse_lexed-found.ensures.parsed; refused = c.parse_lexed-found.ensures.refused; written = c.put_found-put.ensures }
