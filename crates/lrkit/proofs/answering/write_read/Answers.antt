use Rattle.lrkit.proofs.answering.write_read.Goals as goal

pub write_lexed-requires-clause-not_refused : goal.write_lexed-requires-clause-not_refused
write_lexed-requires-clause-not_refused g c = rw c.in_ok-lexer.ensures.items c.requires.not_refused
