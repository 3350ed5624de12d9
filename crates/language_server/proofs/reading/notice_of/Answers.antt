use Rattle.language_server.proofs.reading.notice_of.Goals as goal

pub returns-in_default : goal.returns-in_default
returns-in_default c = (c.in_default.not-exit, c.in_default.not-text, c.in_default.not-text-2, c.in_default.not-text-3)
