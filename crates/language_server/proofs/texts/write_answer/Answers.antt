use Rattle.language_server.proofs.texts.write_answer.Goals as goal

pub returns-in-Initialized : goal.returns-in-Initialized
returns-in-Initialized g c = rw c.in-Initialized.is c.write_begun.ensures
