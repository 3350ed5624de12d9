use Rattle.grammar_report.proofs.faults.named_words.Goals as goal

pub returns : goal.returns
returns c = (c.part-name.result.now, rw (c.start.ensures.value, c.end.ensures.value) at c.part-name.ensures, c.in_ok-words.ensures.ok)
