use Rattle.cfg_read.proofs.PlainLemmas.{plain_reads, plain_fresh}
use Rattle.cfg_read.proofs.yacc.parser.laws.old_texts_read_the_same.Goals as goal

pub returns-clause-reads : goal.returns-clause-reads
returns-clause-reads c = plain_reads

pub returns-clause-fresh : goal.returns-clause-fresh
returns-clause-fresh c = plain_fresh
