use Rattle.grammar_index.proofs.mending.read_most.Goals as goal

pub returns-in-Ok : goal.returns-in-Ok
returns-in-Ok c = λ x reads. c.one_reading.ensures.readings _ _ _ _ _ c.in-Ok.ensures.ok reads

pub returns : goal.returns
returns c = λ x reads. absurd (c.one_reading.ensures.apart c.args.kind c.args.text.now c.args.start x c.in-Err-Fault.field-0-0 c.in-Err-Fault.fault reads (rw c.in-Err-Fault.field-0-is at c.in-Err-Fault.ensures.err))
