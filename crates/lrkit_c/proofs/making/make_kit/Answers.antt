use Rattle.lrkit_c.proofs.making.make_kit.Goals as goal

pub returns-in-Ok-grammar_message : goal.returns-in-Ok-grammar_message
returns-in-Ok-grammar_message c =
    record { kit = tt; refused = record { e = c.in-Err.refusal; has_cause = c.is_memory-memory.ensures c.if-memory.false; refused = rw c.in-Ok.ensures.cases.0 at c.in-Err.ensures.refused } }
