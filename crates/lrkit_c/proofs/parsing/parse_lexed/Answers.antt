use Rattle.std.proofs.Common.{sym, ◌∙◌}
use Rattle.lrkit_c.proofs.parsing.parse_lexed.Goals as goal

pub returns-in-Some-tree-clause-parsed : goal.returns-in-Some-tree-clause-parsed
returns-in-Some-tree-clause-parsed c =
    let parse = rw (c.in-Ok-Ok.field-0-is, c.in-Some-tree.is) at c.in-Ok-Ok.ensures.parsed in
    record { errors = c.in-Ok-Ok.errors.items; parse = parse; first_is = sym (rw c.as_slice.ensures.value at c.first_lexeme-first.ensures) ∙ c.in-None.is }
