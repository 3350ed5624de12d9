use Rattle.std.proofs.Common.{◌∙◌, sym, arith, vec_len}
use Rattle.std.proofs.lemmas.Bool.{eqb-true}
use Rattle.text_parses.proofs.NoErrors.{nil_of}
use Rattle.text_parses.proofs.OutlineTexts.{faultless}
use Rattle.text_parses.proofs.parsing.outline_of.Goals as goal

pub returns-then-is_empty-clause-parsed : goal.returns-then-is_empty-clause-parsed
returns-then-is_empty-clause-parsed c =
    let errors = c.in-Ok-Ok.errors in
    let none = nil_of errors.items (omega (arith, errors.ok.0, eqb-true (vec_len errors) 0 (sym c.is_empty.ensures ∙ c.if-is_empty.true))) in
    faultless c.args.kit.now.parser c.args.lexer.now.items c.args.edits c.in-Ok-Ok.outline errors.items none (rw (c.in-Ok-Ok.field-0-is, c.none-repairs.ensures) at c.in-Ok-Ok.ensures.parsed)
