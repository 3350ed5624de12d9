use Rattle.std.proofs.Common.{sym, ◌∙◌, arith, vec_len}
use Rattle.std.proofs.lemmas.Bool.{eqb-true}
use Rattle.lrkit.proofs.Faultless.{faultless, none_of}
use Rattle.lrkit.proofs.answering.outline_of.Goals as goal

pub returns-then-is_empty : goal.returns-then-is_empty
returns-then-is_empty c =
    let errors = c.in-Ok-Ok.errors in
    let none = none_of errors.items (omega (arith, errors.ok.0, eqb-true (vec_len errors) 0 (sym c.is_empty.ensures ∙ c.if-is_empty.true))) in
    let parse = rw c.in-Ok-Ok.field-0-is at c.in-Ok-Ok.ensures.parsed in
    faultless c.args.kit.now c.args.repairs.now c.args.read.now c.in-Ok-Ok.outline errors.items none parse
