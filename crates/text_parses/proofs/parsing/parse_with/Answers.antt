use Rattle.std.proofs.Common.{◌≡◌, ◌∙◌, length, sym, arith, vec_len}
use Rattle.std.proofs.lemmas.Bool.{eqb-true}
use Rattle.text_parses.proofs.NoErrors.{has_tree, nil_of}
use Rattle.text_parses.proofs.parsing.parse_with.Goals as goal

pub returns-in-Some-clause-parsed : goal.returns-in-Some-clause-parsed
returns-in-Some-clause-parsed c =
    let errors = c.in-Ok-Ok.errors in
    let none : length errors.items ≡ 0 = omega (arith, errors.ok.0, eqb-true (vec_len errors) 0 (sym c.is_empty.ensures ∙ c.if-not-is_empty.false)) in
    rw (c.in-Ok-Ok.field-0-is, c.in-Some.is, nil_of errors.items none) at c.in-Ok-Ok.ensures.parsed

pub unreachable-requires : goal.unreachable-requires
unreachable-requires c =
    let errors = c.in-Ok-Ok.errors in
    let none : length errors.items ≡ 0 = omega (arith, errors.ok.0, eqb-true (vec_len errors) 0 (sym c.is_empty.ensures ∙ c.if-not-is_empty.false)) in
    has_tree _ _ _ _ _ _ _ (rw (c.in-Ok-Ok.field-0-is, c.in-None.is) at c.in-Ok-Ok.ensures.parsed) (nil_of errors.items none)
