use Rattle.std.proofs.Common.{sym, ◌∙◌, arith, vec_len}
use Rattle.std.proofs.lemmas.Bool.{eqb-true}
use Rattle.text_parses.proofs.NoErrors.{nil_of, tree_without_errors}
use Rattle.text_parses.proofs.parsing.has_no_error.Goals as goal

pub returns-in-Ok-clause-parsed : goal.returns-in-Ok-clause-parsed
returns-in-Ok-clause-parsed c = λ well.
    let errors = c.in-Ok.errors in
    let none = nil_of errors.items (omega (arith, errors.ok.0, eqb-true (vec_len errors) 0 (sym c.is_empty.ensures ∙ well))) in
    let tabled = rw c.kit.ensures at c.stays_tabled.ensures in
    let same = c.recoverer-parser.ensures.same ∙ c.new.ensures ∙ c.parser_data.ensures in
    let told = rw (same, c.recoverer-parser.ensures.recoverer) at c.in-Ok.ensures.parsed in
    tree_without_errors _ _ tabled _ _ _ _ _ _ _ told.0 errors.items none told.1
