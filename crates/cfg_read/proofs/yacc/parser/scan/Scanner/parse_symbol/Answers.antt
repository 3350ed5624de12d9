use Rattle.std.proofs.Common.{◌≡◌, true, false, sym, ◌∙◌}
use Rattle.cfg_read.specs.Reading.{here, symbol}
use Rattle.cfg_read.specs.SyntaxErrors.{symbol_after_empty, late_symbol}
use Rattle.cfg_base.specs.Text.{is_at}
use Rattle.cfg_read.specs.SyntaxUpdates.{mark_end}
use Rattle.cfg_read.proofs.Symbols.{is_marked, ends_behind}
use Rattle.cfg_read.proofs.Chains.{one, and_stops}
use Rattle.cfg_read.proofs.yacc.parser.scan.Scanner.parse_symbol.Goals as goal
use Rattle.cfg_read.proofs.yacc.parser.scan.Scanner.parse_symbol.Goals.{then-is_optional, else-is_optional}

pub returns-then-draft-clause-err : goal.returns-then-draft-clause-err
returns-then-draft-clause-err c = λ r x. and_stops here (symbol_after_empty c.in_ok-is_quoted.ensures.ok c.if-draft.true)

pub returns-then-not-is_open-clause-err : goal.returns-then-not-is_open-clause-err
returns-then-not-is_open-clause-err c = λ r x. and_stops here (late_symbol c.in_ok-is_quoted.ensures.ok c.if-draft.false (sym c.is_open.ensures ∙ c.if-not-is_open.true))

pub returns-clause-ok : goal.returns-clause-ok
returns-clause-ok c =
    let text = c.args.self.now.text.now in
    let end = c.in_ok-is_quoted.end in
    let e : is_at text end 63 ≡ c.has_mark-is_optional.result = sym c.has_mark-is_optional.ensures.value in
    let after : c.if-is_optional.after ≡ mark_end text end = elim c.if-is_optional.branch [
      | then-is_optional w ↦ w.after-is ∙ sym (ends_behind text end true (e ∙ w.if-is_optional.true))
      | else-is_optional w ↦ w.after-is ∙ sym (ends_behind text end false (e ∙ w.if-is_optional.false))
    ] in
    let is = c.in_ok-symbol.ensures ∙ is_marked text c.in_ok-is_quoted.is_quoted c.has_mark-is_optional.result c.in_ok-is_quoted.span c.args.offset end c.in_ok-is_quoted.ensures.marks c.has_mark-is_optional.ensures.fits e in
    λ r x. rw (c.in_ok-add_symbol.ensures.value, is, after) (one (symbol c.in_ok-is_quoted.ensures.ok c.if-draft.false (sym c.is_open.ensures ∙ c.if-not-is_open.false)))
