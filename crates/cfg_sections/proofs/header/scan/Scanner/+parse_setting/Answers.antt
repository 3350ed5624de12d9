use Rattle.std.proofs.Common.{◌≡◌, sym, ap, ◌∙◌, arith}
use Rattle.std.proofs.lemmas.Result.{err_from_is_err_and}
use Rattle.cfg_sections.specs.HeaderTexts.{items_text, more, setting_text}
use Rattle.cfg_sections.specs.Sections.{here, open_bracket, close_bracket, item, deep_array, no_setting, begins_setting}
use Rattle.cfg_sections.proofs.HeaderTokens.{no_setting_begins}
use Rattle.cfg_sections.proofs.SectionChains.{one, join, and_then, and_stops, join_fails}
use Rattle.cfg_sections.proofs.SettingReads.{span_is}
use Rattle.cfg_sections.proofs.SettingTexts.{array_text, items_text-push}
use Rattle.cfg_sections.proofs.header.scan.Scanner.+parse_setting.Goals as goal

pub parse_array-items-init : goal.parse_array-items-init
parse_array-items-init t c =
    let from = c.parse_ws-end.ensures.from in
    record {
      from = omega arith;
      within = c.parse_ws-end.ensures.within;
      steps = rw c.new-items.ensures.items (λ k o x e. join (one (open_bracket c.requires.token (rw e c.requires.depth))) (c.parse_ws-end.ensures.steps _ _));
    }

pub parse_array-returns-in_err-item-clause-err : goal.parse_array-returns-in_err-item-clause-err
parse_array-returns-in_err-item-clause-err t c =
    let p = err_from_is_err_and c.from_residual.result c.from_residual.ensures.1 in
    rw (p.1, p.2)
    (λ k o x e. join_fails _ _ _ _ (and_then (c.items.invariant.steps k o x e) (item (sym c.closes_bracket.ensures.value ∙ c.items-test.true))) (c.in_err-item.ensures.err _ _ _ (omega (arith, e))))

pub parse_array-returns-in_err-end-clause-err : goal.parse_array-returns-in_err-end-clause-err
parse_array-returns-in_err-end-clause-err t c =
    let p = err_from_is_err_and c.from_residual-in_err-end.result c.from_residual-in_err-end.ensures.1 in
    rw (p.1, p.2)
    (λ k o x e. join_fails _ _ _ _ (join (and_then (c.items.invariant.steps k o x e) (item (sym c.closes_bracket.ensures.value ∙ c.items-test.true))) (c.in_ok-item.ensures.ok _ _ _ (omega (arith, e)))) (c.in_err-end.ensures.err _ _ _ _ _ _))

pub parse_array-items-preserved : goal.parse_array-items-preserved
parse_array-items-preserved t c =
    let after = c.in_ok-item.ensures.within in
    let within = c.in_ok-end.ensures.within in
    let pushed : items_text c.push.new.self.items ≡ more (items_text c.items.items.items) (setting_text c.in_ok-item.item) = ap items_text c.in_ok-push.ensures.items ∙ items_text-push c.items.items.items c.in_ok-item.item in
    record {
      from = omega arith;
      within = omega arith;
      steps = rw pushed (λ k o x e. join (join (and_then (c.items.invariant.steps k o x e) (item (sym c.closes_bracket.ensures.value ∙ c.items-test.true))) (c.in_ok-item.ensures.ok _ _ _ (omega (arith, e)))) (c.in_ok-end.ensures.ok _ _ _ _ _ _));
    }

pub parse_array-returns-clause-ok : goal.parse_array-returns-clause-ok
parse_array-returns-clause-ok t c =
    let start = span_is c.new-open.result _ _ c.new-open.ensures.start c.new-open.ensures.end in
    let end = span_is c.new-close.result _ _ c.new-close.ensures.start c.new-close.ensures.end in
    rw (array_text c.items.items c.new-open.result c.new-close.result, start, end)
    (λ k o x e. join (and_then (c.items.invariant.steps k o x e) (close_bracket (sym c.closes_bracket.ensures.value ∙ c.items-test.false))) (c.parse_ws.ensures.steps _ _))

pub parse_setting-returns-then-depth-ge-MOST_DEPTH-clause-err : goal.parse_setting-returns-then-depth-ge-MOST_DEPTH-clause-err
parse_setting-returns-then-depth-ge-MOST_DEPTH-clause-err t c = λ k o x e. and_stops here (deep_array (sym c.in-OpenBracket.ensures.value) (rw e c.if-depth-ge-MOST_DEPTH.true))

pub parse_setting-returns-in_default-clause-err : goal.parse_setting-returns-in_default-clause-err
parse_setting-returns-in_default-clause-err t c =
    λ k o x e. and_stops here
    (no_setting (ap begins_setting (sym c.token.ensures.value) ∙ no_setting_begins c.token.result c.in_default.not-Digit c.in_default.not-Quote c.in_default.not-Letter c.in_default.not-Underscore c.in_default.not-OpenBracket))
