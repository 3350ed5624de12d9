use Rattle.std.proofs.Common.{true, refl, sym, ◌∙◌, subst}
use Rattle.std.proofs.lemmas.Result.{err_from_is_err_and}
use Rattle.cfg_sections.specs.declared.header.value.Value.TheVariants as values
use Rattle.cfg_sections.specs.Sections.{At, Pair, PairEnd, Steps, top, key, colon, no_colon, whole}
use Rattle.cfg_sections.proofs.SectionChains.{one, join, and_then, join_fails}
use Rattle.cfg_sections.proofs.SettingReads.{span_is, pair_is}
use Rattle.cfg_sections.proofs.header.scan.Scanner.parse_keyed.Goals as goal

pub returns-in_err-setting-clause-err : goal.returns-in_err-setting-clause-err
returns-in_err-setting-clause-err c =
    let p = err_from_is_err_and c.from_residual-in_err-setting.result c.from_residual-in_err-setting.ensures.1 in
    let gap = rw c.in_ok-key.ensures.end at c.parse_ws-end.ensures.steps in
    rw (p.1, p.2) (λ x. join_fails _ _ _ _ (join (and_then (join (one (key c.requires.token)) (gap _ _)) (colon (sym c.colon.ensures.value ∙ c.if-colon.true))) (c.parse_ws-start.ensures.steps _ _)) (c.in_err-setting.ensures.err _ top _ refl))

pub returns-in_ok-setting-clause-ok : goal.returns-in_ok-setting-clause-ok
returns-in_ok-setting-clause-ok c =
    let text = c.args.self.now.text.now in
    let offset = c.args.offset in
    let key_span = span_is c.new-span.result _ _ c.new-span.ensures.start (c.new-span.ensures.end ∙ c.in_ok-key.ensures.end) in
    let same = pair_is text offset c.in_ok-key.key c.new-span.result (values.Setting c.in_ok-setting.setting) c.in_ok-key.ensures.key key_span in
    let gap = rw c.in_ok-key.ensures.end at c.parse_ws-end.ensures.steps in
    λ x. subst (λ p. Steps text (At Pair x offset) (At (PairEnd p) x c.in_ok-setting.end)) same
    (and_then (join (join (and_then (join (one (key c.requires.token)) (gap _ _)) (colon (sym c.colon.ensures.value ∙ c.if-colon.true))) (c.parse_ws-start.ensures.steps _ _)) (c.in_ok-setting.ensures.ok _ top _ refl)) whole)

pub returns-else-colon-clause-ok : goal.returns-else-colon-clause-ok
returns-else-colon-clause-ok c =
    let text = c.args.self.now.text.now in
    let offset = c.args.offset in
    let key_span = span_is c.new-span.result _ _ c.new-span.ensures.start (c.new-span.ensures.end ∙ c.in_ok-key.ensures.end) in
    let same = pair_is text offset c.in_ok-key.key c.new-span.result (values.Flag true c.new-span.result) c.in_ok-key.ensures.key key_span in
    let gap = rw c.in_ok-key.ensures.end at c.parse_ws-end.ensures.steps in
    λ x. subst (λ p. Steps text (At Pair x offset) (At (PairEnd p) x c.parse_ws-end.result)) same (rw key_span (and_then (join (one (key c.requires.token)) (gap _ _)) (no_colon (sym c.colon.ensures.value ∙ c.if-colon.false))))
