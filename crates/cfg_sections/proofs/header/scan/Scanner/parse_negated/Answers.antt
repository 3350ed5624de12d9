use Rattle.std.proofs.Common.{◌≡◌, ◌+◌, false, sym, ◌∙◌, subst}
use Rattle.cfg_sections.specs.HeaderWords.{token_at}
use Rattle.cfg_sections.specs.declared.header.scan.TokenKind.TheVariants as tokens
use Rattle.cfg_sections.specs.declared.header.value.Value.TheVariants as values
use Rattle.cfg_sections.specs.Sections.{At, Pair, PairEnd, Steps, here, negated_key, no_key}
use Rattle.cfg_sections.proofs.HeaderTokens.{letter_begins}
use Rattle.cfg_sections.proofs.SectionChains.{one, join, and_stops}
use Rattle.cfg_sections.proofs.SettingReads.{span_is, pair_is}
use Rattle.cfg_sections.proofs.header.scan.Scanner.parse_negated.Goals as goal

pub returns-then-not-begins_key-clause-err : goal.returns-then-not-begins_key-clause-err
returns-then-not-begins_key-clause-err c = λ x. and_stops here (no_key c.requires.token (sym c.begins_key.ensures.value ∙ c.if-not-begins_key.true))

pub returns-clause-ok : goal.returns-clause-ok
returns-clause-ok c =
    let text = c.args.self.now.text.now in
    let offset = c.args.offset in
    let letter : token_at text (offset + 1) ≡ tokens.Letter = letter_begins _ (sym c.begins_key.ensures.value ∙ c.if-not-begins_key.false) in
    let key_span = span_is c.new-span.result _ _ c.new-span.ensures.start (c.new-span.ensures.end ∙ c.in_ok-key.ensures.end) in
    let flag_span = span_is c.new.result _ _ c.new.ensures.start (c.new.ensures.end ∙ c.in_ok-key.ensures.end) in
    let same = pair_is text (offset + 1) c.in_ok-key.key c.new-span.result (values.Flag false c.new.result) c.in_ok-key.ensures.key key_span in
    let gap = rw c.in_ok-key.ensures.end at c.parse_ws.ensures.steps in
    λ x. subst (λ p. Steps text (At Pair x offset) (At (PairEnd p) x c.parse_ws.result)) same (rw flag_span (join (one (negated_key c.requires.token letter)) (gap _ _)))
