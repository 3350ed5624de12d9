use Rattle.std.proofs.Common.{◌∙◌, ◌+◌, sym, ap}
use Rattle.cfg_sections.specs.HeaderWords.{begins_word}
use Rattle.cfg_sections.proofs.HeaderRuns.{word_fits}
use Rattle.cfg_sections.proofs.header.scan.Scanner.path_shape.Goals as goal

pub returns-then-not-colons-clause-fits : goal.returns-then-not-colons-clause-fits
returns-then-not-colons-clause-fits c =
    let begins = ap begins_word (sym c.token.ensures.value) ∙ sym c.begins_word.ensures ∙ c.if-not-begins_word.false in
    rw c.word_end-end.ensures.value (word_fits c.args.self.now.text.now c.args.offset c.token.ensures.utf8 begins)

pub returns-then-begins_word-clause-fits : goal.returns-then-begins_word-clause-fits
returns-then-begins_word-clause-fits c =
    let text = c.args.self.now.text.now in
    let begins = ap begins_word (sym c.token.ensures.value) ∙ sym c.begins_word.ensures ∙ c.if-not-begins_word.false in
    let again = ap begins_word (sym c.token-2.ensures.value) ∙ sym c.begins_word-2.ensures ∙ c.if-begins_word.true in (
      rw c.word_end-end.ensures.value (word_fits text c.args.offset c.token.ensures.utf8 begins),
      rw c.word_end.ensures.value (word_fits text (c.word_end-end.result + 2) c.token.ensures.utf8 again),
    )

pub returns-else-begins_word-clause-fits : goal.returns-else-begins_word-clause-fits
returns-else-begins_word-clause-fits c =
    let begins = ap begins_word (sym c.token.ensures.value) ∙ sym c.begins_word.ensures ∙ c.if-not-begins_word.false in (
      rw c.word_end-end.ensures.value (word_fits c.args.self.now.text.now c.args.offset c.token.ensures.utf8 begins),
      c.colons.ensures.within c.if-not-colons.false,
    )
