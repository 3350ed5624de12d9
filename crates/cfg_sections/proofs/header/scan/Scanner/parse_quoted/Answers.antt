use Rattle.std.proofs.Common.{◌≤◌, ◌<◌, ◌+◌, length, subst}
use Rattle.cfg_base.specs.Text.{FitsWord, run_end}
use Rattle.cfg_sections.specs.HeaderWords.{FitsToken, is_in_text}
use Rattle.cfg_sections.specs.Sections.{here, no_end_quote}
use Rattle.cfg_sections.proofs.HeaderRuns.{token_fits, end_quote}
use Rattle.cfg_sections.proofs.SectionChains.{and_stops}
use Rattle.cfg_sections.proofs.SettingReads.{quoted_reads}
use Rattle.cfg_sections.proofs.header.scan.Scanner.parse_quoted.Goals as goal

pub returns-then-end-self-clause-err : goal.returns-then-end-self-clause-err
returns-then-end-self-clause-err c =
    let text = c.args.self.now.text.now in
    let far : length text ≤ run_end is_in_text text (c.args.offset + 1) = rw (← c.text_end-end.ensures.value) c.if-end-self.true in
    λ k o x e. and_stops here (no_end_quote c.requires.token far)

pub word-requires-clause-start : goal.word-requires-clause-start
word-requires-clause-start c =
    let text = c.args.self.now.text.now in
    let fits : FitsWord text c.args.offset (c.args.offset + 1) = subst (FitsToken text c.args.offset) c.requires.token (token_fits text c.args.offset c.text_end-end.ensures.utf8) in
    fits.end

pub word-requires-clause-end : goal.word-requires-clause-end
word-requires-clause-end c =
    let text = c.args.self.now.text.now in
    let short : run_end is_in_text text (c.args.offset + 1) < length text = rw (← c.text_end-end.ensures.value) c.if-end-self.false in
    rw c.text_end-end.ensures.value (end_quote text (c.args.offset + 1) c.text_end-end.ensures.utf8 short)

pub returns-clause-ok : goal.returns-clause-ok
returns-clause-ok c =
    let text = c.args.self.now.text.now in
    let short : run_end is_in_text text (c.args.offset + 1) < length text = rw (← c.text_end-end.ensures.value) c.if-end-self.false in
    let bytes = rw c.text_end-end.ensures.value at c.in_ok-text.ensures.ok in
    let stop = rw c.text_end-end.ensures.value at c.new-span.ensures.end in
    let gap = rw c.text_end-end.ensures.value at c.parse_ws.ensures.steps in
    λ k o x e. quoted_reads k o x c.in_ok-text.text c.new-span.result c.requires.token short bytes c.new-span.ensures.start stop gap
