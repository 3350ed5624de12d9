use Rattle.std.proofs.Common.{arith}
use Rattle.cfg_sections.specs.Sections.{here, large_number}
use Rattle.cfg_sections.proofs.HeaderRuns.{number_fits}
use Rattle.cfg_sections.proofs.SectionChains.{and_stops}
use Rattle.cfg_sections.proofs.SettingReads.{num_reads, number_ok, number_err}
use Rattle.cfg_sections.proofs.header.scan.Scanner.parse_number.Goals as goal

pub range-requires-clause-start_le_end : goal.range-requires-clause-start_le_end
range-requires-clause-start_le_end c =
    let fits = number_fits c.args.self.now.text.now c.args.offset c.number_end-end.ensures.utf8 c.requires.token in
    let more = fits.more in
    rw c.number_end-end.ensures.value (omega (arith, more))

pub range-requires-clause-start_boundary : goal.range-requires-clause-start_boundary
range-requires-clause-start_boundary c =
    let fits = number_fits c.args.self.now.text.now c.args.offset c.number_end-end.ensures.utf8 c.requires.token in
    λ h. fits.start

pub range-requires-clause-end_boundary : goal.range-requires-clause-end_boundary
range-requires-clause-end_boundary c =
    let fits = number_fits c.args.self.now.text.now c.args.offset c.number_end-end.ensures.utf8 c.requires.token in
    rw c.number_end-end.ensures.value fits.end

pub returns-in-Ok-clause-ok : goal.returns-in-Ok-clause-ok
returns-in-Ok-clause-ok c =
    let text = c.args.self.now.text.now in
    let offset = c.args.offset in
    let parsed = rw (c.range.ensures.value, c.number_end-end.ensures.value) at c.in-Ok.ensures.value.0 in
    let value = number_ok text offset c.in-Ok.value c.number_end-end.ensures.utf8 c.requires.token parsed in
    let stop = rw c.number_end-end.ensures.value at c.new.ensures.end in
    let gap = rw c.number_end-end.ensures.value at c.parse_ws.ensures.steps in
    λ k o x e. num_reads k o x c.in-Ok.value c.new.result c.requires.token value.1 value.0 c.new.ensures.start stop gap

pub returns-in-Err-clause-err : goal.returns-in-Err-clause-err
returns-in-Err-clause-err c =
    let text = c.args.self.now.text.now in
    let offset = c.args.offset in
    let parsed = rw (c.range.ensures.value, c.number_end-end.ensures.value) at c.in-Err.ensures.value.0 in
    λ k o x e. and_stops here (large_number c.requires.token (number_err text offset c.number_end-end.ensures.utf8 c.requires.token parsed))
