use Rattle.std.proofs.Common.{arith}
use Rattle.cfg_sections.proofs.HeaderRuns.{key_fits}
use Rattle.cfg_sections.proofs.header.scan.Scanner.parse_key.Goals as goal

pub word-requires-clause-order : goal.word-requires-clause-order
word-requires-clause-order c =
    let fits = key_fits c.args.self.now.text.now c.args.offset c.key_end-end.ensures.utf8 c.requires.token in
    let more = fits.more in
    rw c.key_end-end.ensures.value (omega (arith, more))

pub word-requires-clause-start : goal.word-requires-clause-start
word-requires-clause-start c =
    let fits = key_fits c.args.self.now.text.now c.args.offset c.key_end-end.ensures.utf8 c.requires.token in
    fits.start

pub word-requires-clause-end : goal.word-requires-clause-end
word-requires-clause-end c =
    let fits = key_fits c.args.self.now.text.now c.args.offset c.key_end-end.ensures.utf8 c.requires.token in
    rw c.key_end-end.ensures.value fits.end

pub returns-clause-within : goal.returns-clause-within
returns-clause-within c =
    let fits = key_fits c.args.self.now.text.now c.args.offset c.key_end-end.ensures.utf8 c.requires.token in
    rw c.key_end-end.ensures.value (fits.more, fits.within)
