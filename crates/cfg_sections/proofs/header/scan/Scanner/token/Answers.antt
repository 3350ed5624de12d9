use Rattle.cfg_sections.specs.HeaderWords.{token_at}
use Rattle.cfg_sections.proofs.HeaderRuns.{token_fits}
use Rattle.cfg_sections.proofs.header.scan.Scanner.token.Goals as goal

pub returns-clause-fits : goal.returns-clause-fits
unfolding token_at
returns-clause-fits c =
    let text = c.args.self.now.text.now in
    rw (c.of.ensures, c.byte.ensures.value) (token_fits text c.args.offset c.byte.ensures.utf8)
