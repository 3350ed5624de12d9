use Rattle.std.proofs.Common.{sym}
use Rattle.cfg_sections.specs.Sections.{no_word, no_member}
use Rattle.cfg_sections.proofs.SectionChains.{alone_path, within_path}
use Rattle.cfg_sections.proofs.header.scan.Scanner.parse_path.Goals as goal

pub returns-in_ok-member-in-Alone-clause-ok : goal.returns-in_ok-member-in-Alone-clause-ok
returns-in_ok-member-in-Alone-clause-ok c = alone_path c.in_ok-member-in-Alone.member (sym c.in-Alone.ensures.value) c.in_ok-member-in-Alone.ensures.word c.in_ok-member-in-Alone.ensures.span

pub returns-in_ok-member-in-Within-clause-ok : goal.returns-in_ok-member-in-Within-clause-ok
returns-in_ok-member-in-Within-clause-ok c =
    within_path c.in_ok-outer-in-Within.outer c.in_ok-member-in-Within.member (sym c.in-Within.ensures.value) c.in_ok-outer-in-Within.ensures.word c.in_ok-outer-in-Within.ensures.span c.in_ok-member-in-Within.ensures.word c.in_ok-member-in-Within.ensures.span

pub returns-in-Unfinished-clause-err : goal.returns-in-Unfinished-clause-err
returns-in-Unfinished-clause-err c = no_member (sym c.in-Unfinished.ensures.value)

pub returns-in-NoPath-clause-err : goal.returns-in-NoPath-clause-err
returns-in-NoPath-clause-err c = no_word (sym c.in-NoPath.ensures.value)
