use Rattle.std.proofs.Common.{rules, codes}
use Rattle.std.proofs.lemmas.Str.Ascii.{trim_ascii_start_is}
use Rattle.std.proofs.lemmas.Str.Pattern.{starts_text}
use Rattle.lex_files.proofs.pieces.is_gap.Goals as goal

pub returns-then-is_empty : goal.returns-then-is_empty
returns-then-is_empty c =
    let same = trim_ascii_start_is c.args.line.now c.trim_ascii_start-rest.result.now c.trim_ascii_start-rest.ensures.value in
    search (rules, same)

pub returns-else-is_empty : goal.returns-else-is_empty
returns-else-is_empty c =
    let same = trim_ascii_start_is c.args.line.now c.trim_ascii_start-rest.result.now c.trim_ascii_start-rest.ensures.value in
    let starts = starts_text c.starts_with.result (codes "//") c.trim_ascii_start-rest.result.now c.starts_with.ensures.cases in
    search (rules, same, starts)
