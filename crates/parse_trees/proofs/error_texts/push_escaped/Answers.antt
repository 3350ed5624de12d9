use Rattle.std.proofs.Common.{rules, ◌++◌, lit<}
use Rattle.std.proofs.lemmas.Str.Pattern.{split_once_first}
use Rattle.std.specs.String.{string_bytes}
use Rattle.parse_trees.specs.ErrorTexts.{escaped}
use Rattle.parse_trees.proofs.EscapedTexts.{line_put, last_put}
use Rattle.parse_trees.proofs.error_texts.push_escaped.Goals as goal

pub lines-preserved : goal.lines-preserved
lines-preserved c =
    let found = rw c.in-Some.is at (split_once_first 10 c.lines.rest.now c.split_once.result c.split_once.ensures.cases (lit< tt)) in
    (search rules, line_put (string_bytes c.lines.text) (string_bytes c.push_str.new.self) (string_bytes c.push_str-in-Some.new.self) (string_bytes c.args.text.now ++ escaped c.args.part.now) c.lines.rest.now c.in-Some.line.now c.in-Some.after.now c.lines.invariant.1 found.0 found.1 found.2 c.in_ok-push_str.ensures.bytes c.in_ok-push_str-2.ensures.bytes)

pub returns : goal.returns
returns c =
    let found = rw c.in_default.is at (split_once_first 10 c.lines.rest.now c.split_once.result c.split_once.ensures.cases (lit< tt)) in
    last_put (string_bytes c.lines.text) (string_bytes c.push_str-2.new.self) (string_bytes c.args.text.now ++ escaped c.args.part.now) c.lines.rest.now c.lines.invariant.1 found c.in_ok-push_str-3.ensures.bytes
