use Rattle.std.proofs.Common.{◌≡◌, ◌≤◌, ◌-◌, ◌∙◌, ◌++◌, drop, length, replicate, ap, arith}
use Rattle.std.proofs.lemmas.Result.{on_ok_weaker}
use Rattle.word_lines.proofs.NodeRows.{row_behind, row_long, row_part}
use Rattle.word_lines.specs.NodeRows.{behind_spaces}
use Rattle.word_lines.proofs.node_lines.push_row.Goals as goal

pub push_part-requires : goal.push_part-requires
push_part-requires c =
    let r = c.requires in
    let same = ap length r.2 in
    let long = row_long r.0 r.1 in
    omega (arith, same, long)

pub returns-then-depth-gt-SPACES : goal.returns-then-depth-gt-SPACES
returns-then-depth-gt-SPACES c = λ name last is.
    let deep = c.if-depth-gt-SPACES.true in
    let le : 64 ≤ c.args.depth = omega (arith, deep) in
    let same = ap (λ r. replicate (c.args.depth - 64) 32 ++ r) is ∙ row_behind name last c.args.depth le in
    on_ok_weaker c.push_deep.result (λ e. e ∙ ap (λ l. c.args.text.now.items ++ l) same) c.push_deep.ensures

pub returns : goal.returns
returns c = λ name last is.
    let few = c.if-depth-gt-SPACES.false in
    let le : c.args.depth ≤ 64 = omega (arith, few) in
    let same = ap (drop (64 - c.args.depth)) is ∙ row_part name last c.args.depth le in
    on_ok_weaker c.push_part.result (λ e. e ∙ ap (λ l. c.args.text.now.items ++ l) same) c.push_part.ensures
