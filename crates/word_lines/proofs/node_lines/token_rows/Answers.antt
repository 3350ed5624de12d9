use Rattle.std.proofs.Common.{◌∙◌, ◌++◌, ◌∷◌, ap, subst, arith}
use Rattle.lrpar.proofs.FullSteps.{rows_more, rows_none}
use Rattle.word_lines.specs.NodeRows.{IsTokenRow, behind_spaces}
use Rattle.word_lines.proofs.node_lines.token_rows.Goals as goal

pub tokens-init : goal.tokens-init
tokens-init g c = rows_none (IsTokenRow c.args.grm.now) c.in_ok-rows.rows.items c.in_ok-rows.ensures.items

pub tokens-preserved : goal.tokens-preserved
tokens-preserved g c =
    let number = g.S.IndexStorage.number in
    let P = IsTokenRow c.args.grm.now in
    let row = c.in_ok-row.ensures ∙ ap (λ n. behind_spaces (n ++ 32 ∷ n) 10) c.token_name.ensures in
    rows_more P c.tokens.number c.tokens.rows.items c.push.new.self.items c.in_ok-row.row c.tokens.invariant (subst (λ k. P k c.in_ok-row.row.items) c.token_at.ensures row) c.in_ok-push.ensures.items

pub returns : goal.returns
returns g c = λ s lt.
    let value = c.to_usize-count.ensures.value in
    let end = c.eof_token_idx.ensures.value in
    let done = c.tokens-test.false in
    c.tokens.invariant.are s (omega (arith, lt, value, end, done))
