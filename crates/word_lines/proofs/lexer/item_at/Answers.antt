use Rattle.std.proofs.Common.{◌≡◌, ◌+◌, length, arith}
use Rattle.word_lines.specs.Words.{Word}
use Rattle.word_lines.proofs.NamedTokens.{item_found, item_with}
use Rattle.word_lines.proofs.lexer.item_at.Goals as goal

pub returns-in-Some-clause-item : goal.returns-in-Some-clause-item
returns-in-Some-clause-item g c =
    let w : Word = record { start = c.args.start; text = c.args.word.now } in
    let s = c.new-span.ensures.start in
    let e : c.new-span.result.end ≡ c.args.start + length c.args.word.now = omega arith in
    item_with g.S.IndexStorage.of_number c.args.grm.now w c.in-Some.tidx.0 c.new-span.result s e (item_found g.S.IndexStorage.number g.S.IndexStorage.of_number g.S.IndexStorage.MAX c.each_number_is_of_one_value.ensures.not_two c.each_number_is_of_one_value.ensures.named c.args.grm.now (record { start = c.args.start; text = c.args.word.now }) c.in-Some.tidx.0 _ c.to_usize.ensures.bound c.to_usize.ensures.value (rw c.in-Some.is at c.find_token.ensures.named))
