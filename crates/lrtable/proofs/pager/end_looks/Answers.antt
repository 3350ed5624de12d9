use Rattle.std.proofs.Common.{rules, true, List, Bool, set, ap, ◌∙◌}
use Rattle.lrtable.proofs.Starting.{end_bits}
use Rattle.lrtable.proofs.pager.end_looks.Goals as goal

pub returns-clause-width : goal.returns-clause-width
returns-clause-width g c =
    let G = c.args.grm.now.grammar in
    (end_bits G c.to_usize.result c.to_usize-2.result c.set.new.self.bits (c.to_usize.ensures.value ∙ c.tokens_len.ensures) (c.to_usize-2.ensures.value ∙ c.eof_token_idx.ensures.value) (search rules) (c.set.ensures.bits ∙ ap (λ (l : List Bool). set l c.to_usize-2.result true) c.in_ok-end.ensures.bits)).0

pub returns-clause-bits : goal.returns-clause-bits
returns-clause-bits g c =
    let G = c.args.grm.now.grammar in
    (end_bits G c.to_usize.result c.to_usize-2.result c.set.new.self.bits (c.to_usize.ensures.value ∙ c.tokens_len.ensures) (c.to_usize-2.ensures.value ∙ c.eof_token_idx.ensures.value) (search rules) (c.set.ensures.bits ∙ ap (λ (l : List Bool). set l c.to_usize-2.result true) c.in_ok-end.ensures.bits)).1
