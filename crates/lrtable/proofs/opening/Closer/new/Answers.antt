use Rattle.std.proofs.Common.{◌∙◌, false, length, ap}
use Rattle.std.proofs.lemmas.List.{length-replicate}
use Rattle.lrtable.proofs.Closing.{empty_sized, no_look}
use Rattle.lrtable.proofs.opening.Closer.new.Goals as goal

pub returns : goal.returns
returns g c =
    let G = c.args.grm.now.grammar in
    let rules = c.to_usize-rules.ensures.value ∙ c.rules_len.ensures in
    let tokens = c.to_usize-tokens.ensures.value ∙ c.tokens_len.ensures in
    record {
      tails = c.in_ok-new.ensures;
      openers = c.requires.openers;
      sizes = empty_sized G c.in_ok-empty.field-0 c.to_usize-rules.result c.to_usize-tokens.result rules tokens c.in_ok-empty.ensures;
      tidy = λ A t h. absurd (no_look G c.in_ok-empty.field-0 c.to_usize-rules.result c.to_usize-tokens.result rules tokens c.in_ok-empty.ensures A t h);
      width = ap length c.in_ok-from_elem.ensures.bits ∙ length-replicate c.to_usize-tokens.result false ∙ tokens;
      rest = c.in_ok-empty-2.ensures ∙ tokens;
      none_waits = c.in_ok-empty-3.ensures;
    }
