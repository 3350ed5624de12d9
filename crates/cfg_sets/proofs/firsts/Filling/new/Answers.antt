use Rattle.std.proofs.Common.{◌≡◌, false, ap, ◌∙◌, length, subst}
use Rattle.std.specs.Prelude.{IsTrue}
use Rattle.std.proofs.lemmas.List.{length-replicate}
use Rattle.vob.specs.Sets.{is_set}
use Rattle.vob.proofs.Bits.{none_set}
use Rattle.cfg_sets.proofs.FirstSteps.{empty_of, none_sound}
use Rattle.cfg_sets.proofs.firsts.Filling.new.Goals as goal

pub returns-clause-under_way : goal.returns-clause-under_way
returns-clause-under_way g c =
    let G = c.args.grm.now.grammar in
    let n = c.to_usize-rules.result in
    let m = c.to_usize-tokens.result in
    let s = c.in_ok-empty.field-0 in
    let made = c.in_ok-empty.ensures in
    let rules : n ≡ G.rules = c.to_usize-rules.ensures.value ∙ c.rules_len.ensures in
    let tokens : m ≡ G.tokens = c.to_usize-tokens.ensures.value ∙ c.tokens_len.ensures in
    let done = c.in_ok-from_elem-2.ensures.bits in
    record {
      sound = record {
        sizes = empty_of G s n m rules tokens made.tokens made.rows made.epsilons;
        sound = none_sound G n m n s made.rows made.epsilons;
        width = ap length c.in_ok-from_elem.ensures.bits ∙ length-replicate m false ∙ tokens;
      };
      width = ap length done ∙ length-replicate c.to_usize.result false ∙ c.to_usize.ensures.value ∙ c.prods_len.ensures;
      closed = λ p is. absurd (none_set c.to_usize.result p (subst (λ l. IsTrue (is_set l p)) done is));
      naming = c.requires;
    }
