use Rattle.std.proofs.Common.{length, take, ap, refl, sym, ◌∙◌}
use Rattle.std.proofs.lemmas.List.{take_at}
use Rattle.std.specs.Bool.{one_answer}
use Rattle.vob.proofs.LawLemmas as law
use Rattle.vob.proofs.laws.block_types_agree.Goals as goal

pub returns : goal.returns
returns g c = record {
  changed = λ old new a b h k. one_answer a b h k;
  set = λ xs index value a b h k. one_answer a b h k;
  next = law.next_same;
  next_back = law.next_back_same;
  item = law.next_same;
  item_back = law.next_back_same;
  pop = law.pop_same;
  storage = λ bits xs ys h k. ap (take (length bits)) h ∙ take_at bits _ (length bits) refl ∙ sym (ap (take (length bits)) k ∙ take_at bits _ (length bits) refl);
}
