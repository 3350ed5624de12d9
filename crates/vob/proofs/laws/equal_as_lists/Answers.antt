use Rattle.std.proofs.Common.{ap}
use Rattle.std.specs.Cmp.{booleans_Decides}
use Rattle.std.specs.Cmp.Lexicographic.{pointwise_decides}
use Rattle.std.specs.List.{flat_map}
use Rattle.vob.specs.Fed.{fed_list}
use Rattle.vob.proofs.LawLemmas as law
use Rattle.vob.proofs.laws.equal_as_lists.Goals as goal

pub returns : goal.returns
returns g c = record {
  equal = λ a b. pointwise_decides booleans_Decides a.bits b.bits;
  hash = λ a b e. ap fed_list e;
  storage = λ a b xs ys h k. law.stored_same g.T.Word.BITS a b (flat_map g.T.Word.bits xs) (flat_map g.T.Word.bits ys) h k;
}
