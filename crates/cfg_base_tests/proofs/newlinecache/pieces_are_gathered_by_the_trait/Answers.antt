use Rattle.std.proofs.Common.{refl, arith}
use Rattle.cfg_base_tests.proofs.Pieces.{array_fits}
use Rattle.cfg_base_tests.proofs.newlinecache.pieces_are_gathered_by_the_trait.Goals as goal

pub from_iter-requires : goal.from_iter-requires
from_iter-requires g c = λ κs. ((refl, tt), (λ it gives. (tt, tt, array_fits it _ gives.0 (omega arith))))
