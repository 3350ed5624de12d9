use Rattle.std.proofs.Common.{arith}
use Rattle.std.proofs.lemmas.List.{length-append}
use Rattle.vob.proofs.laws.reserved_room_takes_pushes.Goals as goal

pub returns : goal.returns
returns c = λ xs pushed n capacity h l. let e = length-append xs pushed in omega arith
