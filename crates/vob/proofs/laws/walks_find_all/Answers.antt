use Rattle.std.proofs.Common.{min, length, arith}
use Rattle.std.specs.Range.Bound.{start_index, end_index}
use Rattle.vob.proofs.LawLemmas as law
use Rattle.vob.proofs.laws.walks_find_all.Goals as goal

pub returns : goal.returns
returns c = λ v xs start end index. law.walk_exactly v xs (start_index start) (min (end_index end (length xs)) (length xs)) index (omega arith)
