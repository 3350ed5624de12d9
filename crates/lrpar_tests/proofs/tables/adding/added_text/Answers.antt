use Rattle.lrpar_tests.proofs.EmptySets.{none_wide}
use Rattle.lrpar_tests.proofs.tables.adding.added_text.Goals as goal

pub push_all-requires : goal.push_all-requires
push_all-requires g c = none_wide 3 _ c.new-set.ensures.none
