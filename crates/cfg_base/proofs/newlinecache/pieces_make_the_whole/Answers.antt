use Rattle.cfg_base.proofs.NewlineOffsets.{joined_is_append}
use Rattle.cfg_base.proofs.newlinecache.pieces_make_the_whole.Goals as goal

pub returns : goal.returns
returns c a b = joined_is_append a b
