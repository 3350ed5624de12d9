use Rattle.std.proofs.Common.{◌≡◌}
use Rattle.cfg_base.specs.Newlines.{newlines_of}
use Rattle.cfg_base.specs.Pieces.{text_of}
use Rattle.cfg_base.proofs.newlinecache.NewlineCache.from_iter.Given as goal

-- the pieces so far are fed
abbrev pub invariant-loop-piece : goal.invariant-loop-piece
invariant-loop-piece g l = l.cache ≡ newlines_of (text_of l.yielded)
