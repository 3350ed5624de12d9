-- What a write through the lent blocks of a list taken apart leaves.
use Rattle.std.specs.Borrow.{Lends, Fml, RattleType, MutBor}
use Rattle.std.specs.contracts.alloc.Global as global
use Rattle.std.specs.contracts.vec.Vec as vec
use Rattle.std.specs.contracts.impls.GlobalAllocator.TheImpl.{ghosts}
use Rattle.vob.specs.declared.raw.RawVob.{RawVob}
use Rattle.vob.specs.contracts.raw.RawVob.{the_row}

module _ (T : RattleType) where
  -- the blocks, as a `&mut` holds them
  abbrev pub blocks_row : RattleType
  blocks_row = vec.the_row T global.the_row ghosts

  -- raw ends with the blocks that r shows last, and its length as it was
  abbrev pub lends_blocks : MutBor (RawVob T.Denot) → MutBor blocks_row.Denot → Fml
  lends_blocks raw r = Lends (the_row T) blocks_row raw r (λ w. record raw.now { blocks = w })
