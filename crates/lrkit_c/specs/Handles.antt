-- What a handle owns.
use Rattle.std.specs.Prelude.{Option, None, Some}
use mir.Syntax.{Ty}
use base.Fml.{Fml, ftrue}
use denote.RattleType.{RattleType}
use denote.RawPtr.{Ptr}
use Rattle.std.specs.Box.Ownership.{box_owns}
use Rattle.std.specs.Global.{Global}
use Rattle.std.specs.contracts.impls.GlobalAllocator.TheImpl.{ghosts}

-- the one value of the allocator
abbrev pub heap : Global
heap = record { memory = record { seal = tt } }

-- the right to free a block of it
abbrev pub frees : Ty → Ptr → Fml
frees = ghosts.dealloc_token heap

-- a handle owns the block at its pointer, with the value in it; or nothing
abbrev pub held_at : (R : RattleType) → Ptr → Option R.Denot → Fml
held_at R p None = ftrue
held_at R p (Some x) = box_owns frees R p x
