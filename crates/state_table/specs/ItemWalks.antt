-- Walks over the items of a set as contracts see them.
use Rattle.std.specs.Prelude.{ℕ}
use Rattle.std.specs.Borrow.{Bor}
use Rattle.vob.specs.Packed.{Contents}
use Rattle.cfg_base.specs.declared.symbol.PIdx.{PIdx}
use Rattle.cfg_base.specs.declared.symbol.SIdx.{SIdx}
use Rattle.lr_theory.specs.Itemset.{Entry}

-- an item with its lookaheads
abbrev pub entry_seen : {S : Type 0} → (S → ℕ) → (PIdx S × SIdx S) × Bor Contents → Entry
entry_seen number x = record { production = number x.0.0.0; dot = number x.0.1.0; lookaheads = x.1.now.bits }
