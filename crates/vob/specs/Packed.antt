-- How a list of truth values is kept in blocks: bit j of the block k is the item k * w + j, where a block has w bits.
use Rattle.std.specs.Prelude.{◌≡◌, ℕ, ◌+◌, ◌-◌, ◌*◌, ◌/◌, ◌%◌, ◌==◌, Bool, false, List, length, drop, replicate, if◌then◌else◌}

-- what contracts see of a Vob: its items, and how many it has room for
pub record Contents : Type 0 where
  pub bits : List Bool
  pub capacity : ℕ

-- how many blocks n items take: n divided by w, rounded up
abbrev pub blocks_for : ℕ → ℕ → ℕ
blocks_for w n = n / w + (if n % w == 0 then 0 else 1)

-- all the bits of the blocks: n items, and then unused bits up to the end of the last block, which are false
pub record Packs (w n : ℕ) (all : List Bool) : Type 0 where
  pub count : length all ≡ blocks_for w n * w
  pub unused : drop n all ≡ replicate (blocks_for w n * w - n) false

-- so many blocks spell n items: there are as many as n items take, and no unused bit is set
abbrev pub Spells : ℕ → ℕ → ℕ → List Bool → Type 0
Spells w n count all = (count ≡ blocks_for w n) × (drop n all ≡ replicate (blocks_for w n * w - n) false)
