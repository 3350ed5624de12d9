-- What an operation on two lists does to an item of each.
use Rattle.std.specs.Prelude.{Bool, ◌&&◌, ◌||◌}
use Rattle.vob.specs.Bits.{differs}
use Rattle.vob.specs.declared.sets.Pointwise.{Pointwise}
use Rattle.vob.specs.declared.sets.Pointwise.TheVariants.{And, Or, Xor}

abbrev pub item_of : Pointwise → Bool → Bool → Bool
item_of And = λ x y. x && y
item_of Or = λ x y. x || y
item_of Xor = differs
