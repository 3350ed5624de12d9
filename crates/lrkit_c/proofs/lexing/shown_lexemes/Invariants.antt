-- The lexemes so far are those of the items so far.
use Rattle.std.proofs.Common.{◌≡◌, take}
use Rattle.std.specs.List.{flat_map}
use Rattle.lrkit_c.specs.Lexed.{shown_item}
use Rattle.lrkit_c.proofs.lexing.shown_lexemes.Given as goal

abbrev pub invariant-items : goal.invariant-items
invariant-items l = l.lexemes.items ≡ flat_map shown_item (take l.index l.items)
