-- The lexemes so far are those of the items so far.
use Rattle.std.proofs.Common.{◌≡◌, take}
use Rattle.std.specs.List.{flat_map}
use Rattle.lrkit_c.specs.Errors.{lexeme_in}
use Rattle.lrkit_c.proofs.errors.lexemes_in.Given as goal

abbrev pub invariant-items : goal.invariant-items
invariant-items l = l.lexemes.items ≡ flat_map lexeme_in (take l.index l.items)
