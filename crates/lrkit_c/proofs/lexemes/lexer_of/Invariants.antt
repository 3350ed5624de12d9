-- The items so far are those of the lexemes so far.
use Rattle.std.proofs.Common.{◌≡◌, take}
use Rattle.lrkit_c.specs.Parses.{items_of}
use Rattle.lrkit_c.proofs.lexemes.lexer_of.Given as goal

abbrev pub invariant-lexemes : goal.invariant-lexemes
invariant-lexemes l = l.items.items ≡ items_of (take l.index l.lexemes)
