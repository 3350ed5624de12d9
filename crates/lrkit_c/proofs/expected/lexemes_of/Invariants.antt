-- The lexemes so far are those of C so far.
use Rattle.std.proofs.Common.{◌≡◌, map, take}
use Rattle.lrkit_c.specs.Parses.{lexeme_of}
use Rattle.lrkit_c.proofs.expected.lexemes_of.Given as goal

abbrev pub invariant-lexemes : goal.invariant-lexemes
invariant-lexemes l = l.list.items ≡ map lexeme_of (take l.index l.lexemes)
