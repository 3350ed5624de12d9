-- The lexemes so far are read.
use Rattle.std.proofs.Common.{◌≡◌, ◌++◌, take}
use Rattle.lrkit_c.specs.Reading.{tokens_in}
use Rattle.lrkit_c.proofs.reading.read_on.Given as goal

abbrev pub invariant-lexemes : goal.invariant-lexemes
invariant-lexemes l = (l.prefix.parser ≡ l.initial.prefix.parser) × (l.prefix.tokens ≡ l.initial.prefix.tokens ++ tokens_in (take l.index l.left))
