-- The words so far are the items so far.
use Rattle.std.proofs.Common.{◌≡◌, map, take}
use Rattle.text_parses.specs.LineItems.{text_item}
use Rattle.text_parses.proofs.words.text_items.Given as goal

abbrev pub invariant-words : goal.invariant-words
invariant-words l = l.items.items ≡ map text_item (take l.word-index l.words)
