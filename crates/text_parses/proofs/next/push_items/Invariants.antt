-- The tokens so far, and those of the lexemes that are left, are all.
use Rattle.std.proofs.Common.{◌≡◌, ◌++◌, drop}
use Rattle.std.specs.Prelude.{[]}
use Rattle.text_parses.specs.NextTokens.{front_tokens}
use Rattle.text_parses.proofs.next.push_items.Given as goal

abbrev pub invariant-items : goal.invariant-items
invariant-items l = (l.prefix.parser ≡ l.initial.prefix.parser) × (l.initial.prefix.tokens ≡ [] → l.prefix.tokens ++ front_tokens (drop l.item-index l.items) ≡ front_tokens l.items)
