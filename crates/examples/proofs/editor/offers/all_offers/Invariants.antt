-- The tokens so far are offered.
use Rattle.std.proofs.Common.{◌≡◌}
use Rattle.parse_trees.specs.Edits.{sequences_of}
use Rattle.examples.specs.Offers.{any_token}
use Rattle.examples.proofs.editor.offers.all_offers.Given as goal

abbrev pub invariant-tokens : goal.invariant-tokens
invariant-tokens l = sequences_of (λ t. t) l.all.items ≡ any_token l.token
