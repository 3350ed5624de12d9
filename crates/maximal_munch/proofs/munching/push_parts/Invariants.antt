use Rattle.std.proofs.Common.{◌≡◌, ◌+◌, map, length}
use denote.Shadow.{shadow}
use denote.Text.{Utf8}
use Rattle.regex.specs.Strings.{matcher_pattern}
use Rattle.maximal_munch.specs.RuleValues.{rule_set_of, stack_of}
use Rattle.maximal_munch.proofs.MunchSteps.{SoFar}
use Rattle.maximal_munch.proofs.munching.push_parts.Given as goal

abbrev pub invariant-text : goal.invariant-text
invariant-text l =
    shadow (Utf8 l.rest) × (map matcher_pattern l.matchers.items ≡ map matcher_pattern l.fn.matchers.items)
    × SoFar (rule_set_of l.rules) l.text l.parts.items l.offset l.rest (stack_of l.conditions) × (l.offset + length l.rest ≡ length l.text)

abbrev pub decreases-text : goal.decreases-text
decreases-text l = length l.rest
