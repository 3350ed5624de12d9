use Rattle.std.proofs.Common.{◌≡◌, ◌≤◌, map, length, IsCharBoundary}
use Rattle.regex.specs.Strings.{matcher_pattern}
use Rattle.maximal_munch.specs.RuleValues.{rule_set_of}
use Rattle.maximal_munch.specs.Munching.{len_at}
use Rattle.maximal_munch.proofs.BestSoFar.{IsBestOf}
use Rattle.maximal_munch.proofs.matching.best_match.Given as goal

abbrev pub invariant-rules : goal.invariant-rules
invariant-rules l = record {
  best : IsBestOf (len_at (rule_set_of l.rules) l.condition l.rest) l.tried l.index l.best.rule l.best.len;
  within : l.best.len ≤ length l.rest;
  cut : IsCharBoundary l.rest l.best.len;
  same : map matcher_pattern l.matchers.items ≡ map matcher_pattern l.fn.matchers.items;
}
