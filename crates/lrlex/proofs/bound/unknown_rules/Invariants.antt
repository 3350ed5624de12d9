use Rattle.std.proofs.Common.{◌≡◌}
use Rattle.lrlex.specs.Lexing.{numbers_below, is_unknown, meaning_at}
use Rattle.lrlex.proofs.bound.unknown_rules.Given as goal

abbrev pub invariant-rules : goal.invariant-rules
invariant-rules g l = l.numbers.items ≡ numbers_below (λ k. is_unknown (meaning_at l.meanings k)) l.rule
