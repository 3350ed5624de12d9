use Rattle.std.proofs.Common.{◌≡◌, ◌++◌, map, take}
use Rattle.lrlex.specs.Lexing.{rules_of, names_of}
use Rattle.lrlex.proofs.from_text.push_conditions.Given as goal

abbrev pub invariant-each : goal.invariant-each
invariant-each l = (rules_of l.rules ≡ record (rules_of l.fn.rules) { exclusive = (rules_of l.fn.rules).exclusive ++ map (λ c. c.exclusive) (take l.condition-index l.conditions) }) × (names_of l.rules ≡ names_of l.fn.rules)
