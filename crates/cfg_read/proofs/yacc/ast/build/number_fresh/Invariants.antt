use Rattle.std.proofs.Common.{◌≡◌, ◌+◌, map, length}
use Rattle.std.specs.List.{flat_map}
use Rattle.cfg_read.specs.AstModels.{named_rules, own_names, rule_keys}
use Rattle.cfg_read.specs.Judging.{both_heads, with_numbers_at}
use Rattle.cfg_read.specs.Settling.{fresh_entry, named_fresh}
use Rattle.cfg_read.proofs.yacc.ast.build.number_fresh.Given as goal

abbrev pub invariant-fresh : goal.invariant-fresh
invariant-fresh l =
    (l.number + length (flat_map both_heads (map fresh_entry l.name-iterator)) ≡ l.start + length (flat_map both_heads (named_fresh l.fresh)))
    × (map (with_numbers_at l.number (flat_map both_heads (map fresh_entry l.name-iterator))) (named_rules l.rules)
    ≡ map (with_numbers_at l.start (flat_map both_heads (named_fresh l.fresh))) (named_rules l.fn.rules))
    × (own_names l.rules ≡ rule_keys l.rules)
