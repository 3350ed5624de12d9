use Rattle.std.proofs.Common.{◌≡◌, map, length, take}
use Rattle.cfg_read.specs.AstModels.{named_rules, own_names, rule_keys}
use Rattle.cfg_read.specs.Judging.{heads_of, with_numbers_at}
use Rattle.cfg_read.proofs.yacc.ast.build.number_headings.Given as goal

abbrev pub invariant-headings : goal.invariant-headings
invariant-headings l =
    (l.number ≡ length (heads_of (take l.head-index l.heads)))
    × (named_rules l.rules ≡ map (with_numbers_at 0 (heads_of (take l.head-index l.heads))) (named_rules l.fn.rules))
    × (own_names l.rules ≡ rule_keys l.rules)
