use Rattle.std.proofs.Common.{◌≡◌, map, fold}
use Rattle.cfg_read.specs.AstModels.{named_rules, own_names, rule_keys}
use Rattle.cfg_read.specs.AstBuild.{with_first, fresh_rule}
use Rattle.cfg_read.specs.Judging.{words_of_fresh}
use Rattle.cfg_read.specs.Settling.{fresh_entry, named_fresh}
use Rattle.cfg_read.proofs.yacc.ast.fresh.insert_fresh_rules.Given as goal

abbrev pub invariant-fresh : goal.invariant-fresh
invariant-fresh l =
    (fold with_first (named_rules l.rules) (map fresh_rule (words_of_fresh (map fresh_entry l.name-iterator)))
    ≡ fold with_first (named_rules l.fn.rules) (map fresh_rule (words_of_fresh (named_fresh l.fresh))))
    × (own_names l.rules ≡ rule_keys l.rules)
