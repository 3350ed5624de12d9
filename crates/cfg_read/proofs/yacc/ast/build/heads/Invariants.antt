use Rattle.std.proofs.Common.{◌≡◌, map, length, take}
use Rattle.std.specs.List.{flat_map}
use Rattle.cfg_read.specs.Asts.{heads_in}
use Rattle.cfg_read.specs.SyntaxModels.{rule_of}
use Rattle.cfg_read.specs.Judging.{heads_of}
use Rattle.cfg_read.proofs.yacc.ast.build.heads.Given as goal

abbrev pub invariant-rules : goal.invariant-rules
invariant-rules l =
    (heads_of l.heads.items ≡ flat_map heads_in (map rule_of (take l.rule-index l.rules)))
    × (length l.heads.items ≡ length (take l.rule-index l.rules))
