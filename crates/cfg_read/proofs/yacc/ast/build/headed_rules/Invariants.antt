use Rattle.std.proofs.Common.{◌≡◌, [], map, take, fold, option_map}
use Rattle.cfg_read.specs.Asts.{text_of}
use Rattle.cfg_read.specs.AstModels.{named_rules, own_names, rule_keys}
use Rattle.cfg_read.specs.SyntaxModels.{word_of, rule_of}
use Rattle.cfg_read.specs.AstBuild.{headed, with_first}
use Rattle.cfg_read.proofs.yacc.ast.build.headed_rules.Given as goal

abbrev pub invariant-headings : goal.invariant-headings
invariant-headings l =
    (named_rules l.rules ≡ fold with_first [] (map (headed (text_of (option_map (λ w. word_of w.now) l.shared))) (map rule_of (take l.rule-index l.headings))))
    × (own_names l.rules ≡ rule_keys l.rules)
