use Rattle.std.proofs.Common.{◌≡◌, ◌++◌, map}
use Rattle.lex_files.specs.LexFiles.{rule_value}
use Rattle.lrlex.specs.Lexing.{rules_of, names_of}
use Rattle.lrlex.specs.LexTexts.{AddsLines}
use Rattle.lrlex.proofs.from_text.push_rules.Given as goal

abbrev pub invariant-each : goal.invariant-each
invariant-each l = AddsLines (map rule_value l.yielded) (rules_of l.fn.rules) (rules_of l.rules) × (names_of l.rules ≡ names_of l.fn.rules ++ map (λ r. r.name) (map rule_value l.yielded))
