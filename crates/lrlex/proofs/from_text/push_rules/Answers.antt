use Rattle.lrlex.specs.Lexing.{rules_of, names_of}
use Rattle.lrlex.proofs.FileLines.{more_lines, more_names}
use Rattle.lrlex.proofs.from_text.push_rules.Goals as goal

pub each-preserved : goal.each-preserved
each-preserved c = (
  more_lines c.each.yielded c.in-Some.line (rules_of c.args.rules.now) (rules_of c.each.rules) (rules_of c.push_rule.new.rules) c.each.invariant.0 c.in-Ok.ensures.rules,
  more_names c.each.yielded c.in-Some.line (names_of c.args.rules.now) (names_of c.each.rules) (names_of c.push_rule.new.rules) c.each.invariant.1 c.in-Ok.ensures.names,
)
