use Rattle.lrlex.specs.Lexing.{rules_of, names_of}
use Rattle.lrlex.proofs.FileLines.{set_of, names_of_lines}
use Rattle.lrlex.proofs.from_text.push_file.Goals as goal

pub returns-in-Ok : goal.returns-in-Ok
returns-in-Ok c = record {
  set = set_of c.as_slice.result.now c.args.file.conditions.items c.args.file.rules.items (rules_of c.args.rules.now) (rules_of c.push_conditions.new.rules) (rules_of c.push_rules.new.rules) c.as_slice.ensures.value c.requires.rules c.in_default.ensures.rules c.in-Ok.ensures.rules;
  names = names_of_lines c.args.file.rules.items (names_of c.args.rules.now) (names_of c.push_conditions.new.rules) (names_of c.push_rules.new.rules) c.requires.names c.in_default.ensures.names c.in-Ok.ensures.names;
}
