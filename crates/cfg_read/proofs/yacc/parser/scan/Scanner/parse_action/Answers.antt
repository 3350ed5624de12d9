use Rattle.std.proofs.Common.{sym, ◌∙◌}
use Rattle.cfg_read.specs.SyntaxModels.{word_of}
use Rattle.cfg_read.specs.Reading.{here, action}
use Rattle.cfg_read.specs.SyntaxErrors.{late_action, open_action}
use Rattle.cfg_read.proofs.Chains.{one, and_stops}
use Rattle.cfg_read.proofs.Drafts.{map_is_none, some_is, none_is}
use Rattle.cfg_read.proofs.yacc.parser.scan.Scanner.parse_action.Goals as goal

pub returns-then-is_some-clause-err : goal.returns-then-is_some-clause-err
returns-then-is_some-clause-err c = λ r x. and_stops here (late_action c.requires.brace (map_is_none word_of c.args.draft.now.action ∙ some_is _ (sym c.is_some.ensures ∙ c.if-is_some.true)))

pub returns-in_default-clause-err : goal.returns-in_default-clause-err
returns-in_default-clause-err c = λ r x. and_stops here (open_action c.requires.brace (map_is_none word_of c.args.draft.now.action ∙ none_is _ (sym c.is_some.ensures ∙ c.if-is_some.false)) (sym c.action_end.ensures.value ∙ c.in_default.is))

pub returns-clause-ok : goal.returns-clause-ok
returns-clause-ok c = λ r x. rw (c.add_action.ensures.value, c.in_ok-word.ensures) (one (action c.requires.brace (map_is_none word_of c.args.draft.now.action ∙ none_is _ (sym c.is_some.ensures ∙ c.if-is_some.false)) (sym c.action_end.ensures.value ∙ c.in-Some.is)))
