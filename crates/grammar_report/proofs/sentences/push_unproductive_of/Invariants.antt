use Rattle.std.proofs.Common.{◌≡◌, ◌++◌, map}
use Rattle.std.specs.Map.Iter.{deref_pair}
use Rattle.cfg_read.specs.Asts.{RuleAst}
use Rattle.cfg_read.specs.AstModels.{named_rule}
use Rattle.text_messages.specs.Added.{AddsSome, OneForEach}
use Rattle.grammar_report.specs.Messages.{IsOfUnproductive, IsUnproductive, is_start}
use Rattle.grammar_report.proofs.sentences.push_unproductive_of.Given as goal

-- the rules so far and those that are left are all of them, and each so far that is unproductive has its message
abbrev pub invariant-rules : goal.invariant-rules
invariant-rules l =
    (map named_rule (map deref_pair l.yielded ++ l.name-iterator) ≡ l.ast.rules)
    × AddsSome (OneForEach (λ (r : RuleAst). IsUnproductive l.grm r.name.text) (λ (r : RuleAst) m. IsOfUnproductive l.initial.messages.text (is_start l.ast r.name.text) r.name.span m) (map named_rule (map deref_pair l.yielded))) l.initial.messages l.messages
