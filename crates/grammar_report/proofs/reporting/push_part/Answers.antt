use Rattle.std.proofs.Common.{List, ℕ, map, string_bytes, subst, sym}
use Rattle.text_messages.specs.Added.{said}
use Rattle.grammar_report.specs.Messages.{Shows, others}
use Rattle.grammar_report.proofs.reporting.push_part.Goals as goal

pub returns-in_ok-push : goal.returns-in_ok-push
returns-in_ok-push c = subst (λ (t : List ℕ). Shows c.args.source.now (string_bytes c.args.text.now) (map said c.args.messages.now) t) (sym c.in_ok-push.ensures.bytes) (others _ c.in_ok-push_messages.ensures)
