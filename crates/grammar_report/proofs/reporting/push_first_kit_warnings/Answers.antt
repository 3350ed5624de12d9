use Rattle.std.proofs.Common.{ℕ, List, ◌≡◌, ◌++◌, ap, append_assoc, ◌∙◌}
use Rattle.std.proofs.lemmas.List.Elements.{All-append}
use Rattle.cfg_read.specs.Asts.{Ast}
use Rattle.text_messages.specs.Added.{AddsSome, AddsWarnings, MessagesValue, Said}
use Rattle.text_messages.specs.declared.source.Severity.TheVariants.{Warning}
use Rattle.text_messages.proofs.AddedMessages.{adds_more}
use Rattle.grammar_report.specs.Messages.{AreFirstWarnings}
use Rattle.grammar_report.proofs.reporting.push_first_kit_warnings.Goals as goal

-- further warnings behind those of unused names
warns_behind : (text : List ℕ) (most : ℕ) (ast : Ast) (left : ℕ) (a b c : MessagesValue) → AddsSome (AreFirstWarnings text most ast left) a b → AddsWarnings b c → AddsSome (AreFirstWarnings text most ast left) a c
warns_behind text most ast left a b c (these, (unused, more, are, warn, eq), s) (t, warns, h) = (these ++ t, (unused, more ++ t, are, All-append (λ (m : Said). m.severity ≡ Warning) more t warn warns, ap (λ (l : List Said). l ++ t) eq ∙ append_assoc unused more t), adds_more these t a b c s h)

pub returns : goal.returns
returns c =
    let a = c.args.messages.now in
    warns_behind a.text c.args.most c.args.kit.now.kept.ast c.in_ok-left.left a _ _ (rw c.ast.ensures at c.in_ok-left.ensures) c.in_ok-push_idle.ensures
