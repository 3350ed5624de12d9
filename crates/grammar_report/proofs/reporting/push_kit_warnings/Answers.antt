use Rattle.std.proofs.Common.{◌≡◌, ℕ, List, ◌++◌, ap, append_assoc, ◌∙◌}
use Rattle.std.proofs.lemmas.List.Elements.{All-append}
use Rattle.std.proofs.lemmas.Result.{on_ok_weaker}
use Rattle.cfg_read.specs.Asts.{Ast}
use Rattle.text_messages.specs.Added.{AddsSome, AddsWarnings, MessagesValue, Said}
use Rattle.text_messages.specs.declared.source.Severity.TheVariants.{Warning}
use Rattle.text_messages.proofs.AddedMessages.{adds_more}
use Rattle.grammar_report.specs.Messages.{AreOfWarnings}
use Rattle.grammar_report.proofs.reporting.push_kit_warnings.Goals as goal

-- further warnings behind those of unused names
warns_behind : (text : List ℕ) (ast : Ast) (a b c : MessagesValue) → AddsSome (AreOfWarnings text ast) a b → AddsWarnings b c → AddsSome (AreOfWarnings text ast) a c
warns_behind text ast a b c (these, (unused, more, are, warn, eq), s) (t, warns, h) = (these ++ t, (unused, more ++ t, are, All-append (λ (m : Said). m.severity ≡ Warning) more t warn warns, ap (λ (l : List Said). l ++ t) eq ∙ append_assoc unused more t), adds_more these t a b c s h)

pub returns : goal.returns
returns c =
    let a = c.args.messages.now in
    on_ok_weaker c.push_idle.result (warns_behind a.text c.args.kit.now.kept.ast a _ _ (rw c.ast.ensures at c.in_ok-push_warnings.ensures)) c.push_idle.ensures
