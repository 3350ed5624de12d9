use Rattle.std.proofs.Common.{◌≡◌, ◌||◌, [], ◌∷◌, ◌++◌, map, not, if◌then◌else◌, sym, ap, ◌∙◌}
use Rattle.std.specs.String.{string_bytes}
use Rattle.cfg_read.specs.SyntaxTexts.{WordText}
use Rattle.cfg_read.specs.Names.{is_among}
use Rattle.cfg_read.specs.Asts.{Ast}
use Rattle.cfg_read.specs.AstModels.{ast_symbol_of, named_span, named_spans}
use Rattle.cfg_read.specs.NameModels.{has_name}
use Rattle.cfg_read.specs.Warnings.{WarningText, UnusedToken, expects_token, warnings_at, unused_tokens}
use Rattle.cfg_read.specs.WarningModels.{warnings_in}
use Rattle.cfg_read.proofs.WarningLemmas.{told_more, with_tokens}
use Rattle.cfg_read.proofs.yacc.ast.GrammarAST.push_unused_tokens.Goals as goal

pub tokens-preserved : goal.tokens-preserved
tokens-preserved c =
    let ast = c.args.self.now in
    let set = c.args.used.now in
    let q = string_bytes c.in-Some.name.now in
    let ws = warnings_in c.tokens.warnings.items in
    let w : WordText = record { text = q; span = c.in-Some.span.now } in
    let one : WarningText = record { kind = UnusedToken; spans = c.in-Some.span.now ∷ [] } in
    let symbols : map ast_symbol_of c.deref.result.now ≡ ast.expect_unused = ap (map ast_symbol_of) c.deref.ensures.value ∙ ap (λ (a : Ast). a.expect_unused) c.self.view_is in
    let implicit : named_spans c.self.inside.implicit_tokens ≡ ast.implicit_tokens = ap (λ (a : Ast). a.implicit_tokens) c.self.view_is in
    let silent : c.is_silent-is_silent.result ≡ (has_name set q || (is_among ast.implicit_tokens q || expects_token ast.expect_unused q)) =
    c.is_silent-is_silent.ensures
    ∙ ap (λ t. has_name set t || (is_among (named_spans c.self.inside.implicit_tokens) t || has_name c.in_ok-expected.expected t)) c.as_str.ensures.value
    ∙ ap (λ ws. has_name set q || (is_among ws q || has_name c.in_ok-expected.expected q)) implicit
    ∙ ap (λ b. has_name set q || (is_among ast.implicit_tokens q || b)) (c.in_ok-expected.ensures q ∙ ap (λ ss. expects_token ss q) symbols) in
    told_more UnusedToken ws (warnings_in c.push_if.new.warnings.items) (not (has_name set q || (is_among ast.implicit_tokens q || expects_token ast.expect_unused q))) w (unused_tokens (has_name set) (with_tokens ast (map named_span c.next.new.self)))
    (c.in-Ok.ensures ∙ ap (λ b. ws ++ (if not b then one ∷ [] else [])) silent)
    ∙ ap (λ es. ws ++ warnings_at UnusedToken (unused_tokens (has_name set) (with_tokens ast (map named_span es)))) (sym c.in-Some.ensures.steps)
    ∙ c.tokens.invariant
