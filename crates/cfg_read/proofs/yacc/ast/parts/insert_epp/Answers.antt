use Rattle.std.proofs.Common.{◌≡◌, ℕ, Bool, List, Some, is_some, false, true, refl, map, [], ◌∷◌, ◌++◌, if◌then◌else◌, sym, ap, ◌∙◌}
use Rattle.std.specs.Map.{lookup}
use Rattle.std.specs.String.{string_eq}
use Rattle.std.specs.declared.alloc.Global.{Global}
use Rattle.std.specs.declared.string.String.{String}
use Rattle.indexmap.specs.IndexMap.{insert_entry, set_value_at}
use Rattle.cfg_base.specs.SpanModel.{SpanModel}
use Rattle.cfg_read.specs.SyntaxTexts.{EppText}
use Rattle.cfg_read.specs.Asts.{has_epp}
use Rattle.cfg_read.specs.SyntaxModels.{epp_of}
use Rattle.cfg_read.specs.AstModels.{named_epp}
use Rattle.cfg_read.proofs.AstLemmas.{none_of, found_by, insert_by, put_back}
use Rattle.cfg_read.proofs.yacc.ast.parts.insert_epp.Goals as goal

pub returns-in-Some : goal.returns-in-Some
returns-in-Some c =
    let es = c.args.epps.now.entries in
    let k = c.args.epp.token.text in
    let e = epp_of c.args.epp in
    let v : SpanModel × (String Global × SpanModel) = (c.args.epp.token.span, (c.args.epp.text.text, c.args.epp.text.span)) in
    let first = c.in-Some.first in
    let name : EppText → List ℕ = λ x. x.token.text in
    let found : lookup (string_eq k) es ≡ Some first = sym c.in_ok-index.ensures.old ∙ c.in-Some.is in
    let test : has_epp (map named_epp es) e.token.text ≡ true = sym (found_by named_epp name (λ x. refl) es e.token.text) ∙ ap is_some found in
    ap (λ (l : List (String Global × (SpanModel × (String Global × SpanModel)))). map named_epp (set_value_at l c.in_ok-index.index first)) c.in_ok-index.ensures.entries
    ∙ ap (λ (n : ℕ). map named_epp (set_value_at (insert_entry string_eq es k v) n first)) c.in_ok-index.ensures.index
    ∙ put_back named_epp name (λ x. refl) es k v first found
    ∙ ap (λ (b : Bool). if b then map named_epp es else map named_epp es ++ e ∷ []) (sym test)

pub returns-in_default : goal.returns-in_default
returns-in_default c =
    let es = c.args.epps.now.entries in
    let k = c.args.epp.token.text in
    let e = epp_of c.args.epp in
    let v : SpanModel × (String Global × SpanModel) = (c.args.epp.token.span, (c.args.epp.text.text, c.args.epp.text.span)) in
    let name : EppText → List ℕ = λ x. x.token.text in
    let test : has_epp (map named_epp es) e.token.text ≡ false =
    sym (found_by named_epp name (λ x. refl) es e.token.text) ∙ sym (ap is_some c.in_ok-index.ensures.old) ∙ none_of c.in_ok-index.old c.in_default.not-Some in
    ap (map named_epp) c.in_ok-index.ensures.entries
    ∙ insert_by named_epp name (λ x. refl) es k v e.token.text refl test
    ∙ ap (λ (b : Bool). if b then map named_epp es else map named_epp es ++ e ∷ []) (sym test)
