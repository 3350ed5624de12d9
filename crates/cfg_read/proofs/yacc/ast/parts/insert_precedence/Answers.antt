use Rattle.std.proofs.Common.{◌≡◌, ℕ, Bool, List, Some, is_some, false, true, refl, map, [], ◌∷◌, ◌++◌, if◌then◌else◌, sym, ap, ◌∙◌}
use Rattle.std.specs.Map.{lookup}
use Rattle.std.specs.String.{string_bytes, string_eq}
use Rattle.std.specs.declared.alloc.Global.{Global}
use Rattle.std.specs.declared.string.String.{String}
use Rattle.indexmap.specs.IndexMap.{insert_entry, set_value_at}
use Rattle.cfg_base.specs.SpanModel.{SpanModel}
use Rattle.cfg_base.specs.declared.precedence.Precedence.{Precedence}
use Rattle.cfg_read.specs.Asts.{PrecedenceAst, precedence_ast, has_precedence}
use Rattle.cfg_read.specs.SyntaxModels.{symbol_of}
use Rattle.cfg_read.specs.AstModels.{named_precedence}
use Rattle.cfg_read.proofs.AstLemmas.{none_of, found_by, insert_by, put_back}
use Rattle.cfg_read.proofs.yacc.ast.parts.insert_precedence.Goals as goal

abbrev name : PrecedenceAst → List ℕ
name x = x.token.text

pub returns-in-Some : goal.returns-in-Some
returns-in-Some c =
    let es = c.args.found.now.entries in
    let w = (symbol_of c.args.symbol.now).word in
    let p = c.args.precedence in
    let k = c.in_ok-key.key in
    let v : Precedence × SpanModel = (p, c.span.result) in
    let first = c.in-Some.first in
    let same : string_bytes k ≡ w.text = c.in_ok-key.ensures.ok ∙ c.as_str.ensures ∙ c.name.ensures in
    let found : lookup (string_eq k) es ≡ Some first = sym c.in_ok-index.ensures.old ∙ c.in-Some.is in
    let test : has_precedence (map named_precedence es) w.text ≡ true =
    ap (has_precedence (map named_precedence es)) (sym same) ∙ sym (found_by named_precedence name (λ x. refl) es (string_bytes k)) ∙ ap is_some found in
    ap (λ (l : List (String Global × (Precedence × SpanModel))). map named_precedence (set_value_at l c.in_ok-index.index first)) c.in_ok-index.ensures.entries
    ∙ ap (λ (n : ℕ). map named_precedence (set_value_at (insert_entry string_eq es k v) n first)) c.in_ok-index.ensures.index
    ∙ put_back named_precedence name (λ x. refl) es k v first found
    ∙ ap (λ (b : Bool). if b then map named_precedence es else map named_precedence es ++ precedence_ast p.level p.kind w ∷ []) (sym test)

pub returns-in_default : goal.returns-in_default
returns-in_default c =
    let es = c.args.found.now.entries in
    let w = (symbol_of c.args.symbol.now).word in
    let p = c.args.precedence in
    let k = c.in_ok-key.key in
    let at = c.span.result in
    let made : List ℕ → SpanModel → PrecedenceAst = λ t s. precedence_ast p.level p.kind (record { text = t; span = s }) in
    let same : string_bytes k ≡ w.text = c.in_ok-key.ensures.ok ∙ c.as_str.ensures ∙ c.name.ensures in
    let test : has_precedence (map named_precedence es) w.text ≡ false =
    ap (has_precedence (map named_precedence es)) (sym same) ∙ sym (found_by named_precedence name (λ x. refl) es (string_bytes k))
    ∙ sym (ap is_some c.in_ok-index.ensures.old) ∙ none_of c.in_ok-index.old c.in_default.not-Some in
    ap (map named_precedence) c.in_ok-index.ensures.entries
    ∙ insert_by named_precedence name (λ x. refl) es k (p, at) w.text same test
    ∙ ap (λ t. map named_precedence es ++ made t at ∷ []) same
    ∙ ap (λ s. map named_precedence es ++ made w.text s ∷ []) c.span.ensures
    ∙ ap (λ (b : Bool). if b then map named_precedence es else map named_precedence es ++ precedence_ast p.level p.kind w ∷ []) (sym test)
