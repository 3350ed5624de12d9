use Rattle.std.proofs.Common.{◌≡◌, ℕ, List, Some, is_some, false, true, refl, map, sym, ap, ◌∙◌}
use Rattle.std.specs.Map.{lookup}
use Rattle.std.specs.String.{string_bytes, string_eq}
use Rattle.std.specs.declared.alloc.Global.{Global}
use Rattle.std.specs.declared.string.String.{String}
use Rattle.indexmap.specs.IndexMap.{insert_entry, set_value_at}
use Rattle.cfg_base.specs.SpanModel.{SpanModel}
use Rattle.cfg_read.specs.SyntaxTexts.{WordText}
use Rattle.cfg_read.specs.Names.{is_among}
use Rattle.cfg_read.specs.AstModels.{named_span, named_spans}
use Rattle.cfg_read.proofs.AstLemmas.{none_of, found_among, insert_new, put_back, distinct_new, distinct_known}
use Rattle.cfg_read.proofs.yacc.ast.parts.insert_first.Goals as goal

pub returns-in-Some : goal.returns-in-Some
returns-in-Some c =
    let es = c.args.spans.now.entries in
    let w : WordText = record { text = c.args.name.now; span = c.args.span } in
    let k = c.in_ok-key.key in
    let first = c.in-Some.first in
    let found : lookup (string_eq k) es ≡ Some first = sym c.in_ok-index.ensures.old ∙ c.in-Some.is in
    let test : is_among (map named_span es) w.text ≡ true = ap (is_among (map named_span es)) (sym c.in_ok-key.ensures.ok) ∙ sym (found_among es (string_bytes k)) ∙ ap is_some found in
    ap (λ (l : List (String Global × SpanModel)). map named_span (set_value_at l c.in_ok-index.index first)) c.in_ok-index.ensures.entries
    ∙ ap (λ (n : ℕ). map named_span (set_value_at (insert_entry string_eq es k w.span) n first)) c.in_ok-index.ensures.index
    ∙ put_back named_span (λ (v : WordText). v.text) (λ x. refl) es k w.span first found
    ∙ distinct_known (named_spans c.args.spans.now) w test

pub returns-in_default : goal.returns-in_default
returns-in_default c =
    let es = c.args.spans.now.entries in
    let w : WordText = record { text = c.args.name.now; span = c.args.span } in
    let k = c.in_ok-key.key in
    let test : is_among (map named_span es) w.text ≡ false =
    ap (is_among (map named_span es)) (sym c.in_ok-key.ensures.ok) ∙ sym (found_among es (string_bytes k)) ∙ sym (ap is_some c.in_ok-index.ensures.old) ∙ none_of c.in_ok-index.old c.in_default.not-Some in
    ap (map named_span) c.in_ok-index.ensures.entries ∙ insert_new es k w c.in_ok-key.ensures.ok test ∙ distinct_new (named_spans c.args.spans.now) w test
