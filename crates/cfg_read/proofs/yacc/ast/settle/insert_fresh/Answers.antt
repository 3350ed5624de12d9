use Rattle.std.proofs.Common.{◌≡◌, true, false, Bool, [], ◌∷◌, ◌++◌, map, refl, ap, sym, ◌∙◌, if◌then◌else◌}
use Rattle.std.specs.String.{string_bytes}
use Rattle.cfg_read.specs.declared.yacc.ast.settle.Fresh.{Fresh}
use Rattle.cfg_read.specs.AstModels.{ast_symbol_of}
use Rattle.cfg_read.specs.Settling.{FreshAst, fresh_entry, named_fresh, has_fresh_ast}
use Rattle.cfg_read.proofs.AstLemmas.{found_by, insert_by}
use Rattle.cfg_read.proofs.yacc.ast.settle.insert_fresh.Goals as goal

pub returns-then-contains_key : goal.returns-then-contains_key
returns-then-contains_key c =
    let es = c.args.fresh.now.entries in
    let fs = named_fresh c.args.fresh.now in
    let q = string_bytes c.args.name in
    let f : FreshAst = record { word = record { text = q; span = c.args.span }; inner = ast_symbol_of c.args.inner } in
    let there : has_fresh_ast fs q ≡ true =
    ap (has_fresh_ast fs) (sym c.as_str.ensures.value) ∙ sym (found_by fresh_entry (λ (g : FreshAst). g.word.text) (λ e. refl) es c.as_str.result.now) ∙ sym c.contains_key.ensures ∙ c.if-contains_key.true in
    ap (λ (b : Bool). if b then fs else fs ++ f ∷ []) (sym there)

pub returns : goal.returns
returns c =
    let es = c.args.fresh.now.entries in
    let fs = named_fresh c.args.fresh.now in
    let q = string_bytes c.args.name in
    let f : FreshAst = record { word = record { text = q; span = c.args.span }; inner = ast_symbol_of c.args.inner } in
    let new : has_fresh_ast fs q ≡ false =
    ap (has_fresh_ast fs) (sym c.as_str.ensures.value) ∙ sym (found_by fresh_entry (λ (g : FreshAst). g.word.text) (λ e. refl) es c.as_str.result.now) ∙ sym c.contains_key.ensures ∙ c.if-contains_key.false in
    let v : Fresh = record { span = c.args.span; inner = c.args.inner } in
    ap (map fresh_entry) c.in_ok-insert.ensures.entries
    ∙ insert_by fresh_entry (λ (g : FreshAst). g.word.text) (λ e. refl) es c.args.name v q refl new
    ∙ ap (λ (b : Bool). if b then fs else fs ++ f ∷ []) (sym new)
