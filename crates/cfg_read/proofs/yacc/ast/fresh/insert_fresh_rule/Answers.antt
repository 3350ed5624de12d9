use Rattle.std.proofs.Common.{◌≡◌, ℕ, Bool, true, false, List, [], ◌∷◌, ◌++◌, map, is_some, if◌then◌else◌, sym, ap, ◌∙◌}
use Rattle.std.proofs.lemmas.List.{map-append}
use Rattle.std.specs.Map.{lookup}
use Rattle.std.specs.Str.{bytes_eq}
use Rattle.std.specs.String.{string_bytes}
use Rattle.std.specs.declared.alloc.Global.{Global}
use Rattle.std.specs.declared.string.String.{String}
use Rattle.cfg_read.specs.declared.yacc.ast.Rule.{Rule}
use Rattle.cfg_read.specs.Asts.{RuleAst}
use Rattle.cfg_read.specs.AstModels.{named_rule}
use Rattle.cfg_read.specs.AstBuild.{fresh_rule, has_rule}
use Rattle.cfg_read.proofs.RuleLemmas.{entries_new, found_rule, with_text}
use Rattle.cfg_read.proofs.yacc.ast.fresh.insert_fresh_rule.Goals as goal

pub returns-in_ok-insert-clause-rules : goal.returns-in_ok-insert-clause-rules
returns-in_ok-insert-clause-rules c =
    let es = c.args.rules.now.entries in
    let q = c.args.name.now in
    let h = fresh_rule (record { text = q; span = c.args.span }) in
    let k = c.in_ok-key.key in
    let new = c.in_ok-new.new in
    let same : string_bytes k ≡ q = c.in_ok-key.ensures.ok in
    let none : is_some (lookup (λ (k : String Global). bytes_eq q (string_bytes k)) es) ≡ false = sym c.if-not-contains_key.ensures in
    let test : has_rule (map named_rule es) q ≡ false = sym (found_rule es q) ∙ none in
    ap (map named_rule) (c.in_ok-insert.ensures.entries ∙ entries_new q k new es same none)
    ∙ map-append named_rule es ((k, new) ∷ [])
    ∙ ap (λ (a : RuleAst). map named_rule es ++ with_text (string_bytes k) a ∷ []) c.in_ok-new.ensures
    ∙ ap (λ (t : List ℕ). map named_rule es ++ with_text t h ∷ []) same
    ∙ ap (λ (b : Bool). if b then map named_rule es else map named_rule es ++ h ∷ []) (sym test)

pub returns-in_ok-insert-clause-names : goal.returns-in_ok-insert-clause-names
returns-in_ok-insert-clause-names c =
    let es = c.args.rules.now.entries in
    let q = c.args.name.now in
    let k = c.in_ok-key.key in
    let new = c.in_ok-new.new in
    let own : String Global × Rule → List ℕ = λ e. string_bytes e.1.name.0 in
    let key : String Global × Rule → List ℕ = λ e. string_bytes e.0 in
    let same : string_bytes k ≡ q = c.in_ok-key.ensures.ok in
    let none : is_some (lookup (λ (k : String Global). bytes_eq q (string_bytes k)) es) ≡ false = sym c.if-not-contains_key.ensures in
    let entries = c.in_ok-insert.ensures.entries ∙ entries_new q k new es same none in
    ap (map own) entries ∙ map-append own es ((k, new) ∷ [])
    ∙ ap (λ l. l ++ string_bytes new.name.0 ∷ []) c.requires
    ∙ ap (λ (t : List ℕ). map key es ++ t ∷ []) (ap (λ (a : RuleAst). a.name.text) c.in_ok-new.ensures ∙ sym same)
    ∙ sym (map-append key es ((k, new) ∷ [])) ∙ sym (ap (map key) entries)

pub returns-in_err-insert-clause-names : goal.returns-in_err-insert-clause-names
returns-in_err-insert-clause-names c =
    let own : String Global × Rule → List ℕ = λ e. string_bytes e.1.name.0 in
    let key : String Global × Rule → List ℕ = λ e. string_bytes e.0 in
    ap (map own) c.in_err-insert.ensures.err ∙ c.requires ∙ sym (ap (map key) c.in_err-insert.ensures.err)

pub returns-else-not-contains_key-clause-rules : goal.returns-else-not-contains_key-clause-rules
returns-else-not-contains_key-clause-rules c =
    let es = c.args.rules.now.entries in
    let q = c.args.name.now in
    let h = fresh_rule (record { text = q; span = c.args.span }) in
    let test : has_rule (map named_rule es) q ≡ true = sym (found_rule es q) ∙ sym c.if-not-contains_key.ensures in
    ap (λ (b : Bool). if b then map named_rule es else map named_rule es ++ h ∷ []) (sym test)
