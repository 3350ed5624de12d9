use Rattle.std.proofs.Common.{◌≡◌, ℕ, Bool, true, false, List, [], ◌∷◌, ◌++◌, Some, map, is_some, if◌then◌else◌, option_map, refl, sym, ap, ◌∙◌}
use Rattle.std.proofs.lemmas.List.{map-append}
use Rattle.std.specs.Map.{lookup}
use Rattle.std.specs.Str.{bytes_eq}
use Rattle.std.specs.String.{string_bytes, string_eq}
use Rattle.std.specs.declared.alloc.Global.{Global}
use Rattle.std.specs.declared.string.String.{String}
use Rattle.indexmap.specs.IndexMap.{insert_entry, set_value_at}
use Rattle.cfg_read.specs.declared.yacc.ast.Rule.{Rule}
use Rattle.cfg_read.specs.Asts.{RuleAst, text_of}
use Rattle.cfg_read.specs.AstModels.{named_rule}
use Rattle.cfg_read.specs.SyntaxModels.{word_of, rule_of}
use Rattle.cfg_read.specs.AstBuild.{headed, has_rule}
use Rattle.cfg_read.proofs.AstLemmas.{none_of, put_back}
use Rattle.cfg_read.proofs.ChangeLemmas.{own, key}
use Rattle.cfg_read.proofs.RuleLemmas.{entries_new, found_rule, with_text, both_names, own_of_both, key_of_both}
use Rattle.cfg_read.proofs.yacc.ast.build.insert_heading.Goals as goal

pub returns-in-Some-clause-rules : goal.returns-in-Some-clause-rules
returns-in-Some-clause-rules c =
    let es = c.args.rules.now.entries in
    let r = rule_of c.args.rule.now in
    let h = headed (text_of (option_map (λ w. word_of w.now) c.args.shared)) r in
    let k = c.in_ok-key.key in
    let new = c.in_ok-new.new in
    let first = c.in-Some.first in
    let same : string_bytes k ≡ r.name.text = c.in_ok-key.ensures.ok ∙ c.as_str.ensures in
    let found : lookup (string_eq k) es ≡ Some first = sym c.in_ok-index.ensures.old ∙ c.in-Some.is in
    let test : has_rule (map named_rule es) r.name.text ≡ true = ap (has_rule (map named_rule es)) (sym same) ∙ sym (found_rule es (string_bytes k)) ∙ ap is_some found in
    ap (λ (l : List (String Global × Rule)). map named_rule (set_value_at l c.in_ok-index.index first)) c.in_ok-index.ensures.entries
    ∙ ap (λ (n : ℕ). map named_rule (set_value_at (insert_entry string_eq es k new) n first)) c.in_ok-index.ensures.index
    ∙ put_back named_rule (λ (x : RuleAst). x.name.text) (λ x. refl) es k new first found
    ∙ ap (λ (b : Bool). if b then map named_rule es else map named_rule es ++ h ∷ []) (sym test)

pub returns-in-Some-clause-names : goal.returns-in-Some-clause-names
returns-in-Some-clause-names c =
    let es = c.args.rules.now.entries in
    let k = c.in_ok-key.key in
    let new = c.in_ok-new.new in
    let first = c.in-Some.first in
    let now : List (String Global × Rule) = set_value_at c.insert_full.new.self.entries c.in_ok-index.index first in
    let found : lookup (string_eq k) es ≡ Some first = sym c.in_ok-index.ensures.old ∙ c.in-Some.is in
    let back : map both_names now ≡ map both_names es =
    ap (λ (l : List (String Global × Rule)). map both_names (set_value_at l c.in_ok-index.index first)) c.in_ok-index.ensures.entries
    ∙ ap (λ (n : ℕ). map both_names (set_value_at (insert_entry string_eq es k new) n first)) c.in_ok-index.ensures.index
    ∙ put_back both_names (λ (x : List ℕ × List ℕ). x.0) (λ x. refl) es k new first found in
    own_of_both now ∙ ap (map (λ (x : List ℕ × List ℕ). x.1)) back ∙ sym (own_of_both es)
    ∙ c.requires
    ∙ key_of_both es ∙ sym (ap (map (λ (x : List ℕ × List ℕ). x.0)) back) ∙ sym (key_of_both now)

pub returns-in_default-clause-rules : goal.returns-in_default-clause-rules
returns-in_default-clause-rules c =
    let es = c.args.rules.now.entries in
    let r = rule_of c.args.rule.now in
    let h = headed (text_of (option_map (λ w. word_of w.now) c.args.shared)) r in
    let k = c.in_ok-key.key in
    let new = c.in_ok-new.new in
    let same : string_bytes k ≡ r.name.text = c.in_ok-key.ensures.ok ∙ c.as_str.ensures in
    let none : is_some (lookup (λ (k : String Global). bytes_eq r.name.text (string_bytes k)) es) ≡ false =
    ap (λ (q : List ℕ). is_some (lookup (λ (k : String Global). bytes_eq q (string_bytes k)) es)) (sym same) ∙ sym (ap is_some c.in_ok-index.ensures.old) ∙ none_of c.in_ok-index.old c.in_default.not-Some in
    let test : has_rule (map named_rule es) r.name.text ≡ false = sym (found_rule es r.name.text) ∙ none in
    ap (map named_rule) (c.in_ok-index.ensures.entries ∙ entries_new r.name.text k new es same none)
    ∙ map-append named_rule es ((k, new) ∷ [])
    ∙ ap (λ (t : List ℕ). map named_rule es ++ named_rule (k, new) ∷ []) same
    ∙ ap (λ (a : RuleAst). map named_rule es ++ with_text (string_bytes k) a ∷ []) c.in_ok-new.ensures
    ∙ ap (λ (t : List ℕ). map named_rule es ++ with_text t h ∷ []) same
    ∙ ap (λ (b : Bool). if b then map named_rule es else map named_rule es ++ h ∷ []) (sym test)

pub returns-in_default-clause-names : goal.returns-in_default-clause-names
returns-in_default-clause-names c =
    let es = c.args.rules.now.entries in
    let q = (rule_of c.args.rule.now).name.text in
    let k = c.in_ok-key.key in
    let new = c.in_ok-new.new in
    let same : string_bytes k ≡ q = c.in_ok-key.ensures.ok ∙ c.as_str.ensures in
    let none : is_some (lookup (λ (k : String Global). bytes_eq q (string_bytes k)) es) ≡ false =
    ap (λ (q : List ℕ). is_some (lookup (λ (k : String Global). bytes_eq q (string_bytes k)) es)) (sym same) ∙ sym (ap is_some c.in_ok-index.ensures.old) ∙ none_of c.in_ok-index.old c.in_default.not-Some in
    let entries = c.in_ok-index.ensures.entries ∙ entries_new q k new es same none in
    ap (map own) entries ∙ map-append own es ((k, new) ∷ [])
    ∙ ap (λ l. l ++ string_bytes new.name.0 ∷ []) c.requires
    ∙ ap (λ (t : List ℕ). map key es ++ t ∷ []) (ap (λ (a : RuleAst). a.name.text) c.in_ok-new.ensures ∙ sym same)
    ∙ sym (map-append key es ((k, new) ∷ [])) ∙ sym (ap (map key) entries)
