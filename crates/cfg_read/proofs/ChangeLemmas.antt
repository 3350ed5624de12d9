-- Rules that are put into a syntax tree, and found there.
use Rattle.std.proofs.Common.{◌≡◌, ℕ, zero, suc, Bool, true, false, List, [], ◌∷◌, map, if◌then◌else◌, cond, refl, sym, ap, ◌∙◌, slice_get, Some, option_map, Result, Ok, Err, OnErr}
use Rattle.std.specs.Map.{values_of, lookup}
use Rattle.std.specs.Str.{bytes_eq}
use Rattle.std.specs.String.{string_bytes, string_eq}
use Rattle.std.specs.declared.alloc.Global.{Global}
use Rattle.std.specs.declared.string.String.{String}
use Rattle.std.proofs.lemmas.Slice.Eq.{bytes_eq-Decides}
use Rattle.indexmap.specs.IndexMap.{set_value_at, insert_entry}
use Rattle.cfg_read.specs.declared.yacc.ast.Rule.{Rule}
use Rattle.cfg_base.specs.SpanModel.{SpanModel}
use Rattle.cfg_read.specs.SyntaxTexts.{WordText, EppText}
use Rattle.cfg_read.specs.Asts.{Ast, RuleAst, ProductionAst, PrecedenceAst}
use Rattle.cfg_read.specs.AstChanges.{put_rule, rule_named}
use Rattle.cfg_read.specs.AstModels.{named_span, named_rule, rule_entry_of}
use Rattle.cfg_read.proofs.RuleLemmas.{with_text}

abbrev pub own : String Global × Rule → List ℕ
own e = string_bytes e.1.name.0

abbrev pub key : String Global × Rule → List ℕ
key e = string_bytes e.0

pub put_entry : (es : List (String Global × Rule)) (k : String Global) (v : Rule) → map named_rule (insert_entry string_eq es k v) ≡ put_rule (map named_rule es) (named_rule (k, v))
put_entry [] k v = refl
put_entry (e ∷ es) k v = by (bytes_eq (string_bytes k) (string_bytes e.0)) refl (put_entry es k v)
  where
    by : (b : Bool) → bytes_eq (string_bytes k) (string_bytes e.0) ≡ b → map named_rule (insert_entry string_eq es k v) ≡ put_rule (map named_rule es) (named_rule (k, v))
        → map named_rule (if b then (e.0, v) ∷ es else e ∷ insert_entry string_eq es k v) ≡ (if b then named_rule (k, v) ∷ map named_rule es else named_rule e ∷ put_rule (map named_rule es) (named_rule (k, v)))
    by true same rest = ap (λ (t : List ℕ). with_text t (named_rule (k, v)) ∷ map named_rule es) (sym ((bytes_eq-Decides (string_bytes k) (string_bytes e.0)).0 same))
    by false other rest = ap (λ l. named_rule e ∷ l) rest

head_same : (x y : List ℕ) (xs ys : List (List ℕ)) → x ∷ xs ≡ y ∷ ys → x ≡ y
head_same x y xs ys e = cc

tail_same : (x y : List ℕ) (xs ys : List (List ℕ)) → x ∷ xs ≡ y ∷ ys → xs ≡ ys
tail_same x y xs ys e = cc

pub names_put : (es : List (String Global × Rule)) (k : String Global) (v : Rule) → string_bytes v.name.0 ≡ string_bytes k → map own es ≡ map key es → map own (insert_entry string_eq es k v) ≡ map key (insert_entry string_eq es k v)
names_put [] k v same h = ap (λ t. t ∷ []) same
names_put (e ∷ es) k v same h =
    by (bytes_eq (string_bytes k) (string_bytes e.0)) refl (names_put es k v same (tail_same (own e) (key e) (map own es) (map key es) h))
  where
    by : (b : Bool) → bytes_eq (string_bytes k) (string_bytes e.0) ≡ b → map own (insert_entry string_eq es k v) ≡ map key (insert_entry string_eq es k v)
        → map own (if b then (e.0, v) ∷ es else e ∷ insert_entry string_eq es k v) ≡ map key (if b then (e.0, v) ∷ es else e ∷ insert_entry string_eq es k v)
    by true e0 rest =
        ap (λ t. t ∷ map own es) (same ∙ (bytes_eq-Decides (string_bytes k) (string_bytes e.0)).0 e0)
        ∙ ap (λ l. key e ∷ l) (tail_same (own e) (key e) (map own es) (map key es) h)
    by false e0 rest = ap (λ t. t ∷ map own (insert_entry string_eq es k v)) (head_same (own e) (key e) (map own es) (map key es) h) ∙ ap (λ l. key e ∷ l) rest

pub rule_found : (es : List (String Global × Rule)) (q : List ℕ) → map own es ≡ map key es → option_map rule_entry_of (lookup (λ (k : String Global). bytes_eq q (string_bytes k)) es) ≡ rule_named (map named_rule es) q
rule_found [] q h = refl
rule_found (e ∷ es) q h = by (bytes_eq q (string_bytes e.0)) (rule_found es q (tail_same (own e) (key e) (map own es) (map key es) h))
  where
    by : (b : Bool) → option_map rule_entry_of (lookup (λ (k : String Global). bytes_eq q (string_bytes k)) es) ≡ rule_named (map named_rule es) q
        → option_map rule_entry_of (cond b (Some e.1) (lookup (λ (k : String Global). bytes_eq q (string_bytes k)) es)) ≡ (if b then Some (named_rule e) else rule_named (map named_rule es) q)
    by true rest = ap (λ (t : List ℕ). Some (with_text t (named_rule e))) (head_same (own e) (key e) (map own es) (map key es) h)
    by false rest = rest

same_value : (old new : Rule) → Some old ≡ Some new → old ≡ new
same_value old new e = cc

-- a write of what was there
pub rules_stay : (es : List (String Global × Rule)) (i : ℕ) (old new : Rule) → slice_get (values_of es) i ≡ Some old → ((k : String Global) → named_rule (k, new) ≡ named_rule (k, old))
    → map named_rule (set_value_at es i new) ≡ map named_rule es
rules_stay [] i old new at same = refl
rules_stay (e ∷ es) zero old new at same = ap (λ r. r ∷ map named_rule es) (same e.0 ∙ sym (ap (λ v. named_rule (e.0, v)) (same_value e.1 old at)))
rules_stay (e ∷ es) (suc i) old new at same = ap (λ l. named_rule e ∷ l) (rules_stay es i old new at same)

-- what holds anyhow holds after an error
pub on_err : {A E : Type 0} (r : Result A E) (P : Type 0) → P → OnErr r P
on_err (Ok x) P p = tt
on_err (Err e) P p = p

-- the values of a map from names to indices
pub places_are : (es : List (String Global × SpanModel)) → values_of es ≡ map (λ (w : WordText). w.span) (map named_span es)
places_are [] = refl
places_are (e ∷ es) = ap (λ (l : List SpanModel). e.1 ∷ l) (places_are es)

-- equal parts make equal trees
pub spans_put : (ast : Ast) {ts us : List WordText} → ts ≡ us → record ast { tokens = ts } ≡ record ast { tokens = us }
spans_put ast e = λ i. record ast { tokens = e i }

pub lines_put : (ast : Ast) {ls ms : List PrecedenceAst} {vs ws : List WordText} {is js : List WordText} {es fs : List EppText} → ls ≡ ms → vs ≡ ws → is ≡ js → es ≡ fs
    → record ast { precedences = ls; avoid_insert = vs; implicit_tokens = is; epp = es } ≡ record ast { precedences = ms; avoid_insert = ws; implicit_tokens = js; epp = fs }
lines_put ast e f g h = λ i. record ast { precedences = e i; avoid_insert = f i; implicit_tokens = g i; epp = h i }

pub prods_put : (ast : Ast) {ps qs : List ProductionAst} {rs ts : List RuleAst} → ps ≡ qs → rs ≡ ts → record ast { productions = ps; rules = rs } ≡ record ast { productions = qs; rules = ts }
prods_put ast e f = λ i. record ast { productions = e i; rules = f i }

pub tokens_put : (ast : Ast) {ts us : List WordText} {ps qs : List PrecedenceAst} {vs ws : List WordText} {is js : List WordText} → ts ≡ us → ps ≡ qs → vs ≡ ws → is ≡ js
    → record ast { tokens = ts; precedences = ps; avoid_insert = vs; implicit_tokens = is } ≡ record ast { tokens = us; precedences = qs; avoid_insert = ws; implicit_tokens = js }
tokens_put ast e f g h = λ i. record ast { tokens = e i; precedences = f i; avoid_insert = g i; implicit_tokens = h i }
