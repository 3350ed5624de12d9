-- Where a name stands among the keys of a map.
use Rattle.std.proofs.Common.{◌≡◌, ◌<◌, ℕ, zero, suc, ◌+◌, Bool, true, false, not, List, [], ◌∷◌, map, length, cond, refl, sym, ap, ◌∙◌, arith, slice_get, None, Some, is_some, position, nat_lt, true≢false}
use Rattle.std.specs.List.{position_or_len, IsDistinct, AllByRecursion}
use Rattle.std.specs.Map.{keys_of}
use Rattle.std.specs.Str.{bytes_eq}
use Rattle.std.specs.String.{string_bytes, string_eq}
use Rattle.std.specs.declared.alloc.Global.{Global}
use Rattle.std.specs.declared.string.String.{String}
use Rattle.std.proofs.lemmas.Bool.{lt-ltb}
use Rattle.std.proofs.lemmas.Option.{slice_get_within}
use Rattle.std.proofs.lemmas.Slice.Eq.{bytes_eq-Decides}
use Rattle.cfg_base.specs.SpanModel.{SpanModel}
use Rattle.cfg_read.specs.declared.yacc.ast.Rule.{Rule}
use Rattle.cfg_read.specs.Asts.{RuleAst}
use Rattle.cfg_read.specs.Names.{texts}
use Rattle.cfg_read.specs.AstModels.{key_text, named_rule, named_span}
use Rattle.cfg_read.proofs.RuleLemmas.{bytes_swap}

module _ {V : Type 0} where
  index_is : (q : List ℕ) (es : List (String Global × V)) → position_or_len (λ (k : String Global). bytes_eq q (string_bytes k)) (keys_of es) ≡ position_or_len (bytes_eq q) (map key_text es)
  index_is q [] = refl
  index_is q (e ∷ es) = ap (λ n. cond (not (bytes_eq q (string_bytes e.0))) (1 + n) 0) (index_is q es)

  as_many : (es : List (String Global × V)) → length (keys_of es) ≡ length (map key_text es)
  as_many [] = refl
  as_many (e ∷ es) = ap suc (as_many es)

  pub keys_place : (q : List ℕ) (es : List (String Global × V)) → position (λ (k : String Global). bytes_eq q (string_bytes k)) (keys_of es) ≡ position (bytes_eq q) (map key_text es)
  keys_place q es =
      let n = position_or_len (bytes_eq q) (map key_text es) in
      ap (λ m. cond (nat_lt m (length (keys_of es))) (Some m) None) (index_is q es)
      ∙ ap (λ k. cond (nat_lt n k) (Some n) None) (as_many es)

  same_key : (e f : String Global × V) → Some e ≡ Some f → string_bytes e.0 ≡ string_bytes f.0
  same_key e f h = cc

  each_apart : (k : String Global) (es : List (String Global × V)) (i : ℕ) (f : String Global × V) → AllByRecursion (λ y. string_eq k y ≡ false) (keys_of es) → slice_get es i ≡ Some f → bytes_eq (string_bytes k) (string_bytes f.0) ≡ false
  each_apart k [] i f all h = absurd (true≢false (sym (ap is_some h)))
  each_apart k (e ∷ es) zero f all h = ap (bytes_eq (string_bytes k)) (sym (same_key e f h)) ∙ all.0
  each_apart k (e ∷ es) (suc i) f all h = each_apart k es i f all.1 h

  index_found : (q : List ℕ) (es : List (String Global × V)) (i : ℕ) (f : String Global × V) → IsDistinct string_eq (keys_of es) → slice_get es i ≡ Some f → string_bytes f.0 ≡ q → position_or_len (bytes_eq q) (map key_text es) ≡ i
  unfolding IsDistinct
  index_found q [] i f apart h same = absurd (true≢false (sym (ap is_some h)))
  index_found q (e ∷ es) zero f apart h same =
      let here : bytes_eq q (string_bytes e.0) ≡ true = (bytes_eq-Decides q (string_bytes e.0)).1 (sym (same_key e f h ∙ same)) in
      ap (λ (b : Bool). cond (not b) (1 + position_or_len (bytes_eq q) (map key_text es)) 0) here
  index_found q (e ∷ es) (suc i) f apart h same =
      let other : bytes_eq q (string_bytes e.0) ≡ false = ap (λ t. bytes_eq t (string_bytes e.0)) (sym same) ∙ bytes_swap (string_bytes f.0) (string_bytes e.0) ∙ each_apart e.0 es i f apart.0 h in
      let next : 1 + i ≡ suc i = omega arith in
      ap (λ (b : Bool). cond (not b) (1 + position_or_len (bytes_eq q) (map key_text es)) 0) other
      ∙ ap (λ n. 1 + n) (index_found q es i f apart.1 h same)
      ∙ next

  within : (es : List (String Global × V)) (i : ℕ) (f : String Global × V) → slice_get es i ≡ Some f → i < length (map key_text es)
  within es i f h =
      let there : i < length es = slice_get_within es i f h in
      let count : length (map key_text es) ≡ length es = counted es in
      omega (arith, there, count)
    where
      counted : (es : List (String Global × V)) → length (map key_text es) ≡ length es
      counted [] = refl
      counted (e ∷ es) = ap suc (counted es)

  -- a place that is known to have the name
  pub place_found : (q : List ℕ) (es : List (String Global × V)) (i : ℕ) (f : String Global × V) → IsDistinct string_eq (keys_of es) → slice_get es i ≡ Some f → string_bytes f.0 ≡ q → Some i ≡ position (bytes_eq q) (map key_text es)
  place_found q es i f apart h same =
      let n = position_or_len (bytes_eq q) (map key_text es) in
      let len = length (map key_text es) in
      sym (
      ap (λ m. cond (nat_lt m len) (Some m) None) (index_found q es i f apart h same)
      ∙ ap (λ (b : Bool). cond b (Some i) None) (lt-ltb i len (within es i f h))
      )

-- the keys of rules, and of names with their spans
pub rule_texts : (es : List (String Global × Rule)) → map key_text es ≡ map (λ (r : RuleAst). r.name.text) (map named_rule es)
rule_texts [] = refl
rule_texts (e ∷ es) = ap (λ l. string_bytes e.0 ∷ l) (rule_texts es)

pub span_texts : (es : List (String Global × SpanModel)) → map key_text es ≡ texts (map named_span es)
span_texts [] = refl
span_texts (e ∷ es) = ap (λ l. string_bytes e.0 ∷ l) (span_texts es)
