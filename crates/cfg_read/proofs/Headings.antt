-- Where the rules of a map have their headings.
use Rattle.std.proofs.Common.{◌≡◌, ℕ, Bool, true, false, cond, List, [], ◌∷◌, map, Some, option_map, if◌then◌else◌, refl}
use Rattle.std.specs.Map.{lookup}
use Rattle.std.specs.Str.{bytes_eq}
use Rattle.std.specs.String.{string_bytes}
use Rattle.std.specs.declared.alloc.Global.{Global}
use Rattle.std.specs.declared.string.String.{String}
use Rattle.cfg_base.specs.SpanModel.{SpanModel}
use Rattle.cfg_read.specs.declared.yacc.ast.Rule.{Rule as RuleEntry}
use Rattle.cfg_read.specs.AstModels.{named_rule}
use Rattle.cfg_read.specs.ValidityInfo.{heading_at}

abbrev pub index_of_name : RuleEntry → SpanModel
index_of_name r = r.name.1

pub heading_found : (es : List (String Global × RuleEntry)) (q : List ℕ) → option_map index_of_name (lookup (λ (k : String Global). bytes_eq q (string_bytes k)) es) ≡ heading_at (map named_rule es) q
heading_found [] q = refl
heading_found (e ∷ es) q = by (bytes_eq q (string_bytes e.0)) (heading_found es q)
  where
    by : (b : Bool) → option_map index_of_name (lookup (λ (k : String Global). bytes_eq q (string_bytes k)) es) ≡ heading_at (map named_rule es) q
        → option_map index_of_name (cond b (Some e.1) (lookup (λ (k : String Global). bytes_eq q (string_bytes k)) es)) ≡ (if b then Some e.1.name.1 else heading_at (map named_rule es) q)
    by true rest = refl
    by false rest = rest
