-- Texts of lists of symbols.
use Rattle.std.proofs.Common.{◌≡◌, ℕ, List, [], ◌∷◌, ◌++◌, sym, ap, ◌∙◌}
use Rattle.std.specs.Prelude.{map}
use Rattle.std.specs.List.{flat_map}
use Rattle.std.proofs.lemmas.List.{flat_map_more}
use Rattle.std.proofs.lemmas.Option.{slice_get-map, get_or_from_slice_get}
use Rattle.cfg_theory.specs.Grammar.{rule}
use Rattle.cfg_numbered.specs.Value.{GrammarValue, RuleFacts, IsRuleNamed}
use Rattle.cfg_numbered.specs.PrettyPrint.{name_of}

-- one more symbol behind a text
pub text_more : {X : Type 0} (f : X → List ℕ) (before now : List ℕ) (ys : List X) (x : X) → now ≡ before ++ flat_map f ys → now ++ f x ≡ before ++ flat_map f (ys ++ x ∷ [])
text_more f before now ys x h = ap (λ l. l ++ f x) h ∙ flat_map_more f before ys x

-- the name of a rule
pub rule_named : (g : GrammarValue) (A : ℕ) (name : List ℕ) → IsRuleNamed g A name → name ≡ name_of g (rule A)
rule_named g A name n = sym (get_or_from_slice_get (map (λ (r : RuleFacts). r.name) g.rules) A name [] (slice_get-map (λ (r : RuleFacts). r.name) g.rules A ∙ n.at))
