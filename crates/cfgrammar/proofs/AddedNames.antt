-- Names of the file grammar, and names that end in `?`, are none of the added rules.
use Rattle.std.proofs.Common.{◌≡◌, ℕ, Bool, true, false, ◌||◌, List, [], ◌∷◌, All, refl, sym, ap, ◌∙◌, true≢false}
use Rattle.std.specs.List.{list_any}
use Rattle.std.specs.Str.{bytes_eq}
use Rattle.std.proofs.lemmas.List.Elements.{All-head, All-tail}
use Rattle.std.proofs.lemmas.Slice.Eq.{bytes_eq-Decides}
use Rattle.cfg_read.specs.Asts.{Ast}
use Rattle.cfg_read.specs.WellFormedAst.{is_rule_name, NamesAreWords, names_of_rules}
use Rattle.cfgrammar.specs.FromAst.{start_name, implicit_start_name, implicit_name, NamesNoAdded}

-- A text that is no name of a rule is none of a list of such names.
not_among : (q : List ℕ) → is_rule_name q ≡ false → (names : List (List ℕ)) → All (λ (name : List ℕ). is_rule_name name ≡ true) names → list_any (bytes_eq q) names ≡ false
not_among q other [] h = refl
not_among q other (name ∷ names) h = by (bytes_eq q name) refl (not_among q other names (All-tail (λ (n : List ℕ). is_rule_name n ≡ true) name names h))
  where
    is : is_rule_name name ≡ true
    is = All-head (λ (n : List ℕ). is_rule_name n ≡ true) name names h

    by : (b : Bool) → bytes_eq q name ≡ b → list_any (bytes_eq q) names ≡ false → (b || list_any (bytes_eq q) names) ≡ false
    by true e rest = absurd (true≢false (sym is ∙ (sym (ap is_rule_name ((bytes_eq-Decides q name).0 e)) ∙ other)))
    by false e rest = rest

pub names_not_added : (ast : Ast) → NamesAreWords ast → NamesNoAdded ast
names_not_added ast h = record {
  start = not_among start_name refl (names_of_rules ast) h;
  implicit_start = not_among implicit_start_name refl (names_of_rules ast) h;
  implicit = not_among implicit_name refl (names_of_rules ast) h;
}
