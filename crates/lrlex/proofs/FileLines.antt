-- A line's rule behind those of others.
use Rattle.std.proofs.Common.{◌≡◌, ℕ, Bool, List, [], ◌∷◌, ◌++◌, map, Option, refl, subst, sym, ap, ◌∙◌, append_assoc}
use Rattle.maximal_munch.specs.RuleValues.{RuleSetValue}
use Rattle.lex_files.specs.LexFiles.{rule_value, condition_value}
use Rattle.lex_files.specs.declared.conditions.Condition.{Condition}
use Rattle.lex_files.specs.declared.rules.RuleText.{RuleText}
use Rattle.lrlex.specs.LexTexts.{AddsLine, AddsLines}

pub more_lines : (ys : List RuleText) (y : RuleText) (a b c : RuleSetValue) → AddsLines (map rule_value ys) a b → AddsLine (rule_value y) b c → AddsLines (map rule_value (ys ++ y ∷ [])) a c
more_lines [] y a b c e h = (c, subst (λ x. AddsLine (rule_value y) x c) (sym e) h, refl)
more_lines (x ∷ ys) y a b c h i = (h.0, h.1, more_lines ys y h.0 b c h.2 i)

abbrev pub names_in : List RuleText → List (Option (List ℕ))
names_in ys = map (λ r. r.name) (map rule_value ys)

names_more : (ys : List RuleText) (y : RuleText) → names_in ys ++ (rule_value y).name ∷ [] ≡ names_in (ys ++ y ∷ [])
names_more [] y = refl
names_more (x ∷ ys) y = ap (λ l. (rule_value x).name ∷ l) (names_more ys y)

pub more_names : (ys : List RuleText) (y : RuleText) (old now new : List (Option (List ℕ))) → now ≡ old ++ names_in ys → new ≡ now ++ (rule_value y).name ∷ [] → new ≡ old ++ names_in (ys ++ y ∷ [])
more_names ys y old now new h k = k ∙ ap (λ l. l ++ (rule_value y).name ∷ []) h ∙ append_assoc old (names_in ys) ((rule_value y).name ∷ []) ∙ ap (λ l. old ++ l) (names_more ys y)

exclusive_in : (cs : List Condition) → map (λ c. c.exclusive) cs ≡ map (λ c. c.exclusive) (map condition_value cs)
exclusive_in [] = refl
exclusive_in (c ∷ cs) = ap (λ l. c.exclusive ∷ l) (exclusive_in cs)

-- of no rule and no condition, with these conditions and lines
pub set_of : (ds cs : List Condition) (ls : List RuleText) (old mid new : RuleSetValue) → ds ≡ cs → old ≡ record { exclusive = []; rules = [] } → mid ≡ record old { exclusive = old.exclusive ++ map (λ c. c.exclusive) ds } →
    AddsLines (map rule_value ls) mid new → AddsLines (map rule_value ls) (record { exclusive = map (λ c. c.exclusive) (map condition_value cs); rules = [] }) new
set_of ds cs ls old mid new s e h a =
    let with_all : mid ≡ record { exclusive = map (λ c. c.exclusive) (map condition_value cs); rules = [] } =
    h ∙ ap (λ (v : RuleSetValue). record v { exclusive = v.exclusive ++ map (λ c. c.exclusive) ds }) e ∙ ap (λ (xs : List Condition). record { exclusive = map (λ c. c.exclusive) xs; rules = [] }) s ∙ ap (λ (xs : List Bool). record { exclusive = xs; rules = [] }) (exclusive_in cs) in
    subst (λ v. AddsLines (map rule_value ls) v new) with_all a

pub names_of_lines : (ls : List RuleText) (old mid new : List (Option (List ℕ))) → old ≡ [] → mid ≡ old → new ≡ mid ++ names_in ls → new ≡ names_in ls
names_of_lines ls old mid new e h k = k ∙ ap (λ l. l ++ names_in ls) (h ∙ e)
