-- Rules against the matchers that search for them.
use Rattle.std.proofs.Common.{◌≡◌, ℕ, zero, suc, ◌<◌, ◌≤◌, List, [], ◌∷◌, map, length, get_or, slice_get, refl, sym, ap, ◌∙◌, arith}
use Rattle.std.proofs.lemmas.List.{length-map}
use Rattle.std.proofs.lemmas.Option.{slice_get_past}
use Rattle.regex.specs.Strings.{matcher_pattern, regex_pattern}
use Rattle.regex.specs.declared.string.matcher.Matcher.{Matcher}
use Rattle.maximal_munch.specs.RuleValues.{RuleSetValue, RuleValue, rule_value, pattern_of_rule}
use Rattle.maximal_munch.specs.Beginnings.{match_len}
use Rattle.maximal_munch.specs.Munching.{rule_len, len_at}
use Rattle.maximal_munch.specs.declared.rules.Rule.{Rule}

-- the matcher at i searches for rule i
pub asks : (rest : List ℕ) (ms : List Matcher) (rs : List RuleValue) (i : ℕ) (m : Matcher) → i < length ms → m ≡ get_or ms i m →
    map matcher_pattern ms ≡ map pattern_of_rule rs → match_len (matcher_pattern m) rest ≡ rule_len rest (slice_get rs i)
asks rest [] rs i m lt read same = absurd (omega arith)
asks rest (x ∷ ms) [] i m lt read same = absurd cc
asks rest (x ∷ ms) (r ∷ rs) zero m lt read same = ap (λ p. match_len p rest) (ap matcher_pattern read ∙ cc)
asks rest (x ∷ ms) (r ∷ rs) (suc i) m lt read same = asks rest ms rs i m (omega arith) read cc

-- there are as many
pub as_many : (ms : List Matcher) (rs : List RuleValue) → map matcher_pattern ms ≡ map pattern_of_rule rs → length rs ≡ length ms
as_many ms rs same = sym (length-map rs pattern_of_rule) ∙ sym (ap length same) ∙ length-map ms matcher_pattern

pub none_past : (v : RuleSetValue) (condition : ℕ) (rest : List ℕ) (k : ℕ) → length v.rules ≤ k → len_at v condition rest k ≡ 0
none_past v condition rest k past = rw (slice_get_past v.rules k past)

pub patterns_of_rules : (rs : List Rule) → map (λ r. regex_pattern r.regex) rs ≡ map pattern_of_rule (map rule_value rs)
patterns_of_rules [] = refl
patterns_of_rules (r ∷ rs) = ap (λ ps. regex_pattern r.regex ∷ ps) (patterns_of_rules rs)
