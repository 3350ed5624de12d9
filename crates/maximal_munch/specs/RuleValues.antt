-- Rules as data: patterns, where they are active, and what they do to the stack of start conditions.
use Rattle.std.specs.Prelude.{ℕ, ◌==◌, Bool, false, not, if◌then◌else◌, List, [], ◌∷◌, map, length, Option, None, Some, slice_get, slice_index_or, reverse}
use Rattle.std.specs.List.{list_any}
use Rattle.regex.specs.Patterns.{Re}
use Rattle.regex.specs.Strings.{regex_pattern}
use Rattle.maximal_munch.specs.declared.conditions.Conditions.{Conditions}
use Rattle.maximal_munch.specs.declared.rules.Rule.{Rule}
use Rattle.maximal_munch.specs.declared.rules.RuleSet.{RuleSet}
use Rattle.maximal_munch.specs.declared.rules.Target.{Target}
use Rattle.maximal_munch.specs.declared.rules.Target.TheVariants.{Stay, Replace, Push, Pop}

pub record RuleValue : Type 0 where
  pub pattern : Re
  pub conditions : List ℕ
  pub target : Target

-- which conditions are exclusive, by their numbers, and the rules
pub record RuleSetValue : Type 0 where
  pub exclusive : List Bool
  pub rules : List RuleValue

abbrev pub rule_value : Rule → RuleValue
rule_value r = record { pattern = regex_pattern r.regex; conditions = r.conditions.items; target = r.target }

abbrev pub rule_set_of : RuleSet → RuleSetValue
rule_set_of s = record { exclusive = s.exclusive.items; rules = map rule_value s.rules.items }

abbrev pub pattern_of_rule : RuleValue → Re
pattern_of_rule r = r.pattern

-- in this condition, exclusive or not, a rule that names these conditions is active
abbrev pub is_active : Bool → ℕ → List ℕ → Bool
is_active exclusive condition cs = if length cs == 0 then not exclusive else list_any (λ c. c == condition) cs

abbrev pub is_active_rule : Bool → ℕ → Option RuleValue → Bool
is_active_rule exclusive condition None = false
is_active_rule exclusive condition (Some r) = is_active exclusive condition r.conditions

-- whether rule k is there and active in the condition
abbrev pub is_active_at : RuleSetValue → ℕ → ℕ → Bool
is_active_at v condition k = is_active_rule (slice_index_or v.exclusive condition false) condition (slice_get v.rules k)

abbrev pub target_of_rule : Option RuleValue → Target
target_of_rule None = Stay
target_of_rule (Some r) = r.target

-- what rule k does
abbrev pub target_at : RuleSetValue → ℕ → Target
target_at v k = target_of_rule (slice_get v.rules k)

-- the condition that lexing is in, and those below it, of which the first is the next
pub record Stack : Type 0 where
  pub current : ℕ
  pub below : List ℕ

-- lexing begins in condition 0, with none below
abbrev pub start : Stack
start = record { current = 0; below = [] }

-- the stack of the conditions below; that of the start where there are none
abbrev pub popped : List ℕ → Stack
popped [] = start
popped (c ∷ cs) = record { current = c; below = cs }

-- the stack after a rule has matched
abbrev pub moved : Target → Stack → Stack
moved Stay s = s
moved (Replace c) s = record { current = c; below = [] }
moved (Push c) s = record { current = c; below = s.current ∷ s.below }
moved Pop s = popped s.below

-- the stack, where the last of the list is the next condition
abbrev pub stack_of : Conditions → Stack
stack_of c = record { current = c.current; below = reverse c.below.items }
