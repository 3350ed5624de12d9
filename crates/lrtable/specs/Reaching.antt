-- What a rule leads to by the rules that stand first in productions, and what comes to these where it alone is open.
use Rattle.std.specs.Prelude.{◌≡◌, ℕ, ◌<◌, ◌⊎◌, ◌↔◌, Bool, IsTrue, List, [], length, get_or}
use Rattle.std.specs.List.{Contains}
use Rattle.vob.specs.Sets.{is_set}
use Rattle.lrtable.specs.Opening.{Front, RuleSets, IsOpen, HasRuleLook, HasFront, AllFit, NamedIn}

-- the rules that A leads to
pub data LeadsTo (fronts : List (List Front)) (A : ℕ) : ℕ → Type 0 where
  here : LeadsTo fronts A A
  next : {B C : ℕ} (e : Front) → LeadsTo fronts A B → HasFront fronts B e → e.rule ≡ C → LeadsTo fronts A C

-- those to which it passes its own lookaheads on
pub data PassesTo (fronts : List (List Front)) (A : ℕ) : ℕ → Type 0 where
  here : PassesTo fronts A A
  next : {B C : ℕ} (e : Front) → PassesTo fronts A B → HasFront fronts B e → e.rule ≡ C → IsTrue e.nullable → PassesTo fronts A C

-- and the lookaheads that come to them whatever its own are
pub data BringsTo (fronts : List (List Front)) (A : ℕ) : ℕ → ℕ → Type 0 where
  first : {B C t : ℕ} (e : Front) → LeadsTo fronts A B → HasFront fronts B e → e.rule ≡ C → IsTrue (is_set e.first t) → BringsTo fronts A C t
  passed : {B C t : ℕ} (e : Front) → BringsTo fronts A B t → HasFront fronts B e → e.rule ≡ C → IsTrue e.nullable → BringsTo fronts A C t

-- a list says exactly this of A: a front for each rule that A leads to, with what comes to it
pub record IsReachedBy (fronts : List (List Front)) (tokens A : ℕ) (es : List Front) : Type 0 where
  pub fit : AllFit (length fronts) tokens es
  pub leads : (e : Front) → Contains es e → LeadsTo fronts A e.rule
  pub brings : (e : Front) (t : ℕ) → Contains es e → IsTrue (is_set e.first t) → BringsTo fronts A e.rule t
  pub passes : (e : Front) → Contains es e → IsTrue e.nullable → PassesTo fronts A e.rule
  pub all_led : (B : ℕ) → LeadsTo fronts A B → NamedIn es B
  pub all_brought : (B t : ℕ) → BringsTo fronts A B t → (e : Front) × Contains es e × (e.rule ≡ B) × IsTrue (is_set e.first t)
  pub all_passed : (B : ℕ) → PassesTo fronts A B → (e : Front) × Contains es e × (e.rule ≡ B) × IsTrue e.nullable

-- or nothing of it
abbrev pub MayBeReachedBy : List (List Front) → ℕ → ℕ → List Front → Type 0
MayBeReachedBy fronts tokens A es = (es ≡ []) ⊎ IsReachedBy fronts tokens A es

-- the lists are those of the first rules
abbrev pub AreReachedBy : List (List Front) → ℕ → List (List Front) → Type 0
AreReachedBy fronts tokens lists = (A : ℕ) → A < length lists → MayBeReachedBy fronts tokens A (get_or lists A [])

-- the rules to which a list of fronts passes lookaheads on
abbrev pub PassedIn : List Front → ℕ → Type 0
PassedIn es A = (e : Front) × Contains es e × IsTrue e.nullable × (e.rule ≡ A)

-- the rule A alone is open, and none has a lookahead
pub record IsAlone (A : ℕ) (s : RuleSets) : Type 0 where
  pub open_is : (B : ℕ) → IsOpen s B ↔ (A ≡ B)
  pub none : (B t : ℕ) → HasRuleLook s B t → ⊥

-- a list has a front for each open rule, with its lookaheads and its flag
pub record AreListed (s : RuleSets) (flags : List Bool) (es : List Front) : Type 0 where
  pub are_open : (e : Front) → Contains es e → IsOpen s e.rule
  pub first : (e : Front) → Contains es e → e.first ≡ get_or s.rows e.rule []
  pub width : (e : Front) → Contains es e → length e.first ≡ s.tokens
  pub nullable : (e : Front) → Contains es e → e.nullable ≡ is_set flags e.rule
  pub all_open : (A : ℕ) → IsOpen s A → NamedIn es A
