-- The closure of a set of items by its rules: the fronts of a grammar's productions, and what the items themselves open.
use Rattle.std.specs.Prelude.{◌≡◌, ℕ, zero, suc, ◌<◌, ◌⊎◌, ◌↔◌, ◌||◌, Bool, IsTrue, List, [], ◌∷◌, ◌++◌, length, get_or, slice_set}
use Rattle.std.specs.List.{Contains}
use Rattle.vob.specs.Bits.{bitwise}
use Rattle.cfg_theory.specs.Grammar.{Grammar, rule, IsOf, IsNext, head_of}
use Rattle.cfg_theory.specs.Derivation.{Nullable, IsFirst}
use Rattle.lr_theory.specs.Canonical.{from_dot}
use Rattle.lr_theory.specs.Itemset.{Items, Lookaheads, ItemSet, HasItem, HasLook, Closure, ClosureLook}
use Rattle.vob.specs.Sets.{is_set}
use Rattle.lrtable.specs.Opening.{Front, RuleSets, IsOpen, HasRuleLook, HasFront, AreOpened}

-- what follows the symbol behind the dot of (p, d): the tokens that it begins with, and whether it is nullable
pub record IsRest (G : Grammar) (p d : ℕ) (begins : List Bool) (skipped : Bool) : Type 0 where
  pub width : length begins ≡ G.tokens
  pub nullable : IsTrue skipped ↔ Nullable G (from_dot G p (suc d))
  pub first : (t : ℕ) → IsTrue (is_set begins t) ↔ IsFirst G (from_dot G p (suc d)) t

-- the front of a production that begins with a rule
pub record IsFrontOf (G : Grammar) (q : ℕ) (e : Front) : Type 0 where
  pub rule : IsNext G q zero (rule e.rule)
  pub rest : IsRest G q zero e.first e.nullable

-- the fronts are those of the productions, where productions that begin with one rule may have one together
pub record AreFrontsOf (G : Grammar) (productions : List ℕ) (es : List Front) : Type 0 where
  pub width : (e : Front) → Contains es e → length e.first ≡ G.tokens
  pub rules : (e : Front) → Contains es e → (q : ℕ) × Contains productions q × IsNext G q zero (rule e.rule)
  pub first : (e : Front) (t : ℕ) → Contains es e → IsTrue (is_set e.first t) → (q : ℕ) × Contains productions q × IsNext G q zero (rule e.rule) × IsFirst G (from_dot G q (suc zero)) t
  pub nullable : (e : Front) → Contains es e → IsTrue e.nullable → (q : ℕ) × Contains productions q × IsNext G q zero (rule e.rule) × Nullable G (from_dot G q (suc zero))
  pub has_rule : (q B : ℕ) → Contains productions q → IsNext G q zero (rule B) → (e : Front) × Contains es e × (e.rule ≡ B)
  pub has_first : (q B t : ℕ) → Contains productions q → IsNext G q zero (rule B) → IsFirst G (from_dot G q (suc zero)) t → (e : Front) × Contains es e × (e.rule ≡ B) × IsTrue (is_set e.first t)
  pub has_nullable : (q B : ℕ) → Contains productions q → IsNext G q zero (rule B) → Nullable G (from_dot G q (suc zero)) → (e : Front) × Contains es e × (e.rule ≡ B) × IsTrue e.nullable

-- a front with what may follow its rule in another production
abbrev pub joined_front : Front → List Bool → Bool → Front
joined_front e first nullable = record { rule = e.rule; first = bitwise (λ x y. x || y) e.first first; nullable = e.nullable || nullable }

-- a front was put with the others, or joined to one of its rule
pub data PutsAt (e : Front) (old : List Front) : List Front → Type 0 where
  last : PutsAt e old (old ++ e ∷ [])
  joined : (k : ℕ) → k < length old → (get_or old k e).rule ≡ e.rule → PutsAt e old (slice_set old k (joined_front (get_or old k e) e.first e.nullable))

-- a production's front was put with the others, if it has one
pub data PutsFront (G : Grammar) (q : ℕ) (old : List Front) : List Front → Type 0 where
  none : ((B : ℕ) → IsNext G q zero (rule B) → ⊥) → PutsFront G q old old
  one : {new : List Front} (e : Front) → IsFrontOf G q e → PutsAt e old new → PutsFront G q old new

-- the fronts of each rule are those of its productions
pub record AreFronts (G : Grammar) (fronts : List (List Front)) : Type 0 where
  pub count : length fronts ≡ G.rules
  pub fit : (A : ℕ) (e : Front) → HasFront fronts A e → e.rule < G.rules
  pub width : (A : ℕ) (e : Front) → HasFront fronts A e → length e.first ≡ G.tokens
  -- a front is there for a production of the rule
  pub rules : (A : ℕ) (e : Front) → HasFront fronts A e → (q : ℕ) × IsOf G q A × IsNext G q zero (rule e.rule)
  pub first : (A t : ℕ) (e : Front) → HasFront fronts A e → IsTrue (is_set e.first t) → (q : ℕ) × IsOf G q A × IsNext G q zero (rule e.rule) × IsFirst G (from_dot G q (suc zero)) t
  pub nullable : (A : ℕ) (e : Front) → HasFront fronts A e → IsTrue e.nullable → (q : ℕ) × IsOf G q A × IsNext G q zero (rule e.rule) × Nullable G (from_dot G q (suc zero))
  -- and each production that begins with a rule has its part in one
  pub has_rule : (q A B : ℕ) → IsOf G q A → IsNext G q zero (rule B) → (e : Front) × HasFront fronts A e × (e.rule ≡ B)
  pub has_first : (q A B t : ℕ) → IsOf G q A → IsNext G q zero (rule B) → IsFirst G (from_dot G q (suc zero)) t → (e : Front) × HasFront fronts A e × (e.rule ≡ B) × IsTrue (is_set e.first t)
  pub has_nullable : (q A B : ℕ) → IsOf G q A → IsNext G q zero (rule B) → Nullable G (from_dot G q (suc zero)) → (e : Front) × HasFront fronts A e × (e.rule ≡ B) × IsTrue e.nullable

-- an item of the set stands before the rule A
abbrev pub Seeds : Grammar → Items → ℕ → Type 0
Seeds G I A = (p : ℕ) × (d : ℕ) × I p d × IsNext G p d (rule A)

-- and t may follow the rule there
abbrev pub SeedsLook : Grammar → Items → Lookaheads → ℕ → ℕ → Type 0
SeedsLook G I L A t =
    ((p : ℕ) × (d : ℕ) × I p d × IsNext G p d (rule A) × IsFirst G (from_dot G p (suc d)) t) ⊎
    ((p : ℕ) × (d : ℕ) × L p d t × IsNext G p d (rule A) × Nullable G (from_dot G p (suc d)))

-- the sets hold what the items themselves open
pub record AreSeeds (G : Grammar) (I : Items) (L : Lookaheads) (s : RuleSets) : Type 0 where
  pub rules : (A : ℕ) → IsOpen s A ↔ Seeds G I A
  pub looks : (A t : ℕ) → HasRuleLook s A t ↔ SeedsLook G I L A t

-- an item of the set, or a production of an open rule at dot nought
abbrev pub InClosure : Grammar → Items → RuleSets → Items
InClosure G I s p d = I p d ⊎ ((d ≡ zero) × (p < length G.productions) × IsOpen s (head_of G p))

abbrev pub LookInClosure : Grammar → Lookaheads → RuleSets → Lookaheads
LookInClosure G L s p d t = L p d t ⊎ ((d ≡ zero) × (p < length G.productions) × HasRuleLook s (head_of G p) t)

-- The closure of a map by its rules: with the fronts of a grammar, what the map's items open, and the least sets over it.
pub record ClosuresGoByRules : Type 0 where
  pub items : (G : Grammar) (fronts : List (List Front)) (s : ItemSet) (from sets : RuleSets) → AreFronts G fronts → AreSeeds G (HasItem s) (HasLook s) from → AreOpened fronts from sets →
      (p d : ℕ) → Closure G (HasItem s) p d ↔ InClosure G (HasItem s) sets p d
  pub looks : (G : Grammar) (fronts : List (List Front)) (s : ItemSet) (from sets : RuleSets) → AreFronts G fronts → AreSeeds G (HasItem s) (HasLook s) from → AreOpened fronts from sets →
      (p d t : ℕ) → ClosureLook G (HasItem s) (HasLook s) p d t ↔ LookInClosure G (HasLook s) sets p d t
