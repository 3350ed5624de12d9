-- FOLLOW sets as a program keeps them: a set of tokens for each rule.
use Rattle.std.specs.Prelude.{◌≡◌, ℕ, suc, ◌+◌, ◌≤◌, ◌<◌, ◌⊎◌, ◌↔◌, Bool, IsTrue, List, length, drop}
use Rattle.std.specs.List.{Contains}
use Rattle.cfg_theory.specs.Grammar.{Sym, rule, token, Grammar, IsNext, IsEnd, head_of, body_of}
use Rattle.cfg_theory.specs.Derivation.{IsFollow}
use Rattle.cfg_theory.specs.First.{AllOf}
use Rattle.vob.specs.Sets.{is_set_in, missing_in, joined_to, HasAllOf, AreRows}
use Rattle.cfg_sets.specs.WorkLists.{Work}
use Rattle.cfg_sets.specs.Firsts.{FirstSets, HasEpsilon, FirstsOf}

pub record FollowSets : Type 0 where
  pub tokens : ℕ
  pub rows : List (List Bool)

-- the token t is in the set of the rule R
abbrev pub HasFollow : FollowSets → ℕ → ℕ → Type 0
HasFollow s R t = IsTrue (is_set_in s.rows R t)

-- there is a set for each rule of the grammar, of its tokens
pub record AreFollowsOf (G : Grammar) (s : FollowSets) : Type 0 where
  pub tokens : s.tokens ≡ G.tokens
  pub rows : AreRows G.rules G.tokens s.rows

-- the sets hold exactly what derivations show
pub record AreFollows (G : Grammar) (s : FollowSets) : Type 0 where
  pub sizes : AreFollowsOf G s
  pub follow : (R t : ℕ) → HasFollow s R t ↔ IsFollow G R t

-- the sets hold no more
abbrev pub AreFollowsSound : Grammar → FollowSets → Type 0
AreFollowsSound G s = (R t : ℕ) → HasFollow s R t → IsFollow G R t

-- t begins the list, or is in P where the list is nullable
abbrev pub Behind : FirstSets → (ℕ → Type 0) → List Sym → ℕ → Type 0
Behind f P a t = FirstsOf f a t ⊎ (AllOf (HasEpsilon f) a × P t)

-- what begins behind each rule of the body of p is in that rule's set
abbrev pub HoldsFirsts : Grammar → FirstSets → FollowSets → ℕ → Type 0
HoldsFirsts G f s p = (d R t : ℕ) → IsNext G p d (rule R) → FirstsOf f (drop (suc d) (body_of G p)) t → HasFollow s R t

-- of all bodies, and the end token is in the set of the start rule
pub record HoldsAll (G : Grammar) (f : FirstSets) (s : FollowSets) : Type 0 where
  pub firsts : (p : ℕ) → p < length G.productions → HoldsFirsts G f s p
  pub end : (t : ℕ) → IsEnd G t → HasFollow s 0 t

-- what follows the rule of p is in the sets of the rules of its body behind which all is nullable
abbrev pub HandsOn : Grammar → FirstSets → FollowSets → ℕ → Type 0
HandsOn G f s p = (d R t : ℕ) → IsNext G p d (rule R) → AllOf (HasEpsilon f) (drop (suc d) (body_of G p)) → HasFollow s (head_of G p) t → HasFollow s R t

-- or its rule is one of the list
abbrev pub HandsOnOrWaits : Grammar → FirstSets → FollowSets → List ℕ → ℕ → Type 0
HandsOnOrWaits G f s list p = HandsOn G f s p ⊎ Contains list (head_of G p)

-- so with each production
abbrev pub AreFollowsClosedBut : Grammar → FirstSets → FollowSets → List ℕ → Type 0
AreFollowsClosedBut G f s list = (p : ℕ) → p < length G.productions → HandsOnOrWaits G f s list p

-- sets of the grammar's rules that hold no more than derivations show, and a further one
pub record AreFollowsSoundOf (G : Grammar) (s : FollowSets) (row : List Bool) : Type 0 where
  pub sizes : AreFollowsOf G s
  pub sound : AreFollowsSound G s
  pub width : length row ≡ G.tokens

-- the set of the rule A was added to that of the rule R, and nothing else changed
pub record AddsFollows (A R : ℕ) (old new : FollowSets) : Type 0 where
  pub tokens : new.tokens ≡ old.tokens
  pub count : length new.rows ≡ length old.rows
  pub rows : (n m : ℕ) → AreRows n m old.rows → AreRows n m new.rows
  pub follow : (B t : ℕ) → HasFollow new B t ↔ (HasFollow old B t ⊎ ((B ≡ R) × HasFollow old A t))

-- from one table and work list to another nothing is lost: sets grew, and what handed on or waited does
pub record FollowsGoOn (G : Grammar) (f : FirstSets) (old new : FollowSets) (was is : Work) : Type 0 where
  pub kept : (A t : ℕ) → HasFollow old A t → HasFollow new A t
  pub closed : (p : ℕ) → HandsOnOrWaits G f old was.list p → HandsOnOrWaits G f new is.list p
  pub rules : is.rules ≡ was.rules
  pub room : missing_in new.rows + length is.list ≤ missing_in old.rows + length was.list

-- the set of the rule A was added to that of the symbol X, where it is a rule, and that waits where this changed its set
pub record Hands (A : ℕ) (X : Sym) (old new : FollowSets) (was is : Work) : Type 0 where
  pub tokens : new.tokens ≡ old.tokens
  pub count : length new.rows ≡ length old.rows
  pub rows : (n m : ℕ) → AreRows n m old.rows → AreRows n m new.rows
  pub kept : (B t : ℕ) → HasFollow old B t → HasFollow new B t
  pub only : (B t : ℕ) → HasFollow new B t → HasFollow old B t ⊎ ((X ≡ rule B) × HasFollow old A t)
  pub handed : (R t : ℕ) → X ≡ rule R → HasFollow old A t → HasFollow new R t
  pub waits : (new ≡ old) ⊎ ((R : ℕ) → X ≡ rule R → Contains is.list R)
  pub list : (R : ℕ) → Contains was.list R → Contains is.list R
  pub rules : is.rules ≡ was.rules
  pub room : missing_in new.rows + length is.list ≤ missing_in old.rows + length was.list

-- the symbol has a set, where it is a rule
abbrev pub HasSet : FollowSets → Sym → Type 0
HasSet s (rule A) = A < length s.rows
HasSet s (token t) = Unit {0}

-- the rows after the tokens were added to the set of the symbol, where that is a rule
abbrev pub added : List (List Bool) → Sym → List Bool → List (List Bool)
added rows (rule A) bits = joined_to rows A bits
added rows (token t) bits = rows

-- they are there
abbrev pub HasAll : FollowSets → Sym → List Bool → Type 0
HasAll s (rule A) bits = HasAllOf A bits s.rows
HasAll s (token t) bits = Unit {0}

abbrev pub follow_room : FollowSets → ℕ
follow_room s = missing_in s.rows
