-- A step of the building over the states: the closed state's items, moved into a set for each symbol, and their placing.
use Rattle.std.specs.Prelude.{◌≡◌, ℕ, ◌+◌, ◌<◌, false, IsTrue, List, length, get_or, slice_set}
use Rattle.cfg_theory.specs.Grammar.{Sym, Grammar, InRange, IsNext, IsOf, head_of}
use Rattle.vob.specs.Sets.{is_set}
use Rattle.lr_theory.specs.Itemset.{Items, Lookaheads, HasItem, HasLook, Closure, ClosureLook, Goto, GotoLook, Is}
use Rattle.lr_theory.specs.Graph.{core_of}
use Rattle.lr_theory.specs.Building.{Building, Reached, IsTodo}
use Rattle.state_table.specs.ItemRows.{Item, IsAt, Core, map_of}
use Rattle.state_table.specs.Meeting.{row}
use Rattle.lrtable.specs.Opening.{RuleSets, IsOpen, HasRuleLook, AreOpened, Front}
use Rattle.lrtable.specs.Closes.{AreSeeds}
use Rattle.lrtable.specs.Gaining.{AreSets, moved_by}
use Rattle.lrtable.specs.Handling.{rank}
use Rattle.lrtable.specs.States.{StateValue, state_at}

-- the first k items of a core, and their lookaheads
abbrev pub ItemsBelow : Core → ℕ → Items
ItemsBelow c k p d = (j : ℕ) × (j < k) × IsAt c.items j p d

abbrev pub LooksBelow : Core → ℕ → Lookaheads
LooksBelow c k p d t = (j : ℕ) × (j < k) × IsAt c.items j p d × IsTrue (is_set (row c.rows j) t)

-- there is a set for each rule of the grammar, of its tokens
pub record IsSized (G : Grammar) (s : RuleSets) : Type 0 where
  pub tokens : s.tokens ≡ G.tokens
  pub opened : length s.opened ≡ G.rules
  pub rows : length s.rows ≡ G.rules

-- the sets are those of the closure of the core
pub record IsClosureOf (G : Grammar) (fronts : List (List Front)) (c : Core) (s : RuleSets) : Type 0 where
  pub from : RuleSets
  pub seeds : AreSeeds G (HasItem (map_of c)) (HasLook (map_of c)) from
  pub opened : AreOpened fronts from s

-- the productions of a rule at dot nought, with one set of lookaheads
abbrev pub OfRule : Grammar → ℕ → Items
OfRule G A p d = (d ≡ 0) × IsOf G p A

abbrev pub OfRuleLooks : Grammar → ℕ → (ℕ → Type 0) → Lookaheads
OfRuleLooks G A L p d t = (d ≡ 0) × IsOf G p A × L t

-- the productions of a rule at dot nought with their lookaheads, if the rule is open
abbrev pub OpenAt : Grammar → RuleSets → ℕ → Items
OpenAt G s A p d = (d ≡ 0) × IsOf G p A × IsOpen s A

abbrev pub OpenLooksAt : Grammar → RuleSets → ℕ → Lookaheads
OpenLooksAt G s A p d t = (d ≡ 0) × IsOf G p A × IsOpen s A × HasRuleLook s A t

-- the productions of the open rules below A at dot nought, with their lookaheads
abbrev pub OpenBelow : Grammar → RuleSets → ℕ → Items
OpenBelow G s A p d = (d ≡ 0) × (p < length G.productions) × (head_of G p < A) × IsOpen s (head_of G p)

abbrev pub OpenLooksBelow : Grammar → RuleSets → ℕ → Lookaheads
OpenLooksBelow G s A p d t = (d ≡ 0) × (p < length G.productions) × (head_of G p < A) × IsOpen s (head_of G p) × HasRuleLook s (head_of G p) t

-- the sets of symbols are the goto sets of these items
pub record AreGotos (G : Grammar) (I : Items) (L : Lookaheads) (sets : List Core) : Type 0 where
  pub count : length sets ≡ G.rules + G.tokens
  pub good : AreSets G.tokens sets
  pub is : (X : Sym) → InRange G X → Is (moved_by G sets X) (Goto G I X) (GotoLook G L X)

-- the goto sets of the state s, as it was before
abbrev pub AreGotosOf : Grammar → Building → ℕ → List Core → Type 0
AreGotosOf G before s sets = AreGotos G (Closure G (HasItem (core_of before.graph s))) (ClosureLook G (HasItem (core_of before.graph s)) (HasLook (core_of before.graph s))) sets

-- the state s is taken next
pub record IsNextTaken (G : Grammar) (before : Building) (s : ℕ) : Type 0 where
  pub reached : Reached G before
  pub todo : IsTodo before s
  pub lowest : (r : ℕ) → r < s → IsTodo before r → ⊥

-- the core is the goto set of the symbol of this rank
pub record IsGotoAt (G : Grammar) (before : Building) (s n : ℕ) (c : Core) : Type 0 where
  pub is : (X : Sym) → InRange G X → rank G X ≡ n →
      Is (map_of c) (Goto G (Closure G (HasItem (core_of before.graph s))) X) (GotoLook G (ClosureLook G (HasItem (core_of before.graph s)) (HasLook (core_of before.graph s))) X)

-- the states, where s isn't to be taken
abbrev pub set_off : List StateValue → ℕ → List StateValue
set_off states s = slice_set states s (record { core = (state_at states s).core; edges = (state_at states s).edges; todo = false })

-- none of the first k items has a symbol behind its dot
abbrev pub HaveNoNext : Grammar → List Item → ℕ → Type 0
HaveNoNext G items k = (j : ℕ) → j < k → (d : Item) (X : Sym) → IsNext G (get_or items j d).production (get_or items j d).dot X → ⊥
