-- Greatest costs as passes raise them, the set of the unbounded rules as rounds narrow it, and what contracts see of both.
use Rattle.std.specs.Prelude.{◌≡◌, ℕ, suc, ◌-◌, ◌<◌, ◌≤◌, ◌⊎◌, Bool, false, IsTrue, List, length, get_or, Option, Some, None, min}
use Rattle.std.specs.List.{sum_by, count_by}
use Rattle.cfg_theory.specs.Grammar.{Sym, rule, token, Grammar, IsOf, IsNext, head_of, body_of}
use Rattle.cfg_theory.specs.Derivation.{IsProductive}
use Rattle.cfg_theory.specs.Cost.{cost, Has, IsGreatestCost}
use Rattle.cfg_theory.specs.CostTables.{Sums}
use Rattle.cfg_theory.specs.Greatest.{AreUnbounded, Gains, IsKeptTable}
use Rattle.cfg_sentences.specs.declared.sentences.CostError.{CostError}
use Rattle.cfg_sentences.specs.declared.sentences.CostError.TheVariants.{NoSentence, CostTooLarge}
use Rattle.cfg_sentences.specs.CostTable.{bound, cost_in}
use Rattle.vob.specs.Sets.{is_set}

-- ---- one table

-- each cost is that of a token list, or is `top` and some list costs as much or more
pub record AreRaised (G : Grammar) (f : ℕ → ℕ) (top : ℕ) (table : List (Option ℕ)) : Type 0 where
  pub count : length table ≡ G.rules
  pub within : (A n : ℕ) → cost_in table A ≡ Some n → n ≤ top
  pub lists : (A n : ℕ) → cost_in table A ≡ Some n → (w : List ℕ) × Has G A w × (n ≤ cost f w) × (n < top → cost f w ≤ n)

-- the production p makes its rule no dearer, where that isn't skipped
abbrev pub IsRaisedBy : Grammar → (ℕ → ℕ) → ℕ → List Bool → ℕ → List (Option ℕ) → Type 0
IsRaisedBy G f top skipped p table = is_set skipped (head_of G p) ≡ false → (n : ℕ) → Sums f (cost_in table) (body_of G p) n →
    (m : ℕ) × (cost_in table (head_of G p) ≡ Some m) × (min n top ≤ m)

-- whether a cost is more than another, where each is more than none
abbrev pub IsMore : ℕ → Option ℕ → Type 0
IsMore n None = Unit {0}
IsMore n (Some o) = o < n

-- how far the costs can still rise
abbrev pub slack : ℕ → Option ℕ → ℕ
slack top None = suc top
slack top (Some n) = top - n

abbrev pub rise : ℕ → List (Option ℕ) → ℕ
rise top table = sum_by (slack top) table

-- ---- one set

-- the symbol is a rule of the set
abbrev pub IsAmong : List Bool → Sym → Type 0
IsAmong bits (rule A) = IsTrue (is_set bits A)
IsAmong bits (token t) = ⊥

-- each rule of the set leads on to one of the old set with a gain
abbrev pub AreGaining : Grammar → (ℕ → ℕ) → List Bool → List Bool → Type 0
AreGaining G f old new = (A : ℕ) → IsTrue (is_set new A) → Gains G f (is_set old) A

-- where p names a rule of the old set, and two of its symbols cost something, or else a rule of the new set, its rule is in the new set
abbrev pub IsNarrowedBy : Grammar → (ℕ → ℕ) → List (Option ℕ) → List Bool → ℕ → List Bool → Type 0
IsNarrowedBy G f costs old p new = (n : ℕ) → Sums f (cost_in costs) (body_of G p) n → (d B : ℕ) → IsNext G p d (rule B) →
    (2 ≤ n → IsTrue (is_set old B) → IsTrue (is_set new (head_of G p))) × (n < 2 → IsTrue (is_set new B) → IsTrue (is_set new (head_of G p)))

-- p can't be used, or names no rule of the set
abbrev pub LeadsOut : Grammar → (ℕ → ℕ) → List (Option ℕ) → List Bool → ℕ → Type 0
LeadsOut G f costs bits p = (n : ℕ) → Sums f (cost_in costs) (body_of G p) n → (d R : ℕ) → IsNext G p d (rule R) → is_set bits R ≡ false

-- p can't be used, or names no rule of the set; where no two of its symbols cost something, none of the rest of it
abbrev pub Settles : Grammar → (ℕ → ℕ) → List (Option ℕ) → List Bool → List Bool → ℕ → Type 0
Settles G f costs bits rest p = (n : ℕ) → Sums f (cost_in costs) (body_of G p) n → (d R : ℕ) → IsNext G p d (rule R) →
    (2 ≤ n → is_set bits R ≡ false) × (n < 2 → is_set rest R ≡ false)

-- the productions of the rules outside of the set lead out of it
abbrev pub AreOut : Grammar → (ℕ → ℕ) → List (Option ℕ) → List Bool → Type 0
AreOut G f costs bits = (p : ℕ) → p < length G.productions → is_set bits (head_of G p) ≡ false → LeadsOut G f costs bits p

-- how many rules are in the set
abbrev pub held : List Bool → ℕ
held bits = count_by (λ b. b) bits

-- A is one of the first n of the list
abbrev pub IsOneOf : List ℕ → ℕ → ℕ → Type 0
IsOneOf list n A = (i : ℕ) × (i < n) × (i < length list) × (get_or list i 0 ≡ A)

-- each production of these settles
abbrev pub AreSettled : Grammar → (ℕ → ℕ) → List (Option ℕ) → List Bool → List Bool → List ℕ → ℕ → Type 0
AreSettled G f costs bits rest list n = (A p : ℕ) → IsOneOf list n A → IsOf G p A → Settles G f costs bits rest p

-- the first n of the list were taken out of the set
pub record TakesOut (list : List ℕ) (n : ℕ) (old new : List Bool) : Type 0 where
  pub width : length new ≡ length old
  pub fewer : (R : ℕ) → is_set old R ≡ false → is_set new R ≡ false
  pub gone : (R : ℕ) → IsOneOf list n R → is_set new R ≡ false
  pub only : (R : ℕ) → is_set new R ≡ false → (is_set old R ≡ false) ⊎ IsOneOf list n R
  pub less : held new ≤ held old

-- those of the first n that are in the set were put back into the rest
pub record PutsBack (list : List ℕ) (n : ℕ) (bits old new : List Bool) : Type 0 where
  pub width : length new ≡ length old
  pub grows : (R : ℕ) → is_set new R ≡ false → is_set old R ≡ false
  pub back : (R : ℕ) → IsOneOf list n R → is_set new R ≡ false → is_set bits R ≡ false

-- the rest has what is in the set
abbrev pub Covers : List Bool → List Bool → Type 0
Covers rest bits = (R : ℕ) → is_set rest R ≡ false → is_set bits R ≡ false

-- ---- both

-- which rules are unbounded, and a table that gives the others' greatest costs, kept at the bound
pub record AreGreatest (G : Grammar) (f : ℕ → ℕ) (open_rules : List Bool) (table : List (Option ℕ)) : Type 0 where
  pub width : length open_rules ≡ G.rules
  pub count : length table ≡ G.rules
  pub unbounded : AreUnbounded G f (is_set open_rules)
  pub costs : IsKeptTable G f bound (is_set open_rules) (cost_in table)

-- the rule derives no token list; or its greatest cost is past 65,535
abbrev pub GreatestIsRefused : Grammar → (ℕ → ℕ) → ℕ → CostError → Type 0
GreatestIsRefused G f A NoSentence = IsProductive G A → ⊥
GreatestIsRefused G f A CostTooLarge = (n : ℕ) × IsGreatestCost G f A n × (65535 < n)
