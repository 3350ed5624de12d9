-- The rules that one rule needs, as takings find them, and a table of their cheapest token lists.
use Rattle.std.specs.Prelude.{◌≡◌, ℕ, ◌+◌, ◌<◌, ◌≤◌, ◌⊎◌, ◌∷◌, List, [], Bool, IsTrue, length, map, get_or, Contains, Option}
use Rattle.std.specs.List.{sum_by}
use Rattle.cfg_theory.specs.Grammar.{Sym, rule, token, Grammar, IsNext, head_of, body_of}
use Rattle.cfg_theory.specs.Derivation.{IsProductive}
use Rattle.cfg_theory.specs.Cost.{IsCheapest, IsLeastCost, IsBefore}
use Rattle.cfg_theory.specs.CostTables.{Concatenates}
use Rattle.cfg_theory.specs.CheapestLists.{IsTight, HaveCosts}
use Rattle.cfg_sentences.specs.CostTable.{bound, cost_in}
use Rattle.vob.specs.Sets.{is_set, missing}
use Rattle.cfg_sets.specs.WorkLists.{Work}
use Rattle.cfg_sentences.specs.TokenLists.{joined, spare}
use Rattle.cfg_sentences.specs.declared.sentences.SentenceError.{SentenceError}
use Rattle.cfg_sentences.specs.declared.sentences.SentenceError.TheVariants.{NoSentence, CostTooLarge, Memory}

-- the rule derives no token list; or its least cost is past 65,535; of want of memory nothing is said
abbrev pub ListsAreRefused : Grammar → (ℕ → ℕ) → ℕ → SentenceError → Type 0
ListsAreRefused G f A NoSentence = IsProductive G A → ⊥
ListsAreRefused G f A CostTooLarge = (n : ℕ) × IsLeastCost G f A n × (65535 < n)
ListsAreRefused G f A (Memory e) = Unit {0}

-- w is the one of the cheapest token lists that is before the others
pub record IsFirstCheapest (G : Grammar) (f : ℕ → ℕ) (A : ℕ) (w : List ℕ) : Type 0 where
  pub cheapest : IsCheapest G f A w
  pub before : (v : List ℕ) → IsCheapest G f A v → (v ≡ w) ⊎ IsBefore w v

-- the production gives its rule the least cost, which is below the bound
abbrev pub GivesLeast : Grammar → (ℕ → ℕ) → List (Option ℕ) → ℕ → Type 0
GivesLeast G f least p = (n : ℕ) × (n < bound) × IsTight G f (cost_in least) p (head_of G p) n

-- the rules that p names are in the set
abbrev pub AreNamedIn : Grammar → ℕ → List Bool → Type 0
AreNamedIn G p bits = (d R : ℕ) → IsNext G p d (rule R) → IsTrue (is_set bits R)

-- where p gives a rule of the set the least cost
abbrev pub IsHandedOn : Grammar → (ℕ → ℕ) → List (Option ℕ) → ℕ → List Bool → Type 0
IsHandedOn G f least p bits = IsTrue (is_set bits (head_of G p)) → GivesLeast G f least p → AreNamedIn G p bits

-- the first set is in the second one
abbrev pub AreKept : List Bool → List Bool → Type 0
AreKept old new = (B : ℕ) → IsTrue (is_set old B) → IsTrue (is_set new B)

-- what p asks for is in the set, or its rule is one of the list
abbrev pub IsHandedOnOrWaits : Grammar → (ℕ → ℕ) → List (Option ℕ) → List Bool → List ℕ → ℕ → Type 0
IsHandedOnOrWaits G f least bits list p = IsHandedOn G f least p bits ⊎ Contains list (head_of G p)

-- so with each production
abbrev pub AreHandedOnBut : Grammar → (ℕ → ℕ) → List (Option ℕ) → List Bool → List ℕ → Type 0
AreHandedOnBut G f least bits list = (p : ℕ) → p < length G.productions → IsHandedOnOrWaits G f least bits list p

-- from one set and work list to another nothing is lost: the set grew, and what was handed on or waited is or does
pub record Wants (G : Grammar) (f : ℕ → ℕ) (least : List (Option ℕ)) (old new : List Bool) (was is : Work) : Type 0 where
  pub kept : AreKept old new
  pub closed : (p : ℕ) → IsHandedOnOrWaits G f least old was.list p → IsHandedOnOrWaits G f least new is.list p
  pub rules : is.rules ≡ was.rules
  pub room : missing new + length is.list ≤ missing old + length was.list

-- the lists of a rule
abbrev pub lists_in : List (List (List ℕ)) → ℕ → List (List ℕ)
lists_in table A = get_or table A []

-- each rule among the symbols has an entry in the table
abbrev pub AllHaveLists : List (List (List ℕ)) → List Sym → Type 0
AllHaveLists table [] = Unit {0}
AllHaveLists table (rule A ∷ a) = (A < length table) × AllHaveLists table a
AllHaveLists table (token t ∷ a) = AllHaveLists table a

-- what a symbol and lists behind it give
abbrev pub lists_before : List (List (List ℕ)) → Sym → List (List ℕ) → List (List ℕ)
lists_before table (rule A) rests = joined (lists_in table A) rests
lists_before table (token t) rests = map (λ v. t ∷ v) rests

-- the lists are of the rules, and cost what the table of costs says
pub record AreLists (G : Grammar) (f : ℕ → ℕ) (least : List (Option ℕ)) (table : List (List (List ℕ))) : Type 0 where
  pub count : length table ≡ G.rules
  pub costs : HaveCosts G f (cost_in least) (lists_in table)

-- where p gives a wanted rule the least cost, what it puts together is there
abbrev pub IsJoined : Grammar → (ℕ → ℕ) → List (Option ℕ) → List Bool → ℕ → List (List (List ℕ)) → Type 0
IsJoined G f least wanted p table = IsTrue (is_set wanted (head_of G p)) → GivesLeast G f least p → (w : List ℕ) → Concatenates (lists_in table) (body_of G p) w → Contains (lists_in table (head_of G p)) w

-- how many lists more the table can hold
abbrev pub spare_in : List (List (List ℕ)) → ℕ
spare_in table = sum_by spare table
