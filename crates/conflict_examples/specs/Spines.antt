-- Spines: the productions that are open after a string, from the innermost to that of the start. A string of symbols is written
-- with its last symbol first, as with canonical items.
use Rattle.std.specs.Prelude.{◌≡◌, ◌≢◌, ℕ, zero, suc, ◌≤◌, ◌↔◌, List, [], ◌∷◌, ◌++◌, length}
use Rattle.cfg_theory.specs.Grammar.{Sym, rule, token, Grammar, body_of, end_token, IsOf, IsNext, IsEnd}
use Rattle.cfg_theory.specs.Derivation.{Replaces, IsFirstBefore}
use Rattle.lr_theory.specs.Canonical.{Present, Look, from_dot, Act, shift, reduce, accept, Contest}

-- a production with the dot behind so many of its symbols
pub record Item : Type 0 where
  pub production : ℕ
  pub dot : ℕ

-- the productions that are open, the innermost first: the last one is the start production, each other one is of the rule
-- after the dot of the one around it
pub data IsSpine (G : Grammar) : List Item → Type 0 where
  start : {i : Item} → i.production ≡ G.start → i.dot ≤ length (body_of G i.production) → IsSpine G (i ∷ [])
  within : {i j : Item} {js : List Item} (A : ℕ) → IsSpine G (j ∷ js) → IsNext G j.production j.dot (rule A) → IsOf G i.production A →
      i.dot ≤ length (body_of G i.production) → IsSpine G (i ∷ j ∷ js)

-- the first n symbols of a list put before others, the last one first
abbrev pub back_over : ℕ → List Sym → List Sym → List Sym
back_over zero a w = w
back_over (suc n) [] w = w
back_over (suc n) (X ∷ a) w = back_over n a (X ∷ w)

-- the string before the dots
abbrev pub before_dots : Grammar → List Item → List Sym
before_dots G [] = []
before_dots G (i ∷ is) = back_over i.dot (body_of G i.production) (before_dots G is)

-- what stands behind the rules after the dots
abbrev pub behind : Grammar → List Item → List Sym
behind G [] = []
behind G (j ∷ js) = from_dot G j.production (suc j.dot) ++ behind G js

-- what stands behind the innermost production: behind the rules after the dots of the others
abbrev pub around : Grammar → List Item → List Sym
around G [] = []
around G (i ∷ is) = behind G is

-- productions that lead from the one list to the other, each put in the place of the first symbol, which is its rule
pub data AreSteps (G : Grammar) : List Sym → List ℕ → List Sym → Type 0 where
  none : {a : List Sym} → AreSteps G a [] a
  step : {rest c : List Sym} {steps : List ℕ} (A p : ℕ) → IsOf G p A → AreSteps G (body_of G p ++ rest) steps c → AreSteps G (rule A ∷ rest) (p ∷ steps) c

-- the forms from a list, each with the next production in the place of its first symbol, as far as that is a rule
abbrev pub forms_by : Grammar → List Sym → List ℕ → List (List Sym)
forms_by G a [] = a ∷ []
forms_by G [] (p ∷ steps) = [] ∷ []
forms_by G (token t ∷ a) (p ∷ steps) = (token t ∷ a) ∷ []
forms_by G (rule A ∷ a) (p ∷ steps) = (rule A ∷ a) ∷ forms_by G (body_of G p ++ a) steps

-- the forms from the first list to the last one, where each comes from the one before by replacing one rule by one of its
-- productions
pub data AreForms (G : Grammar) : List Sym → List (List Sym) → List Sym → Type 0 where
  last : {a : List Sym} → AreForms G a (a ∷ []) a
  next : {a b c : List Sym} {forms : List (List Sym)} → Replaces G a b → AreForms G b forms c → AreForms G a (a ∷ forms) c

-- a form begins with the token, or is empty before the end token
pub data Begins (G : Grammar) (t : ℕ) : List Sym → Type 0 where
  opens : (rest : List Sym) → Begins G t (token t ∷ rest)
  ends : IsEnd G t → Begins G t []

-- what is shown of an action: a spine, and the productions by which the token comes to stand behind it
pub record Shown : Type 0 where
  pub spine : List Item
  pub steps : List ℕ

-- the forms from what stands behind the innermost production, by these productions
abbrev pub forms_of : Grammar → Shown → List (List Sym)
forms_of G x = forms_by G (around G x.spine) x.steps

-- the item i stands innermost in a spine before whose dots the string stands
pub record Stands (G : Grammar) (w : List Sym) (spine : List Item) (i : Item) : Type 0 where
  pub others : List Item
  pub innermost : spine ≡ i ∷ others
  pub is_spine : IsSpine G spine
  pub string : before_dots G spine ≡ w

-- what is shown allows the action on t after the string
pub data ShowsAct (G : Grammar) (w : List Sym) (t : ℕ) (x : Shown) : Act → Type 0 where
  -- t is the symbol after the innermost dot
  shifts : (i : Item) → Stands G w x.spine i → IsNext G i.production i.dot (token t) → x.steps ≡ [] → ShowsAct G w t x shift
  -- the innermost production is complete, and what stands behind it derives a list that begins with t
  reduces : (i : Item) (last : List Sym) → Stands G w x.spine i → i.production ≢ G.start → i.dot ≡ length (body_of G i.production) →
      AreSteps G (around G x.spine) x.steps last → Begins G t last → ShowsAct G w t x (reduce i.production)
  -- the innermost production is that of the start, complete, before the end token
  accepts : (i : Item) → Stands G w x.spine i → i.production ≡ G.start → i.dot ≡ length (body_of G G.start) → IsEnd G t → x.steps ≡ [] → ShowsAct G w t x accept

-- a string, a token, and what is shown of two actions
pub record Example : Type 0 where
  pub string : List Sym
  pub token : ℕ
  pub first : Shown
  pub second : Shown

-- after the string the token leaves both actions
pub record IsExample (G : Grammar) (x : Example) (a b : Act) : Type 0 where
  pub differ : a ≢ b
  pub one : ShowsAct G x.string x.token x.first a
  pub other : ShowsAct G x.string x.token x.second b

-- the item (p, d) stands innermost in a spine before whose dots the string stands
abbrev pub SomeSpine : Grammar → List Sym → ℕ → ℕ → Type 0
SomeSpine G w p d = (spine : List Item) × Stands G w spine (record { production = p; dot = d })

-- the same, where t may stand behind it
abbrev pub SomeSpineBefore : Grammar → List Sym → ℕ → ℕ → ℕ → Type 0
SomeSpineBefore G w p d t = (spine : List Item) × Stands G w spine (record { production = p; dot = d }) × IsFirstBefore G (around G spine) (end_token G) t

-- An item is present after a string exactly where it stands in a spine, and its lookaheads are what may stand behind.
pub record SpinesAreItems : Type 0 where
  pub present : (G : Grammar) (w : List Sym) (p d : ℕ) → Present G w p d ↔ SomeSpine G w p d
  pub look : (G : Grammar) (w : List Sym) (p d t : ℕ) → Look G w p d t ↔ SomeSpineBefore G w p d t

-- An example is a contest of canonical LR(1) after its string, and each contest has an example.
pub record ExamplesAreContests : Type 0 where
  pub contest : (G : Grammar) (x : Example) (a b : Act) → IsExample G x a b → Contest G (Present G x.string) (Look G x.string) x.token a b
  pub shown : (G : Grammar) (w : List Sym) (t : ℕ) (a b : Act) → Contest G (Present G w) (Look G w) t a b →
      (x : Example) × (x.string ≡ w) × (x.token ≡ t) × IsExample G x a b

-- The forms of what shows a reduction lead from what stands behind the innermost production to one that begins with the token.
pub record StepsMakeForms : Type 0 where
  pub forms : (G : Grammar) (w : List Sym) (t p : ℕ) (x : Shown) → ShowsAct G w t x (reduce p) → (last : List Sym) × AreForms G (around G x.spine) (forms_of G x) last × Begins G t last
