-- Taking the edits of a sequence one after another.
use Rattle.std.specs.Prelude.{◌≡◌, ◌≢◌, ◌≤◌, ℕ, Bool, true, false, List, [], ◌∷◌, drop, Option, Some, None}
use Rattle.cfg_theory.specs.Grammar.{Sym, Grammar, end_token, HasStart}
use Rattle.lr_theory.specs.Automaton.{accept, Automaton, Safe}
use Rattle.lr_theory.specs.Machine.{Config}
use Rattle.lr_theory.specs.Repair.{Edit, insert, delete, keep, Takes}
use Rattle.lr_theory.specs.OfferedRepairs.{AreRepairs}
use Rattle.lr_theory.specs.Stack.{Stands}
use Rattle.state_table.specs.Graphs.{GraphValue}
use Rattle.state_table.specs.TableValues.{TableValue}
use Rattle.state_table.specs.Tables.{automaton_of}
use Rattle.lrpar.specs.Replay.{action_on, Rests, ShiftsTo, ShiftsNot}

-- made lexemes have the token that was asked for, up to the greatest number
abbrev pub MakesTokens : {L : Type 0} → ℕ → (L → ℕ) → (ℕ → List L → L) → Type 0
MakesTokens {L} top tok make = (t : ℕ) (xs : List L) → t ≤ top → tok (make t xs) ≡ t

-- from the configuration c the sequence fs is taken exactly where es is from d
pub record TakesOn {L : Type 0} (G : Grammar) (a : Automaton) (tok : L → ℕ) (make : ℕ → List L → L) (d : Config L) (es : List Edit) (ss : List ℕ) (rest : List L) (fs : List Edit) : Type 0 where
  pub input : List L
  pub config : Config L
  pub stands : Stands G a tok input config
  pub states : config.states ≡ ss
  pub rest_is : config.rest ≡ rest
  pub forth : Takes G a tok make config fs → Takes G a tok make d es
  pub back : Takes G a tok make d es → Takes G a tok make config fs

-- after an edit the next place and the states that are left for the edits behind it; or no sequence with it can be taken
abbrev pub TellsEdit : {L : Type 0} → Grammar → Automaton → (L → ℕ) → (ℕ → List L → L) → Config L → Edit → List ℕ → List L → Option ℕ → Type 0
TellsEdit G a tok make d e ss lexemes None = (es : List Edit) → Takes G a tok make d (e ∷ es) → ⊥
TellsEdit G a tok make d e ss lexemes (Some place) = (es : List Edit) → TakesOn G a tok make d (e ∷ es) ss (drop place lexemes) es

-- whether a sequence can be taken
abbrev pub TellsTaken : {L : Type 0} → Grammar → Automaton → (L → ℕ) → (ℕ → List L → L) → Config L → List Edit → Bool → Type 0
TellsTaken G a tok make d es true = Takes G a tok make d es
TellsTaken G a tok make d es false = Takes G a tok make d es → ⊥

-- what is told of an edit from each configuration that stands with these states and these lexemes left
abbrev pub StepTells : {L : Type 0} → ℕ → Grammar → TableValue → (L → ℕ) → Edit → List ℕ → List L → List ℕ → List L → Option ℕ → Type 0
StepTells {L} top G v tok e ss rest ss' lexemes next = (g : GraphValue) (make : ℕ → List L → L) (input : List L) (d : Config L) → Safe G (automaton_of g v) → MakesTokens top tok make → Stands G (automaton_of g v) tok input d → d.states ≡ ss → d.rest ≡ rest →
    TellsEdit G (automaton_of g v) tok make d e ss' lexemes next

-- what is told of a sequence from each such configuration
abbrev pub SequenceTells : {L : Type 0} → ℕ → Grammar → TableValue → (L → ℕ) → List Edit → List ℕ → List L → Bool → Type 0
SequenceTells {L} top G v tok es ss rest taken = (g : GraphValue) (make : ℕ → List L → L) (input : List L) (d : Config L) → Safe G (automaton_of g v) → MakesTokens top tok make → Stands G (automaton_of g v) tok input d → d.states ≡ ss → d.rest ≡ rest →
    TellsTaken G (automaton_of g v) tok make d es taken

-- of the sequences that are handed in at each such configuration these can be taken
abbrev pub ListTells : {L : Type 0} → ℕ → Grammar → TableValue → (L → ℕ) → List ℕ → List L → List (List Edit) → List (List Edit) → Type 0
ListTells {L} top G v tok ss rest offered taken = (g : GraphValue) (make : ℕ → List L → L) (input : List L) (d : Config L) → Safe G (automaton_of g v) → MakesTokens top tok make → Stands G (automaton_of g v) tok input d → d.states ≡ ss → d.rest ≡ rest →
    AreRepairs G (automaton_of g v) tok make d offered taken

-- what turns on one token come to on the states decides whether a sequence that begins with an edit is taken
pub record EditsAreTaken (L : Type 0) : Type 0 where
  pub inserted : (G : Grammar) (a : Automaton) (tok : L → ℕ) (x : Sym) (make : ℕ → List L → L) (input : List L) (d : Config L) (t : ℕ) (ss : List ℕ) (es : List Edit) → Safe G a → HasStart G x → Stands G a tok input d → tok (make t d.rest) ≡ t → t ≢ end_token G → ShiftsTo G a t d.states ss → TakesOn G a tok make d (insert t ∷ es) ss d.rest es
  pub inserted_not : (G : Grammar) (a : Automaton) (tok : L → ℕ) (x : Sym) (make : ℕ → List L → L) (input : List L) (d : Config L) (t : ℕ) (es : List Edit) → Safe G a → HasStart G x → Stands G a tok input d → tok (make t d.rest) ≡ t → t ≢ end_token G → ShiftsNot G a t d.states → Takes G a tok make d (insert t ∷ es) → ⊥
  pub end_not : (G : Grammar) (a : Automaton) (tok : L → ℕ) (x : Sym) (make : ℕ → List L → L) (input : List L) (d : Config L) (t : ℕ) (es : List Edit) → Safe G a → HasStart G x → Stands G a tok input d → tok (make t d.rest) ≡ t → t ≡ end_token G → Takes G a tok make d (insert t ∷ es) → ⊥
  pub kept_one : (G : Grammar) (a : Automaton) (tok : L → ℕ) (x : Sym) (make : ℕ → List L → L) (input : List L) (d : Config L) (y : L) (ys : List L) (ss : List ℕ) (es : List Edit) → Safe G a → HasStart G x → Stands G a tok input d → d.rest ≡ y ∷ ys → ShiftsTo G a (tok y) d.states ss → TakesOn G a tok make d (keep ∷ es) ss ys es
  pub kept_not : (G : Grammar) (a : Automaton) (tok : L → ℕ) (x : Sym) (make : ℕ → List L → L) (input : List L) (d : Config L) (y : L) (ys : List L) (es : List Edit) → Safe G a → HasStart G x → Stands G a tok input d → d.rest ≡ y ∷ ys → ShiftsNot G a (tok y) d.states → Takes G a tok make d (keep ∷ es) → ⊥
  pub deleted : (G : Grammar) (a : Automaton) (tok : L → ℕ) (x : Sym) (make : ℕ → List L → L) (input : List L) (d : Config L) (y : L) (ys : List L) (es : List Edit) → Safe G a → HasStart G x → Stands G a tok input d → d.rest ≡ y ∷ ys → TakesOn G a tok make d (delete ∷ es) d.states ys es
  pub nothing_kept : (G : Grammar) (a : Automaton) (tok : L → ℕ) (x : Sym) (make : ℕ → List L → L) (input : List L) (d : Config L) (es : List Edit) → Safe G a → HasStart G x → Stands G a tok input d → d.rest ≡ [] → Takes G a tok make d (keep ∷ es) → ⊥
  pub nothing_deleted : (G : Grammar) (a : Automaton) (tok : L → ℕ) (x : Sym) (make : ℕ → List L → L) (input : List L) (d : Config L) (es : List Edit) → Safe G a → HasStart G x → Stands G a tok input d → d.rest ≡ [] → Takes G a tok make d (delete ∷ es) → ⊥
  pub goes : (G : Grammar) (a : Automaton) (tok : L → ℕ) (x : Sym) (make : ℕ → List L → L) (input : List L) (d : Config L) (y : L) (ys : List L) (ss : List ℕ) → Safe G a → HasStart G x → Stands G a tok input d → d.rest ≡ y ∷ ys → ShiftsTo G a (tok y) d.states ss → Takes G a tok make d []
  pub goes_not : (G : Grammar) (a : Automaton) (tok : L → ℕ) (x : Sym) (make : ℕ → List L → L) (input : List L) (d : Config L) (y : L) (ys : List L) → Safe G a → HasStart G x → Stands G a tok input d → d.rest ≡ y ∷ ys → ShiftsNot G a (tok y) d.states → Takes G a tok make d [] → ⊥
  pub ends : (G : Grammar) (a : Automaton) (tok : L → ℕ) (x : Sym) (make : ℕ → List L → L) (input : List L) (d : Config L) (ss : List ℕ) → Safe G a → HasStart G x → Stands G a tok input d → d.rest ≡ [] → Rests G a (end_token G) d.states ss → action_on a (end_token G) ss ≡ accept → Takes G a tok make d []
  pub ends_not : (G : Grammar) (a : Automaton) (tok : L → ℕ) (x : Sym) (make : ℕ → List L → L) (input : List L) (d : Config L) (ss : List ℕ) → Safe G a → HasStart G x → Stands G a tok input d → d.rest ≡ [] → Rests G a (end_token G) d.states ss → action_on a (end_token G) ss ≢ accept → Takes G a tok make d [] → ⊥
