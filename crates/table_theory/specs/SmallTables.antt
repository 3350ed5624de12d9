-- A cell in which a shift and two reductions meet, a grammar that is refused, and a grammar with its table.
use Rattle.std.specs.Prelude.{◌≡◌, ℕ, false, [], ◌∷◌, Some, None}
use Rattle.cfg_theory.specs.Grammar.{rule, token, Grammar}
use Rattle.lr_theory.specs.Automaton.{Action, Automaton}
use Rattle.cfg_theory.specs.SmallGrammar.{production}
use Rattle.lr_theory.specs.SmallGrammars.{tiny}
use Rattle.table_theory.specs.Cells.{Left, Precedences, NoPrecedences, Candidates, ListsPair, ListsShiftOf, SettlesShiftOf, pairs_at, shifts_at, cell_of}
use Rattle.table_theory.specs.CellLaws.{IsTold}
use Rattle.table_theory.specs.TableCells.{IsBuilt, listed_conflicts}

abbrev pub no_precedences : Precedences
no_precedences = record { of_token = λ t. None; of_production = λ p. None }

-- the tokens have the level 1, the productions this one
abbrev pub left_against : ℕ → Precedences
left_against level = record { of_token = λ t. Some (record { level = 1; kind = Left }); of_production = λ p. Some (record { level = level; kind = Left }) }

-- the tokens alone have a precedence, and the productions alone
abbrev pub token_level : Precedences
token_level = record { of_token = λ t. Some (record { level = 1; kind = Left }); of_production = λ p. None }

abbrev pub production_level : Precedences
production_level = record { of_token = λ t. None; of_production = λ p. Some (record { level = 1; kind = Left }) }

-- reductions by 3 and by 5, and a shift to the state 7
abbrev pub meeting : Candidates
meeting = record { reductions = 3 ∷ 5 ∷ []; edge = Some 7; accepts = false }

-- on the token 0 in the state 2
pub record MeetingIsSettled : Type 0 where
  pub shifts : cell_of no_precedences 0 meeting ≡ Action.shift 7
  pub lists_pair : ListsPair meeting.reductions 3 5
  pub pairs : pairs_at 2 0 meeting.reductions ≡ (0, 3, 5, 2) ∷ []
  pub lists_shift : ListsShiftOf no_precedences 0 meeting 3
  pub shift_entries : shifts_at 2 0 meeting.reductions meeting.edge None (λ p. None) ≡ (0, 3, 2) ∷ []
  -- a lower production, an equal one and a higher one
  pub lower : cell_of (left_against 0) 0 meeting ≡ Action.shift 7
  pub equal : cell_of (left_against 1) 0 meeting ≡ Action.reduce 3
  pub higher : cell_of (left_against 2) 0 meeting ≡ Action.reduce 3
  pub settled : SettlesShiftOf (left_against 1) 0 meeting 3
  -- without a shift, the least reduction
  pub least : cell_of no_precedences 0 (record { reductions = 3 ∷ 5 ∷ []; edge = None; accepts = false }) ≡ Action.reduce 3
  -- where the token alone has a precedence, or the production alone, the cell shifts and the conflict is listed
  pub token_alone : cell_of token_level 0 meeting ≡ Action.shift 7
  pub lists_token_alone : shifts_at 2 0 meeting.reductions meeting.edge (token_level.of_token 0) token_level.of_production ≡ (0, 3, 2) ∷ []
  pub is_token_alone : ListsShiftOf token_level 0 meeting 3
  pub production_alone : cell_of production_level 0 meeting ≡ Action.shift 7
  pub lists_production_alone : shifts_at 2 0 meeting.reductions meeting.edge (production_level.of_token 0) production_level.of_production ≡ (0, 3, 2) ∷ []
  pub is_production_alone : ListsShiftOf production_level 0 meeting 3
  -- and where both have one, it isn't
  pub lists_none : shifts_at 2 0 meeting.reductions meeting.edge ((left_against 1).of_token 0) (left_against 1).of_production ≡ []

-- `S: S | x;`: behind S the end token leaves accept and the reduction by the production 0
abbrev pub endless : Grammar
endless = record { rules = 2; tokens = 2; productions = production 1 (rule 1 ∷ []) ∷ production 1 (token 0 ∷ []) ∷ production 0 (rule 1 ∷ []) ∷ []; start = 2 }

pub record EndlessIsRefused : Type 0 where
  pub told : IsTold endless 0

-- `^: S; S: ;` has a table by the rules, and nothing is listed
pub record TinyHasTable : Type 0 where
  pub automaton : Automaton
  pub none_declared : NoPrecedences no_precedences
  pub built : IsBuilt tiny no_precedences automaton
  pub unlisted : listed_conflicts tiny no_precedences automaton ≡ None
