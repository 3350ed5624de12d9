-- Small tables: a cell in which actions meet, a refused grammar, and a grammar with its table.
use Rattle.std.proofs.Common.{◌≡◌, ℕ, zero, suc, ◌<◌, inl, true, false, List, [], ◌∷◌, refl, arith}
use Rattle.std.specs.Prelude.{AllPairs, IsTrue}
use Rattle.cfg_theory.specs.Grammar.{rule, IsOf, IsNext, head_of, body_of}
use Rattle.cfg_theory.specs.Derivation.{Derives, Nullable}
use Rattle.lr_theory.specs.Canonical.{Present, Look, from_dot}
use Rattle.lr_theory.specs.Building.{with_edge}
use Rattle.lr_theory.specs.Automaton.{Action, closed_of}
use Rattle.lr_theory.specs.SmallGrammars.{tiny}
use Rattle.lr_theory.proofs.GraphExample.{is_graph}
use Rattle.lr_theory.proofs.MachineExample.{tiny_action, tiny_lr, tiny_closes}
use Rattle.lr_theory.specs.Itemset.{ItemBefore}
use Rattle.table_theory.specs.Cells.{cell_of}
use Rattle.table_theory.specs.TableCells.{candidates_of, HasCells}
use Rattle.table_theory.specs.SmallTables.{no_precedences, endless, MeetingIsSettled, EndlessIsRefused, TinyHasTable}

pub meeting_is_settled : MeetingIsSettled
meeting_is_settled = record {
  shifts = refl;
  lists_pair = (refl, (0, omega arith, refl));
  pairs = refl;
  lists_shift = (refl, tt);
  shift_entries = refl;
  lower = refl;
  equal = refl;
  higher = refl;
  settled = (refl, tt);
  least = refl;
  token_alone = refl;
  lists_token_alone = refl;
  is_token_alone = (refl, tt);
  production_alone = refl;
  lists_production_alone = refl;
  is_production_alone = (refl, tt);
  lists_none = refl;
}

start_next : IsNext endless 2 0 (rule 1)
unfolding body_of
start_next = record { at = refl }

self_next : IsNext endless 0 0 (rule 1)
unfolding body_of
self_next = record { at = refl }

self_of : IsOf endless 0 1
unfolding head_of
self_of = record { in_range = omega arith; head = refl }

nothing_left : Nullable endless (from_dot endless 2 1)
unfolding body_of
nothing_left = Derives.none

pub endless_is_refused : EndlessIsRefused
unfolding body_of
endless_is_refused = record {
  told = record {
    symbol = rule 1;
    body = refl;
    complete = Present.moved (Present.start refl) start_next;
    end = 1;
    is_end = refl;
    other = λ e. absurd (omega (arith, e));
    look = Look.moved (Look.passed (Look.start refl refl) start_next self_of nothing_left) self_next;
    least = λ q d l. omega arith;
  };
}

cells_inside : (s t : ℕ) → s < 2 → t < 1 → tiny_action s t ≡ cell_of no_precedences t (candidates_of tiny tiny_lr s t)
unfolding body_of with_edge
cells_inside zero zero h k = refl
cells_inside zero (suc t) h k = absurd (omega (arith, k))
cells_inside (suc zero) zero h k = refl
cells_inside (suc zero) (suc t) h k = absurd (omega (arith, k))
cells_inside (suc (suc s)) t h k = absurd (omega (arith, h))

no_state : (s t : ℕ) → (s < 2 → ⊥) → tiny_action s t ≡ Action.error
no_state zero t h = absurd (h (omega arith))
no_state (suc zero) t h = absurd (h (omega arith))
no_state (suc (suc s)) t h = refl

no_token : (s t : ℕ) → (t < 1 → ⊥) → tiny_action s t ≡ Action.error
no_token s zero h = absurd (h (omega arith))
no_token zero (suc t) h = refl
no_token (suc zero) (suc t) h = refl
no_token (suc (suc s)) (suc t) h = refl

in_order : (s : ℕ) → s < 2 → AllPairs ItemBefore (closed_of tiny_lr s)
in_order zero h = by
  where
    by : AllPairs ItemBefore (closed_of tiny_lr 0)
    by zero zero d lt le = absurd (omega (arith, lt))
    by zero (suc zero) d lt le = inl (omega arith)
    by zero (suc (suc j)) d lt le = absurd (omega (arith, le))
    by (suc i) j d lt le = absurd (omega (arith, lt, le))
in_order (suc zero) h = λ i j d lt le. absurd (omega (arith, lt, le))
in_order (suc (suc s)) h = absurd (omega (arith, h))

tiny_cells : HasCells tiny no_precedences tiny_lr
tiny_cells = record {
  order = in_order;
  inside = cells_inside;
  past_states = no_state;
  past_tokens = no_token;
  gotos = λ s A. refl;
}

cons_nil : (p : ℕ) (rest : List ℕ) → [] ≡ p ∷ rest → ⊥
cons_nil p rest e = cc

false_true : false ≡ true → ⊥
false_true e = cc

refuses_none : (s t p : ℕ) (rest : List ℕ) → s < 2 → t ≡ 0 → IsTrue (candidates_of tiny tiny_lr s t).accepts → (candidates_of tiny tiny_lr s t).reductions ≡ p ∷ rest → ⊥
unfolding body_of with_edge
refuses_none zero zero p rest h e a r = false_true a
refuses_none (suc zero) zero p rest h e a r = cons_nil p rest r
refuses_none zero (suc t) p rest h e a r = absurd (omega (arith, e))
refuses_none (suc zero) (suc t) p rest h e a r = absurd (omega (arith, e))
refuses_none (suc (suc s)) t p rest h e a r = absurd (omega (arith, h))

pub tiny_has_table : TinyHasTable
unfolding body_of with_edge
tiny_has_table = record {
  automaton = tiny_lr;
  none_declared = record { of_token = λ t. refl; of_production = λ p. refl };
  built = record { graph = is_graph; closed = tiny_closes; cells = tiny_cells; not_refused = λ p r. refuses_none r.state r.end p r.rest r.is_state r.is_end r.accepts r.least };
  unlisted = refl;
}
