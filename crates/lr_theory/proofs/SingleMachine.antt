-- What the laws ask is met by `^: S; S: x;`: its automaton, with a shift, a reduction and accept.
use Rattle.std.proofs.Common.{◌≡◌, ℕ, zero, suc, ◌<◌, true, false, nat_eq, cond, ◌&&◌, List, [], ◌∷◌, length, get_or, Some, None, refl, sym, ap, ◌∙◌, subst, arith}
use Rattle.cfg_theory.specs.Grammar.{rule, token, head_of, body_of, IsNext}
use Rattle.cfg_theory.specs.Derivation.{Derives, AllProductive}
use Rattle.cfg_theory.proofs.Derivation.{derives_rule}
use Rattle.lr_theory.specs.Canonical.{Act, Allows}
use Rattle.lr_theory.specs.Itemset.{Is}
use Rattle.lr_theory.specs.Graph.{StateItem, StateLook}
use Rattle.lr_theory.specs.Building.{with_edge}
use Rattle.lr_theory.specs.Automaton.{shift, reduce, accept, closed_of, ClosedItem, ClosedLook}
use Rattle.lr_theory.specs.Table.{ClosesCores, CellsFit, IsAutomatonOf, InCell, FillsCells}
use Rattle.lr_theory.specs.TableLaws.{IsUncontested}
use Rattle.lr_theory.specs.ErrorPlaces.{IsReady}
use Rattle.lr_theory.specs.Chains.{push_goto, reduction, Reductions}
use Rattle.lr_theory.specs.SmallGrammars.{single, single_graph, single_action, single_machine, MeetsLaws}
use Rattle.lr_theory.proofs.Literal.{none_some, each_item, each_look}
use Rattle.lr_theory.proofs.Table.{empty_has, has_present, uncontested_of, allows_closed, one_cell}
use Rattle.lr_theory.proofs.TableLaws.{machine_is_exact}
use Rattle.lr_theory.proofs.SingleGraph.{next_each, of0, body0, body1, good, before_rule, one_entry, item_one, look_one, closed0, closed0_is, closed1_is, closed2_is, is_graph}

closes : ClosesCores single single_machine
closes = record { count = refl; is = is }
  where
    is : (s : ℕ) → s < 3 → Is (closed_of single_machine s) (StateItem single single_graph s) (StateLook single single_graph s)
    is zero h = closed0_is
    is (suc zero) h = closed1_is
    is (suc (suc zero)) h = closed2_is
    is (suc (suc (suc s))) h = absurd (omega arith)

to_token : single_graph.edge 0 (token 0) ≡ Some 2
unfolding with_edge
to_token = refl

shifts : (s t q : ℕ) → single_action s t ≡ shift q → single_graph.edge s (token t) ≡ Some q
shifts zero zero q e = to_token ∙ ap Some (let x : 2 ≡ q = cc in x)
shifts zero (suc t) q e = cc
shifts (suc zero) zero q e = cc
shifts (suc zero) (suc zero) q e = cc
shifts (suc zero) (suc (suc t)) q e = cc
shifts (suc (suc zero)) zero q e = cc
shifts (suc (suc zero)) (suc zero) q e = cc
shifts (suc (suc zero)) (suc (suc t)) q e = cc
shifts (suc (suc (suc s))) t q e = cc

reduces : (s t p : ℕ) → single_action s t ≡ reduce p → (s ≡ 2) × (t ≡ 1) × (p ≡ 0)
reduces zero zero p e = cc
reduces zero (suc t) p e = cc
reduces (suc zero) zero p e = cc
reduces (suc zero) (suc zero) p e = cc
reduces (suc zero) (suc (suc t)) p e = cc
reduces (suc (suc zero)) zero p e = cc
reduces (suc (suc zero)) (suc zero) p e = (refl, refl, (let x : p ≡ 0 = cc in x))
reduces (suc (suc zero)) (suc (suc t)) p e = cc
reduces (suc (suc (suc s))) t p e = cc

accepts : (s t : ℕ) → single_action s t ≡ accept → (s ≡ 1) × (t ≡ 1)
accepts zero zero e = cc
accepts zero (suc t) e = cc
accepts (suc zero) zero e = cc
accepts (suc zero) (suc zero) e = (refl, refl)
accepts (suc zero) (suc (suc t)) e = cc
accepts (suc (suc zero)) zero e = cc
accepts (suc (suc zero)) (suc zero) e = cc
accepts (suc (suc zero)) (suc (suc t)) e = cc
accepts (suc (suc (suc s))) t e = cc

reduced_look : (s t p : ℕ) → s ≡ 2 → t ≡ 1 → p ≡ 0 → ClosedLook single_machine s p (length (body_of single p)) t
reduced_look s t p x y z = rw (x, y, z) (subst (λ d. ClosedLook single_machine 2 0 d 1) (sym (ap length body0)) (look_one 0 1))

accepted_item : (s : ℕ) → s ≡ 1 → ClosedItem single_machine s 1 (length (body_of single 1))
accepted_item s x = rw x (subst (ClosedItem single_machine 1 1) (sym (ap length body1)) (item_one 1 1))

cells : CellsFit single single_machine
cells = record {
  gotos = λ s A. refl;
  shifts = shifts;
  reduces = λ s t p e. let (x, y, z) = reduces s t p e in (omega arith, reduced_look s t p x y z);
  accepts = λ s t e. let (x, y) = accepts s t e in (y, accepted_item s x);
}

is_automaton : IsAutomatonOf single single_machine
is_automaton = record { graph = is_graph; closed = closes; cells = cells }

-- each action that a state allows stands in its cell
shifted : (s p d t : ℕ) → ClosedItem single_machine s p d → IsNext single p d (token t) → InCell (single_action s t) Act.shift
shifted zero p d t i n = next_each (λ p d X. X ≡ token t → InCell (single_action 0 t) Act.shift) (λ e. (2, ap (single_action 0) (let x : t ≡ 0 = cc in x))) (λ e. cc) p d (token t) n refl
shifted (suc zero) p d t i n = next_each (λ p d X. d ≡ 1 → InCell (single_action 1 t) Act.shift) (λ e. absurd (omega arith)) (λ e. absurd (omega arith)) p d (token t) n (each_item (one_entry 1 1) (λ p d. d ≡ 1) (refl, tt) p d i)
shifted (suc (suc zero)) p d t i n = next_each (λ p d X. d ≡ 1 → InCell (single_action 2 t) Act.shift) (λ e. absurd (omega arith)) (λ e. absurd (omega arith)) p d (token t) n (each_item (one_entry 0 1) (λ p d. d ≡ 1) (refl, tt) p d i)
shifted (suc (suc (suc s))) p d t i n = absurd (empty_has p d i)

-- a complete item has its dot past nought
complete_past : (s p t : ℕ) → ClosedLook single_machine s p (length (body_of single p)) t → (p ≡ 1 → ⊥) → InCell (single_action s t) (Act.reduce p)
complete_past zero p t l ne = by p t (length (body_of single p)) refl ne (each_look closed0 (λ p d t. (d ≡ 0) × (p < 2)) (((refl, omega arith), tt), (((refl, omega arith), tt), tt)) p (length (body_of single p)) t l)
  where
    by : (p t d : ℕ) → length (body_of single p) ≡ d → (p ≡ 1 → ⊥) → (d ≡ 0) × (p < 2) → InCell (single_action 0 t) (Act.reduce p)
    by zero t d x ne (y, z) = let w = ap length body0 in absurd (omega arith)
    by (suc zero) t d x ne (y, z) = absurd (ne refl)
    by (suc (suc p)) t d x ne (y, z) = absurd (omega arith)
complete_past (suc zero) p t l ne = absurd (ne (each_look (one_entry 1 1) (λ p d t. p ≡ 1) ((refl, tt), tt) p (length (body_of single p)) t l))
complete_past (suc (suc zero)) p t l ne = let (x, y) = each_look (one_entry 0 1) (λ p d t. (p ≡ 0) × (t ≡ 1)) (((refl, refl), tt), tt) p (length (body_of single p)) t l in rw (x, y) refl
complete_past (suc (suc (suc s))) p t l ne = absurd (empty_has p (length (body_of single p)) (record { lookaheads = l.lookaheads; at = l.at }))

start_complete : (s t : ℕ) → t ≡ 1 → ClosedItem single_machine s 1 (length (body_of single 1)) → InCell (single_action s t) Act.accept
start_complete zero t e i = let x = each_item closed0 (λ p d. d ≡ 0) (refl, (refl, tt)) 1 (length (body_of single 1)) i in let y = ap length body1 in absurd (omega arith)
start_complete (suc zero) t e i = ap (single_action 1) e
start_complete (suc (suc zero)) t e i = let x = each_item (one_entry 0 1) (λ p d. p ≡ 0) (refl, tt) 1 (length (body_of single 1)) i in absurd (omega arith)
start_complete (suc (suc (suc s))) t e i = absurd (empty_has 1 (length (body_of single 1)) i)

in_cell : (s t : ℕ) (b : Act) → Allows single (ClosedItem single_machine s) (ClosedLook single_machine s) t b → InCell (single_action s t) b
in_cell s t Act.shift (p, d, i, n) = shifted s p d t i n
in_cell s t (Act.reduce p) (ne, l) = complete_past s p t l ne
in_cell s t Act.accept (e, i) = start_complete s t e i

fills : FillsCells single single_machine
fills = record { lone = λ s t b h only. in_cell s t b h }

uncontested : IsUncontested single
uncontested = uncontested_of single good single_machine is_automaton (λ s t b c k.
    let down = allows_closed single good single_machine is_automaton s t k.state in
    k.contest.differ (one_cell (single_action s t) b c (in_cell s t b (down b k.contest.one)) (in_cell s t c (down c k.contest.other))))

productive : AllProductive single
productive p d A n = (0 ∷ [], subst (λ X. Derives single (rule X ∷ []) (token 0 ∷ [])) (sym (before_rule p d A n).2) (derives_rule single of0 (subst (λ a. Derives single a (token 0 ∷ [])) (sym body0) Derives.none)))

-- no more than one reduction comes on a token
reduced_on : (s t : ℕ) (ss rest : List ℕ) → reduction single single_machine t (s ∷ ss) ≡ Some rest → s ≡ 2
reduced_on zero zero ss rest e = cc
reduced_on zero (suc t) ss rest e = cc
reduced_on (suc zero) zero ss rest e = cc
reduced_on (suc zero) (suc zero) ss rest e = cc
reduced_on (suc zero) (suc (suc t)) ss rest e = cc
reduced_on (suc (suc zero)) t ss rest e = refl
reduced_on (suc (suc (suc s))) t ss rest e = cc

no_goto : (p : ℕ) → single_graph.edge (suc p) (rule 1) ≡ None
unfolding with_edge
no_goto p = ap (λ b. cond (b && false) (Some 2) (cond (b && true) (Some 1) None)) past
  where
    past : nat_eq (suc p) 0 ≡ false
    past = grind arith

-- and it leaves the state 1
leaves : (t : ℕ) (ss rest : List ℕ) → reduction single single_machine t (2 ∷ ss) ≡ Some rest → (p : ℕ) × (ss' : List ℕ) × (ss ≡ p ∷ ss') × (rest ≡ 1 ∷ p ∷ ss')
unfolding body_of head_of with_edge
leaves zero ss rest e = cc
leaves (suc zero) [] rest e = cc
leaves (suc zero) (zero ∷ ss) rest e = (0, ss, refl, (let x : rest ≡ 1 ∷ 0 ∷ ss = cc in x))
leaves (suc zero) (suc p ∷ ss) rest e = absurd (none_some rest (ap (λ o. push_goto o (suc p ∷ ss)) (sym (no_goto p)) ∙ e))
leaves (suc (suc t)) ss rest e = cc

once : (t s : ℕ) (ss : List ℕ) → Reductions single single_machine t 2 (s ∷ ss) → ⊥
once t s ss (one, e, (two, f, _)) =
    let (p, ss', _, x) = leaves t ss one (subst (λ s. reduction single single_machine t (s ∷ ss) ≡ Some one) (reduced_on s t ss one e) e) in
    let z = reduced_on 1 t (p ∷ ss') two (subst (λ l. reduction single single_machine t l ≡ Some two) x f) in
    absurd (omega arith)

pub single_meets : MeetsLaws single single_machine (rule 1) 1
single_meets = record {
  well_formed = good;
  graph = is_graph;
  is_automaton = is_automaton;
  fills = fills;
  uncontested = uncontested;
  productive = productive;
  ready = subst (IsReady single single_machine) (ap (λ b. get_or b 0 (rule 0)) body1) ((machine_is_exact ℕ).ready single single_machine good is_automaton fills uncontested);
  present = has_present single good single_machine is_automaton;
  chains = record { from_state = λ p t. once t p []; from_goto = λ p r q t e. once t q (p ∷ []) };
}
