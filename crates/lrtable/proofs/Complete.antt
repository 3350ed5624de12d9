-- Cores of which no item has a symbol behind its dot: they are their own closures, and all symbols are handled at once.
use Rattle.std.proofs.Common.{◌≡◌, ℕ, zero, suc, ◌+◌, ◌<◌, ◌≤◌, List, length, get_or, sym, subst, subst₂, arith}
use Rattle.std.proofs.lemmas.List.{get_or_default}
use Rattle.cfg_theory.specs.Grammar.{Sym, rule, Grammar, IsNext}
use Rattle.lr_theory.specs.Itemset.{ItemSet, HasItem, HasLook, Closure, ClosureLook, Is}
use Rattle.lr_theory.specs.Graph.{core_of}
use Rattle.lr_theory.specs.Building.{Building, symbols}
use Rattle.lr_theory.proofs.Closure.{closed_least, closed_look_least}
use Rattle.state_table.specs.ItemRows.{Core, IsCoreOf, map_of}
use Rattle.state_table.proofs.ItemSets.{has_item}
use Rattle.lrtable.specs.Handling.{AreReached, AreHandled}
use Rattle.lrtable.specs.States.{StateValue, state_at}
use Rattle.lrtable.specs.Stepping.{HaveNoNext, set_off}
use Rattle.lrtable.proofs.Handling.{skipped}
use Rattle.lrtable.proofs.Placing.{core_is}
use Rattle.lrtable.proofs.Ranks.{symbol_count}
use Rattle.lrtable.proofs.Stepping.{none_handled}

module _ (G : Grammar) (c : Core) (fits : IsCoreOf G.tokens c) (none : HaveNoNext G c.items (length c.items)) where
  item_ends : (p d : ℕ) → HasItem (map_of c) p d → (X : Sym) → IsNext G p d X → ⊥
  item_ends p d i X n =
      let (k, at) = (has_item c.items c.rows fits.ascends fits.count p d).0 i in
      none k at.within (record { production = p; dot = d }) X (subst₂ (λ q e. IsNext G q e X) (sym at.production) (sym at.dot) n)

  pub closure_ends : {p d : ℕ} → Closure G (HasItem (map_of c)) p d → (X : Sym) → IsNext G p d X → ⊥
  closure_ends x = closed_least G (HasItem (map_of c)) (λ p d. (X : Sym) → IsNext G p d X → ⊥) item_ends (λ p d A q r n o. absurd (r (rule A) n)) x

  pub own_closure : Is (map_of c) (Closure G (HasItem (map_of c))) (ClosureLook G (HasItem (map_of c)) (HasLook (map_of c)))
  own_closure = record {
    items = λ p d. (λ x. closed_least G (HasItem (map_of c)) (HasItem (map_of c)) (λ q e i. i) (λ q e A r i n o. absurd (item_ends q e i (rule A) n)) x, λ i. Closure.given i);
    looks = λ p d t. (
      λ x. closed_look_least G (HasItem (map_of c)) (HasLook (map_of c)) (HasLook (map_of c)) (λ q e u l. l) (λ q e A r u i n o f. absurd (closure_ends i (rule A) n)) (λ q e A r u l n o z. absurd (item_ends q e (record { lookaheads = l.lookaheads; at = l.at }) (rule A) n)) x,
      λ l. ClosureLook.given l,
    );
  }

module _ (G : Grammar) (states : List StateValue) (h : AreReached G states) (s : ℕ) (lt : s < length states) (none : HaveNoNext G (state_at states s).core.items (length (state_at states s).core.items)) where
  closed : {p d : ℕ} → Closure G (HasItem (core_of h.building.graph s)) p d → (X : Sym) → IsNext G p d X → ⊥
  closed {p} {d} x = closure_ends G (state_at states s).core (h.cores.cores s lt) none (subst (λ (m : ItemSet). Closure G (HasItem m) p d) (core_is states h.building s h.matches) x)

  handled : (n : ℕ) → n ≤ length (symbols G) → AreHandled G h.building s n (set_off states s)
  handled zero le = none_handled states h.building s h.matches lt G h.cores
  handled (suc n) le =
      let low : n < length (symbols G) = omega (arith, le) in
      let e : n + 1 ≡ suc n = omega arith in
      subst (λ m. AreHandled G h.building s m (set_off states s)) e
      (skipped G h.building s n (set_off states s) (handled n (omega (arith, le))) (get_or (symbols G) n (rule 0)) low (get_or_default (symbols G) n (get_or (symbols G) n (rule 0)) (rule 0) low) (λ p d x. closed x (get_or (symbols G) n (rule 0))))

  pub all_handled : AreHandled G h.building s (G.rules + G.tokens) (set_off states s)
  all_handled = handled (G.rules + G.tokens) (let e = symbol_count G in omega (arith, e))
