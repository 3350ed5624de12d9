-- Where edges lead to all states, nothing is left out of them.
use Rattle.std.proofs.Common.{◌≡◌, ℕ, ◌+◌, ◌<◌, inl, inr, Bool, true, false, List, [], ◌∷◌, length, get_or, set, map, take, replicate, refl, sym, ap, ap₂, ◌∙◌, subst, arith, length-set}
use Rattle.std.specs.Prelude.{IsTrue}
use Rattle.std.specs.List.{Contains, range_with_len}
use Rattle.std.proofs.lemmas.Bool.{cases_eq}
use Rattle.std.proofs.lemmas.List.{ext_get_or, length-map, length-replicate, get_or-map}
use Rattle.std.proofs.lemmas.List.FromFn.{length-range_with_len, get_or-range_with_len}
use Rattle.std.proofs.lemmas.List.Elements.{Contains-append_left, Contains-push}
use Rattle.table_theory.proofs.CellLists.{contains_head, contains_tail}
use Rattle.cfg_theory.specs.Grammar.{Sym}
use Rattle.vob.specs.Sets.{is_set}
use Rattle.vob.proofs.Bits.{none_set, put_in}
use Rattle.lr_theory.specs.Graph.{Leads}
use Rattle.lrtable.specs.States.{Edge, StateValue, no_state, state_at}
use Rattle.lrtable.specs.Pruning.{graph_of_states, IsLed, AreLinked, IsTargetOf, Flagged, renumbered, renumbered_state, IsCut}
use Rattle.lrtable.proofs.Marking.{edge_leads, target_within}
use Rattle.lrtable.proofs.OpenLaws.{map_next}

-- ---- flags of targets

pub flagged_none : (flags : List Bool) → Flagged (IsTargetOf []) flags flags
flagged_none flags = record { size = refl; only = λ s x. inl x }

pub flagged_more : {X : Type 0} (f : X → Edge) (xs : List X) (i : ℕ) (x : X) (a b c : List Bool) → i < length xs → x ≡ get_or xs i x → (f x).target < length b → c ≡ set b (f x).target true → Flagged (IsTargetOf (map f (take i xs))) a b → Flagged (IsTargetOf (map f (take (i + 1) xs))) a c
flagged_more f xs i x a b c lt is within put h = subst (λ (l : List Edge). Flagged (IsTargetOf l) a c) (sym (map_next f xs i x lt is)) (record {
  size = ap length put ∙ (length-set b (f x).target true ∙ h.size);
  only = λ s y. elim ((put_in b (f x).target s within).0 (subst (λ (l : List Bool). IsTrue (is_set l s)) put y)) [
    | inl z ↦ elim (h.only s z) [ inl w ↦ inl w | inr t ↦ inr (t.0, Contains-append_left es (f x ∷ []) t.0 t.1, t.2) ]
    | inr q ↦ inr (f x, Contains-push es (f x), q)
  ];
})
  where
    es : List Edge
    es = map f (take i xs)

-- ---- the states in order, with flags for those that are known to be led to

-- edges lead to the states that have a flag, and to the first n
pub record AreLedBelow (states : List StateValue) (n : ℕ) (flags : List Bool) : Type 0 where
  pub size : length flags ≡ length states
  pub flagged : (s : ℕ) → IsTrue (is_set flags s) → IsLed states s
  pub below : (s : ℕ) → s < n → IsLed states s

pub led_begins : (states : List StateValue) (n : ℕ) (none flags : List Bool) → n ≡ length states → 0 < n → none ≡ replicate n false → flags ≡ set none 0 true → AreLedBelow states 0 flags
led_begins states n none flags count some empty put =
    let wide = ap length empty ∙ length-replicate n false in
    record {
      size = ap length put ∙ (length-set none 0 true ∙ (wide ∙ count));
      flagged = λ s x. elim ((put_in none 0 s (omega (arith, wide, some))).0 (subst (λ (l : List Bool). IsTrue (is_set l s)) put x)) [
        | inl y ↦ absurd (none_set n s (subst (λ (l : List Bool). IsTrue (is_set l s)) empty y))
        | inr q ↦ ([], Leads.none (sym q))
      ];
      below = λ s lt. absurd (omega (arith, lt));
    }

pub led_on : (states : List StateValue) (n : ℕ) (old new : List Bool) → AreLinked states → n < length states → IsTrue (is_set old n) → Flagged (IsTargetOf (state_at states n).edges) old new → AreLedBelow states n old → AreLedBelow states (n + 1) new
led_on states n old new linked lt here f h = record {
  size = f.size ∙ h.size;
  flagged = λ s x. elim (f.only s x) [ inl y ↦ h.flagged s y | inr t ↦ edge_leads states n s linked lt (h.flagged n here) t ];
  below = λ s l. elim (cases_eq s n) [ inl q ↦ subst (IsLed states) (sym q) (h.flagged n here) | inr ne ↦ h.below s (omega (arith, l, ne)) ];
}

-- ---- all are led to

module _ (states : List StateValue) (some : 0 < length states) (linked : AreLinked states) (all : (s : ℕ) → s < length states → IsLed states s) where
  abbrev numbers : List ℕ
  numbers = range_with_len 0 (length states)

  count : length numbers ≡ length states
  count = length-range_with_len 0 (length states)

  at : (k d : ℕ) → k < length states → get_or numbers k d ≡ k
  at k d lt = let e : 0 + k ≡ k = omega arith in get_or-range_with_len 0 (length states) k d lt ∙ e

  abbrev with_target : Sym → ℕ → Edge
  with_target X t = record { symbol = X; target = t }

  abbrev with_edges : StateValue → List Edge → StateValue
  with_edges s es = record { core = s.core; edges = es; todo = s.todo }

  same_edges : (es : List Edge) → ((e : Edge) → Contains es e → e.target < length states) → map (renumbered numbers) es ≡ es
  same_edges [] within = refl
  same_edges (e ∷ es) within =
      ap₂ (λ (x : Edge) (xs : List Edge). x ∷ xs) (ap (with_target e.symbol) (at e.target 0 (within e (contains_head e es)))) (same_edges es (λ f m. within f (contains_tail e f es m)))

  same_state : (k : ℕ) → k < length states → renumbered_state numbers (state_at states k) ≡ state_at states k
  same_state k lt = ap (with_edges (state_at states k)) (same_edges (state_at states k).edges (λ e m. target_within states k e linked lt m))

  led_within : {w : List Sym} {s : ℕ} → Leads (graph_of_states states) w s → s < length states
  led_within (Leads.none e) = subst (λ k. k < length states) (sym e) some
  led_within (Leads.on {X = X} {s = r} {target = k} l e) = linked.targets r k X e

  kept_within : (k : ℕ) → Contains numbers k → k < length states
  kept_within k (i, lt, is) = let n = count in let low : i < length states = omega (arith, lt, n) in subst (λ j. j < length states) (sym (at i k low) ∙ is) low

  pub cut_whole : IsCut states states
  cut_whole = record {
    kept = numbers;
    numbers = numbers;
    few = (let n = count in omega (arith, n));
    ascends = λ i j d lt within. (let n = count in let low : j < length states = omega (arith, within, n) in let a = at i d (omega (arith, lt, low)) in let b = at j d low in omega (arith, a, b, lt));
    within = kept_within;
    led = λ k m. all k (kept_within k m);
    number = λ s l. (
        let low = led_within l.1 in
        let n = count in
        let a = at s 0 low in
        (omega (arith, a, low, n), ap (λ k. get_or numbers k 0) a ∙ a)
        );
    value = ext_get_or no_state states (map (λ k. renumbered_state numbers (state_at states k)) numbers) (sym count ∙ sym (length-map numbers (λ k. renumbered_state numbers (state_at states k))))
        (λ i lt. (let n = count in sym (get_or-map (λ k. renumbered_state numbers (state_at states k)) numbers i 0 no_state (omega (arith, lt, n)) ∙ (ap (λ k. renumbered_state numbers (state_at states k)) (at i 0 lt) ∙ same_state i lt))));
  }
