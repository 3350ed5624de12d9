-- Where the building begins: the start state alone.
use Rattle.std.proofs.Common.{◌≢◌, ◌≡◌, ℕ, zero, suc, ◌<◌, ◌⊎◌, inl, inr, ◌↔◌, Bool, true, false, List, [], ◌∷◌, ◌++◌, length, get_or, map, set, replicate, refl, sym, ap, ap₂, ◌∙◌, subst, arith}
use Rattle.std.specs.Prelude.{IsTrue}
use Rattle.std.specs.List.{Contains, AllPairs}
use Rattle.std.proofs.lemmas.List.{length-replicate, length-set}
use Rattle.cfg_theory.specs.Grammar.{Grammar, IsEnd, end_token}
use Rattle.vob.specs.Sets.{is_set}
use Rattle.vob.proofs.Bits.{none_set, put_in}
use Rattle.lr_theory.specs.Itemset.{HasItem, HasLook, StartItem, StartLook}
use Rattle.lrtable.specs.Handling.{AreReached}
use Rattle.state_table.specs.ItemRows.{Item, IsAt, Core, IsCoreOf, map_of}
use Rattle.state_table.specs.Meeting.{row, rows_in}
use Rattle.vob.specs.Packed.{Contents}
use Rattle.state_table.specs.CoreViews.{items_of, core_of_set}
use Rattle.lrtable.specs.StateViews.{edges_of, value_of}
use Rattle.state_table.specs.declared.cores.CoreItem.{CoreItem}
use Rattle.lrtable.specs.declared.states.State.{State}
use Rattle.lrtable.proofs.Buckets.{cases_item}
use Rattle.lrtable.specs.States.{StateValue, Edge, state_at, AreBuckets, first_item, list_at}
use Rattle.lrtable.proofs.Handling.{begun}
use Rattle.state_table.proofs.ItemSets.{has_item, has_look}

-- the set of the end token
pub end_bits : (G : Grammar) (n e : ℕ) (bits : List Bool) → n ≡ G.tokens → e ≡ end_token G → e < G.tokens → bits ≡ set (replicate n false) e true → (length bits ≡ G.tokens) × ((t : ℕ) → IsTrue (is_set bits t) ↔ IsEnd G t)
end_bits G n e bits q r lt is = (
  ap length is ∙ length-set (replicate n false) e true ∙ length-replicate n false ∙ q,
  λ t.
      let p = put_in (replicate n false) e t (let l = length-replicate n false in omega (arith, l, q, lt)) in (
        λ h. elim (p.0 (subst (λ l. IsTrue (is_set l t)) is h)) [ inl x ↦ absurd (none_set n t x) | inr x ↦ sym x ∙ r ],
        λ h. subst (λ l. IsTrue (is_set l t)) (sym is) (p.1 (inr (r ∙ sym h))),
      ),
)

module _ (G : Grammar) (bits : List Bool) (wide : length bits ≡ G.tokens) (ends : (t : ℕ) → IsTrue (is_set bits t) ↔ IsEnd G t) where
  abbrev start : Core
  start = record { items = record { production = G.start; dot = 0 } ∷ []; rows = bits ∷ [] }

  good : IsCoreOf G.tokens (record { items = record { production = G.start; dot = 0 } ∷ []; rows = bits ∷ [] })
  good = record { ascends = λ i j d lt within. absurd (omega (arith, lt, within)); count = refl; width = width }
    where
      width : (k : ℕ) → k < 1 → length (get_or (bits ∷ []) k []) ≡ G.tokens
      width zero lt = wide
      width (suc k) lt = absurd (omega (arith, lt))

  keys : (k p d : ℕ) → IsAt (record { production = G.start; dot = 0 } ∷ []) k p d → (k ≡ 0) × (p ≡ G.start) × (d ≡ 0)
  keys zero p d h = (refl, sym h.production, sym h.dot)
  keys (suc k) p d h = absurd (let w = h.within in omega (arith, w))

  here : (p : ℕ) → p ≡ G.start → IsAt (record { production = G.start; dot = 0 } ∷ []) 0 p 0
  here p e = record { within = omega arith; production = sym e; dot = refl }

  to : {p d : ℕ} → StartItem G p d → HasItem (map_of start) p d
  to (StartItem.start {p} e) = (has_item start.items start.rows good.ascends good.count p 0).1 (0, here p e)

  back : (p d : ℕ) → HasItem (map_of start) p d → StartItem G p d
  back p d h = let (k, at) = (has_item start.items start.rows good.ascends good.count p d).0 h in let s = keys k p d at in subst (λ e. StartItem G p e) (sym s.2) (StartItem.start s.1)

  to_look : {p d t : ℕ} → StartLook G p d t → HasLook (map_of start) p d t
  to_look (StartLook.start {p} {t} e f) = (has_look start.items start.rows good.ascends good.count p 0 t).1 (0, here p e, (ends t).1 f)

  back_look : (p d t : ℕ) → HasLook (map_of start) p d t → StartLook G p d t
  back_look p d t h =
      let (k, at, x) = (has_look start.items start.rows good.ascends good.count p d t).0 h in
      let s = keys k p d at in
      subst (λ e. StartLook G p e t) (sym s.2) (StartLook.start s.1 ((ends t).0 (subst (λ j. IsTrue (is_set (row (bits ∷ []) j) t)) s.0 x)))

  pub start_reached : AreReached G (record { core = record { items = record { production = G.start; dot = 0 } ∷ []; rows = bits ∷ [] }; edges = []; todo = true } ∷ [])
  start_reached = begun G start good (record { items = λ p d. (to, back p d); looks = λ p d t. (to_look, back_look p d t) })

-- the start state as a program makes it
pub start_seen : {S : Type 0} (G : Grammar) (number : S → ℕ) (st : State S) (no_items : List (CoreItem S)) (no_looks : List Contents) (x : CoreItem S) (y : Contents) (states none : List (State S)) →
    none ≡ [] → states ≡ none ++ st ∷ [] → no_items ≡ [] → st.core.items.items ≡ no_items ++ x ∷ [] → no_looks ≡ [] → st.core.looks.items ≡ no_looks ++ y ∷ [] → st.edges.items ≡ [] → st.todo ≡ true → number x.pidx.0 ≡ G.start → number x.dot.0 ≡ 0 →
    length y.bits ≡ G.tokens → ((t : ℕ) → IsTrue (is_set y.bits t) ↔ IsEnd G t) → AreReached G (map (value_of number) states)
start_seen G number st no_items no_looks x y states none n e ni ei nl el edges todo p d wide ends =
    let items : items_of number st.core.items.items ≡ record { production = G.start; dot = 0 } ∷ [] = ap (items_of number) (ei ∙ ap (λ l. l ++ x ∷ []) ni) ∙ ap₂ (λ (q : ℕ) (f : ℕ). record { production = q; dot = f } ∷ []) p d in
    let rows : rows_in st.core.looks.items ≡ y.bits ∷ [] = ap rows_in (el ∙ ap (λ l. l ++ y ∷ []) nl) in
    let core : core_of_set number st.core ≡ record { items = record { production = G.start; dot = 0 } ∷ []; rows = y.bits ∷ [] } = ap₂ (λ (i : List Item) (r : List (List Bool)). record { items = i; rows = r }) items rows in
    let none_there : edges_of number st.edges.items ≡ [] = ap (edges_of number) edges in
    let value : value_of number st ≡ record { core = record { items = record { production = G.start; dot = 0 } ∷ []; rows = y.bits ∷ [] }; edges = []; todo = true } =
    ap₂ (λ (c : Core) (es : List Edge). record { core = c; edges = es; todo = st.todo }) core none_there ∙ ap (λ (b : Bool). record { core = record { items = record { production = G.start; dot = 0 } ∷ []; rows = y.bits ∷ [] }; edges = []; todo = b }) todo in
    let whole : map (value_of number) states ≡ record { core = record { items = record { production = G.start; dot = 0 } ∷ []; rows = y.bits ∷ [] }; edges = []; todo = true } ∷ [] = ap (map (value_of number)) (e ∙ ap (λ l. l ++ st ∷ []) n) ∙ ap (λ (v : StateValue). v ∷ []) value in
    subst (λ (l : List StateValue). AreReached G l) (sym whole) (start_reached G y.bits wide ends)

-- ---- the list of its first item

-- the start state stands alone
module _ (states : List StateValue) (all : List (List (List ℕ))) (one : length states ≡ 1) (own : list_at all (first_item (state_at states 0).core.items) ≡ 0 ∷ []) (others : (i : Item) → i ≢ first_item (state_at states 0).core.items → list_at all i ≡ []) where
  pub start_buckets : AreBuckets states all
  start_buckets = record { ascends = ascends; within = within; has = has }
    where
      -- each has the start state or nothing
      each_is : (i : Item) → (list_at all i ≡ 0 ∷ []) ⊎ (list_at all i ≡ [])
      each_is i = elim (cases_item i (first_item (state_at states 0).core.items)) [ inl e ↦ inl (ap (list_at all) e ∙ own) | inr ne ↦ inr (others i ne) ]

      none_in : (k : ℕ) (list : List ℕ) → list ≡ [] → Contains list k → ⊥
      none_in k list e (i, l, _) = let n = ap length e in omega (arith, l, n)

      only_nought : (k : ℕ) → Contains (0 ∷ []) k → k ≡ 0
      only_nought k (zero, l, e) = sym e
      only_nought k (suc i, l, e) = absurd (omega (arith, l))

      ascends : (i : Item) → AllPairs (λ j k. j < k) (list_at all i)
      ascends i = elim (each_is i) [
        | inl e ↦ subst (λ (l : List ℕ). AllPairs (λ j k. j < k) l) (sym e) (λ i j d x within. absurd (omega (arith, x, within)))
        | inr e ↦ subst (λ (l : List ℕ). AllPairs (λ j k. j < k) l) (sym e) (λ i j d x within. absurd (omega (arith, within)))
      ]

      within : (i : Item) (k : ℕ) → Contains (list_at all i) k → k < length states
      within i k h = elim (each_is i) [
        | inl e ↦ (let z = only_nought k (subst (λ (l : List ℕ). Contains l k) e h) in omega (arith, z, one))
        | inr e ↦ absurd (none_in k (list_at all i) e h)
      ]

      has : (k : ℕ) → k < length states → Contains (list_at all (first_item (state_at states k).core.items)) k
      has k l =
          let z : 0 ≡ k = omega (arith, l, one) in
          subst (λ m. Contains (list_at all (first_item (state_at states m).core.items)) m) z (subst (λ (u : List ℕ). Contains u 0) (sym own) (0, omega arith, refl))
