-- What a state has for its row, item by item and edge by edge.
use Rattle.std.proofs.Common.{◌≡◌, ℕ, ◌+◌, ◌<◌, ◌≤◌, ◌↔◌, inl, inr, Bool, true, false, ◌||◌, ◌&&◌, nat_eq, cond, List, [], ◌∷◌, ◌++◌, length, get_or, map, take, drop, refl, sym, ap, ap₂, ◌∙◌, subst, arith, append-nil, ne_eqb}
use Rattle.std.specs.Prelude.{All, IsTrue, not}
use Rattle.std.proofs.lemmas.Bool.{cases_eq, cases_lt, eqb-true, false≢true}
use Rattle.std.proofs.lemmas.List.{map_more, at_drop_more, at_drop_all, get_or-map, length-map}
use Rattle.cfg_theory.specs.Grammar.{Sym, rule, token, Grammar, body_of}
use Rattle.lr_theory.specs.Itemset.{Entry, ItemSet, FitsGrammar}
use Rattle.table_theory.specs.Cells.{accepts_in, is_start_complete}
use Rattle.vob.specs.Packed.{Contents}
use Rattle.state_table.specs.declared.shared_sets.SharedItem.{SharedItem}
use Rattle.state_table.specs.declared.shared_sets.SharedSets.{SharedSets}
use Rattle.state_table.specs.declared.state_rows.StateParts.{StateParts}
use Rattle.state_table.specs.CellRows.{ReductionValue, PartsValue}
use Rattle.state_table.specs.CellViews.{reductions_of, targets_of, parts_of}
use Rattle.state_table.specs.GraphParts.{is_complete, complete_items, with_token, with_rule, token_edges, rule_edges, parts_in}
use Rattle.state_table.specs.Graphs.{GraphValue, IsGraphOf}
use Rattle.state_table.specs.ItemRows.{Item, set_of}
use Rattle.state_table.specs.Meeting.{rows_in}
use Rattle.state_table.specs.Sharing.{keys_of, rows_at, shared_map, entry_in, entries_in, IsShared}
use Rattle.state_table.specs.CoreViews.{item_of}
use Rattle.state_table.proofs.Fitting.{shared_fits}

-- ---- each part of joined lists is that of the one and then that of the other

put_cond : {A : Type 0} (b : Bool) (x : A) (l m c : List A) → m ≡ l ++ c → cond b (x ∷ m) m ≡ cond b (x ∷ l) l ++ c
put_cond {A = A} true x l m c e = ap (λ (k : List A). x ∷ k) e
put_cond false x l m c e = e

pub complete_append : (G : Grammar) (xs ys : ItemSet) → complete_items G (xs ++ ys) ≡ complete_items G xs ++ complete_items G ys
complete_append G [] ys = refl
complete_append G (e ∷ xs) ys = put_cond (is_complete G e) (record { production = e.production; looks = e.lookaheads }) (complete_items G xs) (complete_items G (xs ++ ys)) (complete_items G ys) (complete_append G xs ys)

put_token : (X : Sym) (k : ℕ) (l m c : List (ℕ × ℕ)) → m ≡ l ++ c → with_token X k m ≡ with_token X k l ++ c
put_token (token t) k l m c e = ap (λ (r : List (ℕ × ℕ)). (t, k) ∷ r) e
put_token (rule A) k l m c e = e

pub tokens_append : (xs ys : List (Sym × ℕ)) → token_edges (xs ++ ys) ≡ token_edges xs ++ token_edges ys
tokens_append [] ys = refl
tokens_append (e ∷ xs) ys = put_token e.0 e.1 (token_edges xs) (token_edges (xs ++ ys)) (token_edges ys) (tokens_append xs ys)

put_rule : (X : Sym) (k : ℕ) (l m c : List (ℕ × ℕ)) → m ≡ l ++ c → with_rule X k m ≡ with_rule X k l ++ c
put_rule (token t) k l m c e = e
put_rule (rule A) k l m c e = ap (λ (r : List (ℕ × ℕ)). (A, k) ∷ r) e

pub rules_append : (xs ys : List (Sym × ℕ)) → rule_edges (xs ++ ys) ≡ rule_edges xs ++ rule_edges ys
rules_append [] ys = refl
rules_append (e ∷ xs) ys = put_rule e.0 e.1 (rule_edges xs) (rule_edges (xs ++ ys)) (rule_edges ys) (rules_append xs ys)

-- one more of them
module _ {E V W : Type 0} (f : E → V) (h : List V → List W) (joins : (xs ys : List V) → h (xs ++ ys) ≡ h xs ++ h ys) where
  pub one_more : (es : List E) (i : ℕ) (x : E) (old new : List W) → i < length es → x ≡ get_or es i x → old ≡ h (map f (take i es)) → new ≡ old ++ h (f x ∷ []) → new ≡ h (map f (take (i + 1) es))
  one_more es i x old new lt at was now =
      now ∙ (ap (λ (l : List W). l ++ h (f x ∷ [])) was ∙ (sym (joins (map f (take i es)) (f x ∷ [])) ∙ ap h (sym (map_more f es i x lt ∙ ap (λ (y : E). map f (take i es) ++ f y ∷ []) (sym at)))))

-- ---- an item that is complete, and one that isn't

pub kept : (G : Grammar) (e : Entry) (old new : List ReductionValue) → is_complete G e ≡ true → new ≡ old ++ record { production = e.production; looks = e.lookaheads } ∷ [] → new ≡ old ++ complete_items G (e ∷ [])
kept G e old new h now = now ∙ ap (λ (b : Bool). old ++ cond b (record { production = e.production; looks = e.lookaheads } ∷ []) []) (sym h)

pub left_out : (G : Grammar) (e : Entry) (old : List ReductionValue) → is_complete G e ≡ false → old ≡ old ++ complete_items G (e ∷ [])
left_out G e old h = sym (ap (λ (b : Bool). old ++ cond b (record { production = e.production; looks = e.lookaheads } ∷ []) []) h ∙ append-nil old)

and_false : (b : Bool) → (b && false) ≡ false
and_false true = refl
and_false false = refl

abbrev is_whole : Grammar → Entry → Bool
is_whole G e = nat_eq e.dot (length (body_of G e.production))

module _ (G : Grammar) (e : Entry) where
  pub partial : is_whole G e ≡ false → (is_complete G e ≡ false) × (is_start_complete G e ≡ false)
  partial h = (
    ap (λ (b : Bool). not (nat_eq e.production G.start) && b) h ∙ and_false (not (nat_eq e.production G.start)),
    elim (cases_eq e.production G.start) [
      | inl q ↦ ap (λ (b : Bool). nat_eq e.production G.start && b) (ap (λ k. nat_eq e.dot (length (body_of G k))) (sym q) ∙ h) ∙ and_false (nat_eq e.production G.start)
      | inr ne ↦ ap (λ (b : Bool). b && nat_eq e.dot (length (body_of G G.start))) (ne_eqb e.production G.start ne)
    ],
  )

  pub whole_start : is_whole G e ≡ true → nat_eq e.production G.start ≡ true → (is_complete G e ≡ false) × (is_start_complete G e ≡ true)
  whole_start h q = (
    ap (λ (b : Bool). not b && is_whole G e) q,
    ap₂ (λ (a b : Bool). a && b) q (ap (λ k. nat_eq e.dot (length (body_of G k))) (sym (eqb-true e.production G.start q)) ∙ h),
  )

  pub whole_other : is_whole G e ≡ true → nat_eq e.production G.start ≡ false → (is_complete G e ≡ true) × (is_start_complete G e ≡ false)
  whole_other h ne = (
    ap₂ (λ (a b : Bool). not a && b) ne h,
    ap (λ (b : Bool). b && nat_eq e.dot (length (body_of G G.start))) ne,
  )

-- ---- whether the complete start production was among those so far or is among those that are left

or_assoc : (a b c : Bool) → ((a || b) || c) ≡ (a || (b || c))
or_assoc true b c = refl
or_assoc false b c = refl

pub or_off : (a b : Bool) → b ≡ false → a ≡ (a || b)
or_off true b e = refl
or_off false b e = sym e

pub or_on : (a b : Bool) → b ≡ true → true ≡ (a || b)
or_on true b e = refl
or_on false b e = sym e

module _ {S : Type 0} (number : S → ℕ) (G : Grammar) (rows : List (List Bool)) (es : List (SharedItem S)) (i : ℕ) (x : SharedItem S) (lt : i < length es) (at : x ≡ get_or es i x) where
  abbrev among : List (SharedItem S) → Bool
  among l = accepts_in G (entries_in number rows l)

  at_hand : among (drop i es) ≡ (is_start_complete G (entry_in number rows x) || among (drop (i + 1) es))
  at_hand = at_drop_more among es i x lt ∙ ap (λ (y : SharedItem S). among (y ∷ drop (i + 1) es)) (sym at)

  pub end_step : (so all : Bool) → (so || among (drop i es)) ≡ all → ((so || is_start_complete G (entry_in number rows x)) || among (drop (i + 1) es)) ≡ all
  end_step so all h = or_assoc so (is_start_complete G (entry_in number rows x)) (among (drop (i + 1) es)) ∙ (ap (λ (b : Bool). so || b) (sym at_hand) ∙ h)

or_nought : (a : Bool) → a ≡ (a || false)
or_nought true = refl
or_nought false = refl

pub ended : {S : Type 0} (number : S → ℕ) (G : Grammar) (rows : List (List Bool)) (es : List (SharedItem S)) (i : ℕ) → length es ≤ i → (so all : Bool) → (so || accepts_in G (entries_in number rows (drop i es))) ≡ all → so ≡ all
ended number G rows es i le so all h = or_nought so ∙ (sym (ap (λ (b : Bool). so || b) (at_drop_all (λ l. accepts_in G (entries_in number rows l)) es i le)) ∙ h)

-- ---- the items of a set that share their sets

pub entries_are : {S : Type 0} (number : S → ℕ) (rows : List (List Bool)) (es : List (SharedItem S)) → set_of (keys_of number es) (rows_at rows es) ≡ entries_in number rows es
entries_are number rows [] = refl
entries_are number rows (e ∷ es) = ap (λ (l : ItemSet). entry_in number rows e ∷ l) (entries_are number rows es)

pub productions_fit : {S : Type 0} (number : S → ℕ) (s : SharedSets S) (G : Grammar) → IsShared number s → FitsGrammar G (shared_map number s) → All (λ (e : SharedItem S). number e.item.pidx.0 < length G.productions) s.entries.items
productions_fit {S = S} number s G h fits = λ k x lt.
    (let f = shared_fits number s (shared_map number s) G h refl fits in
    let n = length-map s.entries.items (λ (e : SharedItem S). item_of number e.item) in
    subst (λ (i : Item). i.production < length G.productions) (get_or-map (λ (e : SharedItem S). item_of number e.item) s.entries.items k x (item_of number x.item) lt) (f.productions k (item_of number x.item) (omega (arith, n, lt))))

parts_same : (a b : List ReductionValue) (x y : List (ℕ × ℕ)) (c d : Bool) → a ≡ b → x ≡ y → c ≡ d → ◌≡◌ {A = PartsValue} (record { reductions = a; shifts = x; accepts = c }) (record { reductions = b; shifts = y; accepts = d })
parts_same a b x y c d e f g =
    ap₂ (λ (r : List ReductionValue) (s : List (ℕ × ℕ)). record { reductions = r; shifts = s; accepts = c }) e f ∙ ap (λ (z : Bool). record { reductions = b; shifts = y; accepts = z }) g

pub closed_fits : (G : Grammar) (g : GraphValue) → IsGraphOf G g → (s : ℕ) → s < length g.cores → FitsGrammar G (get_or g.closed s [])
closed_fits G g are s lt = are.fits.1 s [] (let n = are.closes in omega (arith, n, lt))

-- the parts of a state, of which each was filled
pub parts_are : {S : Type 0} (number : S → ℕ) (G : Grammar) (g : GraphValue) (s : ℕ) (shared : SharedSets S) (sets : List Contents) (parts : StateParts S) (edges : List (Sym × ℕ)) →
    shared_map number shared ≡ get_or g.closed s [] → sets ≡ shared.sets.items → edges ≡ get_or g.edges s [] →
    reductions_of number (rows_in shared.sets.items) parts.reductions.items ≡ complete_items G (shared_map number shared) → targets_of number parts.shifts.items ≡ token_edges edges → parts.accepts ≡ accepts_in G (shared_map number shared) →
    parts_of number (rows_in sets) parts ≡ parts_in G g s
parts_are number G g s shared sets parts edges em es ee er et ea =
    ap (λ (l : List Contents). parts_of number (rows_in l) parts) es ∙
    parts_same (reductions_of number (rows_in shared.sets.items) parts.reductions.items) (complete_items G (get_or g.closed s [])) (targets_of number parts.shifts.items) (token_edges (get_or g.edges s [])) parts.accepts (accepts_in G (get_or g.closed s []))
    (er ∙ ap (complete_items G) em) (et ∙ ap token_edges ee) (ea ∙ ap (accepts_in G) em)

-- ---- no state so far, and not the next one

pub quiet_more : (P : ℕ → ℕ → Type 0) (n : ℕ) → ((s p : ℕ) → s < n → P s p → ⊥) → ((p : ℕ) → P n p → ⊥) → (s p : ℕ) → s < n + 1 → P s p → ⊥
quiet_more P n below here s p lt h = elim (cases_lt s n) [
  | inl l ↦ below s p l h
  | inr ge ↦ (let e : s ≡ n = omega (arith, lt, ge) in here p (subst (λ (k : ℕ). P k p) e h))
]

pub no_room : (b : Bool) (x n : ℕ) → (IsTrue b ↔ (x < n)) → b ≡ false → n ≤ x
no_room b x n h e = elim (cases_lt x n) [
  | inl lt ↦ (let t : b ≡ true = h.1 lt in absurd (false≢true (sym e ∙ t)))
  | inr ge ↦ ge
]
