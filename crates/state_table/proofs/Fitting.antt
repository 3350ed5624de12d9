-- Item sets that fit a grammar, and cores of them.
use Rattle.std.proofs.Common.{◌≡◌, ℕ, zero, suc, ◌<◌, ◌≤◌, ◌⊎◌, inl, inr, Bool, List, [], ◌∷◌, length, get_or, Some, refl, sym, ap, ◌∙◌, subst, subst₂, arith}
use Rattle.std.specs.Prelude.{AllPairs}
use Rattle.std.proofs.lemmas.List.{get_or_default, length-map}
use Rattle.cfg_theory.specs.Grammar.{Grammar, body_of}
use Rattle.lr_theory.specs.Itemset.{Entry, ItemSet, ItemBefore as EntryBefore, entry_at, HasItem, SameItems, FitsGrammar}
use Rattle.state_table.specs.Adding.{WithItem, Adds}
use Rattle.state_table.specs.ItemRows.{Item, Ascends, Core, IsCoreOf, set_of, map_of, FitsCore, no_core}
use Rattle.state_table.specs.Itemsets.{HasWidth}
use Rattle.state_table.specs.declared.shared_sets.SharedItem.{SharedItem}
use Rattle.state_table.specs.declared.shared_sets.SharedSets.{SharedSets}
use Rattle.state_table.specs.Meeting.{row, rows_in}
use Rattle.state_table.specs.Sharing.{shared_core, shared_map, IsShared}
use Rattle.state_table.specs.CoreViews.{item_of}
use Rattle.state_table.proofs.ItemSets.{found, stands, has_item, nought, at_own}

pub no_items : (p d : ℕ) → HasItem (map_of no_core) p d → ⊥
unfolding entry_at
no_items p d h = let e = h.at in cc

-- ---- the entries are in the order of the items

record IsEntryOf (items : List Item) (rows : List (List Bool)) (j : ℕ) (e : Entry) (i : Item) : Type 0 where
  within : j < length items
  production : (get_or (set_of items rows) j e).production ≡ (get_or items j i).production
  dot : (get_or (set_of items rows) j e).dot ≡ (get_or items j i).dot

entry_of : (items : List Item) (rows : List (List Bool)) (j : ℕ) (e : Entry) (i : Item) → j < length (set_of items rows) → IsEntryOf items rows j e i
entry_of [] rows j e i lt = absurd (omega (arith, lt))
entry_of (x ∷ items) [] j e i lt = absurd (omega (arith, lt))
entry_of (x ∷ items) (r ∷ rows) zero e i lt = record { within = omega arith; production = refl; dot = refl }
entry_of (x ∷ items) (r ∷ rows) (suc j) e i lt =
    let h = entry_of items rows j e i (omega (arith, lt)) in
    record { within = (let w = h.within in omega (arith, w)); production = h.production; dot = h.dot }

pub ordered : (items : List Item) (rows : List (List Bool)) → Ascends items → AllPairs EntryBefore (set_of items rows)
ordered items rows a = λ j k e lt within.
    (let i : Item = record { production = e.production; dot = e.dot } in
    let y = entry_of items rows k e i within in
    let x = entry_of items rows j e i (omega (arith, lt, within)) in
    subst₂ (λ p q. (p < q) ⊎ ((p ≡ q) × ((get_or (set_of items rows) j e).dot < (get_or (set_of items rows) k e).dot))) (sym x.production) (sym y.production)
    (subst₂ (λ c d. ((get_or items j i).production < (get_or items k i).production) ⊎ (((get_or items j i).production ≡ (get_or items k i).production) × (c < d))) (sym x.dot) (sym y.dot) (a j k i lt y.within)))

-- ---- widths

pub core_has_width : (tokens : ℕ) (c : Core) → IsCoreOf tokens c → HasWidth tokens (map_of c)
core_has_width tokens c good p d bits e =
    let f = found c.items c.rows p d bits good.count e in
    ap length (sym f.2) ∙ good.width f.0 (let w = f.1.within in let n = good.count in omega (arith, w, n))

pub width_has_core : (tokens : ℕ) (c : Core) → Ascends c.items → length c.rows ≡ length c.items → HasWidth tokens (map_of c) → IsCoreOf tokens c
width_has_core tokens c a n h = record {
  ascends = a;
  count = n;
  width = λ k lt.
      let at = at_own c.items k (omega (arith, lt, n)) in
      let i = get_or c.items k nought in
      h i.production i.dot (row c.rows k) (stands c.items c.rows k i.production i.dot a n at);
}

-- ---- a set that fits

pub fits_by : (G : Grammar) (c : Core) → IsCoreOf G.tokens c → ((p d : ℕ) → HasItem (map_of c) p d → p < length G.productions) → ((p d : ℕ) → HasItem (map_of c) p d → d ≤ length (body_of G p)) → FitsGrammar G (map_of c)
fits_by G c good productions dots = record { ordered = ordered c.items c.rows good.ascends; productions = productions; dots = dots; flags = core_has_width G.tokens c good }

pub fitting_core : (G : Grammar) (c : Core) → Ascends c.items → length c.rows ≡ length c.items → FitsGrammar G (map_of c) → FitsCore G c
fitting_core G c a n fits = record {
  good = width_has_core G.tokens c a n fits.flags;
  productions = λ k d lt.
      let at = at_own c.items k lt in
      let i = get_or c.items k nought in
      subst (λ (x : Item). x.production < length G.productions) (get_or_default c.items k nought d lt) (fits.productions i.production i.dot ((has_item c.items c.rows a n i.production i.dot).1 (k, at)));
}

pub none_fits : (G : Grammar) (s : ItemSet) → s ≡ [] → FitsGrammar G s
unfolding entry_at
none_fits G s e = subst (FitsGrammar G) (sym e) (record {
  ordered = λ i j d lt within. absurd (omega (arith, within));
  productions = λ p d h. absurd (no_items p d h);
  dots = λ p d h. absurd (no_items p d h);
  flags = λ p d bits h. (let e : entry_at [] p d ≡ Some bits = h in cc);
})

pub adds_from : (a v b : ItemSet) (p d : ℕ) (bits : List Bool) → a ≡ v → Adds a p d bits b → Adds v p d bits b
adds_from a v b p d bits e h = subst (λ (s : ItemSet). Adds s p d bits b) e h

-- one item more
pub added_fits : (G : Grammar) (old : ItemSet) (c : Core) (p d : ℕ) → IsCoreOf G.tokens c → SameItems (WithItem (HasItem old) p d) (HasItem (map_of c)) → FitsGrammar G old → p < length G.productions → d ≤ length (body_of G p) → FitsGrammar G (map_of c)
added_fits G old c p d good same fits production dot = fits_by G c good
    (λ q e h. elim ((same q e).1 h) [ inl x ↦ fits.productions q e x | inr x ↦ subst (λ r. r < length G.productions) (sym x.0) production ])
    (λ q e h. elim ((same q e).1 h) [ inl x ↦ fits.dots q e x | inr x ↦ subst₂ (λ r s. s ≤ length (body_of G r)) (sym x.0) (sym x.1) dot ])

-- ---- items that share their sets

pub shared_count : {S : Type 0} (number : S → ℕ) (s : SharedSets S) → length (shared_core number s).rows ≡ length (shared_core number s).items
shared_count {S = S} number s = length-map s.entries.items (λ (e : SharedItem S). row (rows_in s.sets.items) e.set) ∙ sym (length-map s.entries.items (λ (e : SharedItem S). item_of number e.item))

pub shared_good : {S : Type 0} (number : S → ℕ) (s : SharedSets S) (v : ItemSet) (tokens : ℕ) → IsShared number s → shared_map number s ≡ v → HasWidth tokens v → IsCoreOf tokens (shared_core number s)
shared_good number s v tokens h e wide = width_has_core tokens (shared_core number s) h.ascends (shared_count number s) (subst (HasWidth tokens) (sym e) wide)

pub shared_fits : {S : Type 0} (number : S → ℕ) (s : SharedSets S) (v : ItemSet) (G : Grammar) → IsShared number s → shared_map number s ≡ v → FitsGrammar G v → FitsCore G (shared_core number s)
shared_fits number s v G h e fits = fitting_core G (shared_core number s) h.ascends (shared_count number s) (subst (FitsGrammar G) (sym e) fits)
