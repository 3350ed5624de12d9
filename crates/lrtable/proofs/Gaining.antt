-- Items that move into the sets of symbols, one after another.
use Rattle.std.proofs.Common.{◌≡◌, ℕ, suc, ◌+◌, ◌<◌, ◌⊎◌, inl, inr, ◌↔◌, Bool, List, length, set, Some, refl, sym, ap, ◌∙◌, subst, subst₂, arith, length-set, get_or-set_same, get_or-set_other}
use Rattle.std.specs.Prelude.{IsTrue}
use Rattle.std.proofs.lemmas.Bool.{cases_eq}
use Rattle.cfg_theory.specs.Grammar.{Sym, Grammar, InRange, IsNext}
use Rattle.vob.specs.Sets.{is_set}
use Rattle.lr_theory.specs.Itemset.{Items, Lookaheads, HasItem, HasLook, SameItems, SameLooks, Goto, GotoLook}
use Rattle.state_table.specs.ItemRows.{Core, IsCoreOf, map_of, no_core}
use Rattle.state_table.specs.Adding.{Adds, SingleItem, OneLooks}
use Rattle.lrtable.specs.Handling.{rank}
use Rattle.lrtable.specs.Gaining.{core_in, moved_by, AreSets, Gains}
use Rattle.lrtable.proofs.Ranks.{rank_once, rank_below}

-- nothing moved
pub gains_none : (G : Grammar) (I : Items) (L : Lookaheads) (sets : List Core) → AreSets G.tokens sets → ((p d : ℕ) (X : Sym) → I p d → IsNext G p d X → ⊥) → ((p d t : ℕ) (X : Sym) → L p d t → IsNext G p d X → ⊥) → Gains G I L sets sets
gains_none G I L sets good none no_look = record {
  count = refl;
  good = good;
  items = λ X r p d. (λ h. inl h, λ h. elim h [ inl x ↦ x | inr x ↦ absurd (none_moved X x) ]);
  looks = λ X r p d t. (λ h. inl h, λ h. elim h [ inl x ↦ x | inr x ↦ absurd (no_look_moved X x) ]);
}
  where
    none_moved : (X : Sym) {p d : ℕ} → Goto G I X p d → ⊥
    none_moved X (Goto.moved {p} {d} i n) = none p d X i n

    no_look_moved : (X : Sym) {p d t : ℕ} → GotoLook G L X p d t → ⊥
    no_look_moved X (GotoLook.moved {p} {d} {t} l n) = no_look p d t X l n

-- some items, and then others
pub gains_on : (G : Grammar) (I J : Items) (L M : Lookaheads) (a b c : List Core) → Gains G I L a b → Gains G J M b c → Gains G (λ p d. I p d ⊎ J p d) (λ p d t. L p d t ⊎ M p d t) a c
gains_on G I J L M a b c h k = record {
  count = k.count ∙ h.count;
  good = k.good;
  items = λ X r p d. (
    λ x. elim ((k.items X r p d).0 x) [ inl y ↦ elim ((h.items X r p d).0 y) [ inl z ↦ inl z | inr z ↦ inr (left X z) ] | inr y ↦ inr (right X y) ],
    λ x. elim x [ inl y ↦ (k.items X r p d).1 (inl ((h.items X r p d).1 (inl y))) | inr y ↦ elim (parts X y) [ inl z ↦ (k.items X r p d).1 (inl ((h.items X r p d).1 (inr z))) | inr z ↦ (k.items X r p d).1 (inr z) ] ],
  );
  looks = λ X r p d t. (
    λ x. elim ((k.looks X r p d t).0 x) [ inl y ↦ elim ((h.looks X r p d t).0 y) [ inl z ↦ inl z | inr z ↦ inr (look_left X z) ] | inr y ↦ inr (look_right X y) ],
    λ x. elim x [ inl y ↦ (k.looks X r p d t).1 (inl ((h.looks X r p d t).1 (inl y))) | inr y ↦ elim (look_parts X y) [ inl z ↦ (k.looks X r p d t).1 (inl ((h.looks X r p d t).1 (inr z))) | inr z ↦ (k.looks X r p d t).1 (inr z) ] ],
  );
}
  where
    left : (X : Sym) {p d : ℕ} → Goto G I X p d → Goto G (λ p d. I p d ⊎ J p d) X p d
    left X (Goto.moved i n) = Goto.moved (inl i) n

    right : (X : Sym) {p d : ℕ} → Goto G J X p d → Goto G (λ p d. I p d ⊎ J p d) X p d
    right X (Goto.moved i n) = Goto.moved (inr i) n

    parts : (X : Sym) {p d : ℕ} → Goto G (λ p d. I p d ⊎ J p d) X p d → Goto G I X p d ⊎ Goto G J X p d
    parts X (Goto.moved (inl i) n) = inl (Goto.moved i n)
    parts X (Goto.moved (inr i) n) = inr (Goto.moved i n)

    look_left : (X : Sym) {p d t : ℕ} → GotoLook G L X p d t → GotoLook G (λ p d t. L p d t ⊎ M p d t) X p d t
    look_left X (GotoLook.moved i n) = GotoLook.moved (inl i) n

    look_right : (X : Sym) {p d t : ℕ} → GotoLook G M X p d t → GotoLook G (λ p d t. L p d t ⊎ M p d t) X p d t
    look_right X (GotoLook.moved i n) = GotoLook.moved (inr i) n

    look_parts : (X : Sym) {p d t : ℕ} → GotoLook G (λ p d t. L p d t ⊎ M p d t) X p d t → GotoLook G L X p d t ⊎ GotoLook G M X p d t
    look_parts X (GotoLook.moved (inl i) n) = inl (GotoLook.moved i n)
    look_parts X (GotoLook.moved (inr i) n) = inr (GotoLook.moved i n)

-- goto of what is as much
pub goto_as : (G : Grammar) (I J : Items) (X : Sym) → SameItems I J → (p d : ℕ) → Goto G I X p d → Goto G J X p d
goto_as G I J X h p d g = go g
  where
    go : {p d : ℕ} → Goto G I X p d → Goto G J X p d
    go (Goto.moved {p} {d} i n) = Goto.moved ((h p d).0 i) n

pub goto_look_as : (G : Grammar) (L M : Lookaheads) (X : Sym) → SameLooks L M → (p d t : ℕ) → GotoLook G L X p d t → GotoLook G M X p d t
goto_look_as G L M X h p d t g = go g
  where
    go : {p d t : ℕ} → GotoLook G L X p d t → GotoLook G M X p d t
    go (GotoLook.moved {p} {d} {t} i n) = GotoLook.moved ((h p d t).0 i) n

pub gains_as : (G : Grammar) (I J : Items) (L M : Lookaheads) (a b : List Core) → SameItems I J → SameLooks L M → Gains G I L a b → Gains G J M a b
gains_as G I J L M a b same same_looks h = record {
  count = h.count;
  good = h.good;
  items = λ X r p d. (
    λ x. elim ((h.items X r p d).0 x) [ inl y ↦ inl y | inr y ↦ inr (goto_as G I J X same p d y) ],
    λ x. (h.items X r p d).1 (elim x [ inl y ↦ inl y | inr y ↦ inr (goto_as G J I X (λ p d. ((same p d).1, (same p d).0)) p d y) ]),
  );
  looks = λ X r p d t. (
    λ x. elim ((h.looks X r p d t).0 x) [ inl y ↦ inl y | inr y ↦ inr (goto_look_as G L M X same_looks p d t y) ],
    λ x. (h.looks X r p d t).1 (elim x [ inl y ↦ inl y | inr y ↦ inr (goto_look_as G M L X (λ p d t. ((same_looks p d t).1, (same_looks p d t).0)) p d t y) ]),
  );
}

-- an item before X moved into the set of X
pub gains_one : (G : Grammar) (sets : List Core) (new : Core) (p d : ℕ) (X : Sym) (bits : List Bool) → InRange G X → length sets ≡ G.rules + G.tokens → AreSets G.tokens sets → IsNext G p d X → IsCoreOf G.tokens new →
    Adds (map_of (core_in sets (rank G X))) p (suc d) bits (map_of new) → Gains G (SingleItem p d) (OneLooks p d bits) sets (set sets (rank G X) new)
gains_one G sets new p d X bits range size good next wide adds = record {
  count = length-set sets (rank G X) new;
  good = λ n lt. elim (cases_eq n (rank G X)) [
    | inl e ↦ subst (λ c. IsCoreOf G.tokens c) (sym (ap (λ m. core_in (set sets (rank G X) new) m) e ∙ here)) wide
    | inr ne ↦ subst (λ c. IsCoreOf G.tokens c) (sym (get_or-set_other sets (rank G X) n new no_core ne)) (good n (let l = length-set sets (rank G X) new in omega (arith, lt, l)))
  ];
  items = λ Y r q e. elim (cases_eq (rank G Y) (rank G X)) [ inl s ↦ subst (λ Z. HasItem (moved_by G (set sets (rank G X) new) Z) q e ↔ (HasItem (moved_by G sets Z) q e ⊎ Goto G (SingleItem p d) Z q e)) (rank_once G X Y range r (sym s)) (items_here q e) | inr ne ↦ items_there Y r ne q e ];
  looks = λ Y r q e t. elim (cases_eq (rank G Y) (rank G X)) [ inl s ↦ subst (λ Z. HasLook (moved_by G (set sets (rank G X) new) Z) q e t ↔ (HasLook (moved_by G sets Z) q e t ⊎ GotoLook G (OneLooks p d bits) Z q e t)) (rank_once G X Y range r (sym s)) (looks_here q e t) | inr ne ↦ looks_there Y r ne q e t ];
}
  where
    lt : rank G X < length sets
    lt = let b = rank_below G X range in omega (arith, b, size)

    here : core_in (set sets (rank G X) new) (rank G X) ≡ new
    here = get_or-set_same sets (rank G X) new no_core lt

    one : (Y : Sym) {q e : ℕ} → Goto G (SingleItem p d) Y q e → (q ≡ p) × (e ≡ suc d) × IsNext G p d Y
    one Y (Goto.moved {p = q} {d = e} i n) = (i.0, ap suc i.1, subst₂ (λ r s. IsNext G r s Y) i.0 i.1 n)

    one_look : (Y : Sym) {q e t : ℕ} → GotoLook G (OneLooks p d bits) Y q e t → (q ≡ p) × (e ≡ suc d) × IsTrue (is_set bits t) × IsNext G p d Y
    one_look Y (GotoLook.moved {p = q} {d = e} {t = t} i n) = (i.0, ap suc i.1, i.2, subst₂ (λ r s. IsNext G r s Y) i.0 i.1 n)

    moved : (q e : ℕ) → q ≡ p → e ≡ suc d → Goto G (SingleItem p d) X q e
    moved q e x y = subst₂ (λ r s. Goto G (SingleItem p d) X r s) (sym x) (sym y) (Goto.moved {p = p} {d = d} (refl, refl) next)

    moved_look : (q e t : ℕ) → q ≡ p → e ≡ suc d → IsTrue (is_set bits t) → GotoLook G (OneLooks p d bits) X q e t
    moved_look q e t x y z = subst₂ (λ r s. GotoLook G (OneLooks p d bits) X r s t) (sym x) (sym y) (GotoLook.moved {p = p} {d = d} (refl, refl, z) next)

    items_here : (q e : ℕ) → HasItem (moved_by G (set sets (rank G X) new) X) q e ↔ (HasItem (moved_by G sets X) q e ⊎ Goto G (SingleItem p d) X q e)
    items_here q e = (
      λ h. elim ((adds.items q e).1 (subst (λ c. HasItem (map_of c) q e) here h)) [ inl x ↦ inl x | inr x ↦ inr (moved q e x.0 x.1) ],
      λ h. subst (λ c. HasItem (map_of c) q e) (sym here) ((adds.items q e).0 (elim h [ inl x ↦ inl x | inr x ↦ (let g = one X x in inr (g.0, g.1)) ])),
    )

    looks_here : (q e t : ℕ) → HasLook (moved_by G (set sets (rank G X) new) X) q e t ↔ (HasLook (moved_by G sets X) q e t ⊎ GotoLook G (OneLooks p d bits) X q e t)
    looks_here q e t = (
      λ h. elim ((adds.looks q e t).1 (subst (λ c. HasLook (map_of c) q e t) here h)) [ inl x ↦ inl x | inr x ↦ inr (moved_look q e t x.0 x.1 x.2) ],
      λ h. subst (λ c. HasLook (map_of c) q e t) (sym here) ((adds.looks q e t).0 (elim h [ inl x ↦ inl x | inr x ↦ (let g = one_look X x in inr (g.0, g.1, g.2)) ])),
    )

    same_symbol : (Y : Sym) → IsNext G p d Y → X ≡ Y
    same_symbol Y n = some_once (sym next.at ∙ n.at)
      where
        some_once : {Z W : Sym} → Some Z ≡ Some W → Z ≡ W
        some_once e = cc

    items_there : (Y : Sym) → InRange G Y → (rank G Y ≡ rank G X → ⊥) → (q e : ℕ) → HasItem (moved_by G (set sets (rank G X) new) Y) q e ↔ (HasItem (moved_by G sets Y) q e ⊎ Goto G (SingleItem p d) Y q e)
    items_there Y r ne q e =
        let same = get_or-set_other sets (rank G X) (rank G Y) new no_core ne in (
          λ h. inl (subst (λ c. HasItem (map_of c) q e) same h),
          λ h. elim h [ inl x ↦ subst (λ c. HasItem (map_of c) q e) (sym same) x | inr x ↦ absurd (ne (ap (rank G) (sym (same_symbol Y (one Y x).2)))) ],
        )

    looks_there : (Y : Sym) → InRange G Y → (rank G Y ≡ rank G X → ⊥) → (q e t : ℕ) → HasLook (moved_by G (set sets (rank G X) new) Y) q e t ↔ (HasLook (moved_by G sets Y) q e t ⊎ GotoLook G (OneLooks p d bits) Y q e t)
    looks_there Y r ne q e t =
        let same = get_or-set_other sets (rank G X) (rank G Y) new no_core ne in (
          λ h. inl (subst (λ c. HasLook (map_of c) q e t) same h),
          λ h. elim h [ inl x ↦ subst (λ c. HasLook (map_of c) q e t) (sym same) x | inr x ↦ absurd (ne (ap (rank G) (sym (same_symbol Y (one_look Y x).3)))) ],
        )
