-- The items of a set that move over a symbol, one after another.
use Rattle.std.proofs.Common.{◌≡◌, ℕ, suc, ◌+◌, ◌≤◌, ◌⊎◌, inl, inr, Bool, List, length, refl, sym, ap, ◌∙◌, subst, subst₂, arith}
use Rattle.std.specs.Prelude.{IsTrue}
use Rattle.cfg_theory.specs.Grammar.{Sym, Grammar, IsNext}
use Rattle.vob.specs.Sets.{is_set}
use Rattle.lr_theory.specs.Itemset.{Items, Lookaheads, HasItem, HasLook, SameItems, SameLooks, Goto, GotoLook, Is}
use Rattle.state_table.specs.declared.shared_sets.SharedSets.{SharedSets}
use Rattle.state_table.specs.Adding.{SingleItem, OneLooks}
use Rattle.state_table.specs.ItemRows.{no_core, IsAt, Core, IsCoreOf, map_of}
use Rattle.state_table.specs.Meeting.{rows_in, row}
use Rattle.state_table.specs.Sharing.{shared_core, shared_map, PointIn, TakesIn, GrowsBy}
use Rattle.lrtable.specs.Stepping.{ItemsBelow, LooksBelow}
use Rattle.lrtable.proofs.Gaining.{goto_as, goto_look_as}
use Rattle.state_table.proofs.Fitting.{no_items}
use Rattle.lrtable.proofs.Seeding.{below_none, below_next, below_all, looks_next, looks_all}
use Rattle.state_table.proofs.Sharing.{grows_none, grows_on, grows_as, grows_one}

goto_or : (G : Grammar) (I J : Items) (X : Sym) → SameItems (λ p d. Goto G I X p d ⊎ Goto G J X p d) (Goto G (λ p d. I p d ⊎ J p d) X)
goto_or G I J X p d = (λ h. elim h [ inl x ↦ left x | inr x ↦ right x ], parts)
  where
    left : {p d : ℕ} → Goto G I X p d → Goto G (λ p d. I p d ⊎ J p d) X p d
    left (Goto.moved i n) = Goto.moved (inl i) n

    right : {p d : ℕ} → Goto G J X p d → Goto G (λ p d. I p d ⊎ J p d) X p d
    right (Goto.moved i n) = Goto.moved (inr i) n

    parts : {p d : ℕ} → Goto G (λ p d. I p d ⊎ J p d) X p d → Goto G I X p d ⊎ Goto G J X p d
    parts (Goto.moved (inl i) n) = inl (Goto.moved i n)
    parts (Goto.moved (inr i) n) = inr (Goto.moved i n)

goto_look_or : (G : Grammar) (L M : Lookaheads) (X : Sym) → SameLooks (λ p d t. GotoLook G L X p d t ⊎ GotoLook G M X p d t) (GotoLook G (λ p d t. L p d t ⊎ M p d t) X)
goto_look_or G L M X p d t = (λ h. elim h [ inl x ↦ left x | inr x ↦ right x ], parts)
  where
    left : {p d t : ℕ} → GotoLook G L X p d t → GotoLook G (λ p d t. L p d t ⊎ M p d t) X p d t
    left (GotoLook.moved i n) = GotoLook.moved (inl i) n

    right : {p d t : ℕ} → GotoLook G M X p d t → GotoLook G (λ p d t. L p d t ⊎ M p d t) X p d t
    right (GotoLook.moved i n) = GotoLook.moved (inr i) n

    parts : {p d t : ℕ} → GotoLook G (λ p d t. L p d t ⊎ M p d t) X p d t → GotoLook G L X p d t ⊎ GotoLook G M X p d t
    parts (GotoLook.moved (inl i) n) = inl (GotoLook.moved i n)
    parts (GotoLook.moved (inr i) n) = inr (GotoLook.moved i n)

-- ---- one item

pub no_goto : (G : Grammar) (p d : ℕ) (X : Sym) → (IsNext G p d X → ⊥) → (q e : ℕ) → Goto G (SingleItem p d) X q e → ⊥
no_goto G p d X none q e g = go g
  where
    go : {q e : ℕ} → Goto G (SingleItem p d) X q e → ⊥
    go (Goto.moved {p = r} {d = s} i n) = none (subst₂ (λ r s. IsNext G r s X) i.0 i.1 n)

pub no_goto_look : (G : Grammar) (p d : ℕ) (bits : List Bool) (X : Sym) → (IsNext G p d X → ⊥) → (q e t : ℕ) → GotoLook G (OneLooks p d bits) X q e t → ⊥
no_goto_look G p d bits X none q e t g = go g
  where
    go : {q e t : ℕ} → GotoLook G (OneLooks p d bits) X q e t → ⊥
    go (GotoLook.moved {p = r} {d = s} i n) = none (subst₂ (λ r s. IsNext G r s X) i.0 i.1 n)

module _ {S : Type 0} (number : S → ℕ) (G : Grammar) (p d : ℕ) (bits : List Bool) (X : Sym) where
  -- the symbol doesn't stand behind the dot
  pub stays : (s : SharedSets S) → IsCoreOf (length bits) (shared_core number s) → PointIn (rows_in s.sets.items) s.entries.items → (IsNext G p d X → ⊥) → GrowsBy number (length bits) (Goto G (SingleItem p d) X) (GotoLook G (OneLooks p d bits) X) s s
  stays s core points none = grows_none number (length bits) (Goto G (SingleItem p d) X) (GotoLook G (OneLooks p d bits) X) s core points (no_goto G p d X none) (no_goto_look G p d bits X none)

  -- it does
  pub moves : (a b : SharedSets S) (e : ℕ) → e ≡ d + 1 → IsNext G p d X → TakesIn number p e bits a b → GrowsBy number (length bits) (Goto G (SingleItem p d) X) (GotoLook G (OneLooks p d bits) X) a b
  moves a b e q next h = grows_as number (length bits) (SingleItem p e) (Goto G (SingleItem p d) X) (OneLooks p e bits) (GotoLook G (OneLooks p d bits) X) a b
      (λ r s. (λ x. to r s x.0 x.1, back)) (λ r s t. (λ x. to_look r s t x.0 x.1 x.2, back_look)) (grows_one number (length bits) p e bits a b refl h)
    where
      after : e ≡ suc d
      after = omega (arith, q)

      to : (r s : ℕ) → r ≡ p → s ≡ e → Goto G (SingleItem p d) X r s
      to r s x y = subst₂ (λ u v. Goto G (SingleItem p d) X u v) (sym x) (sym (y ∙ after)) (Goto.moved {p = p} {d = d} (refl, refl) next)

      to_look : (r s t : ℕ) → r ≡ p → s ≡ e → IsTrue (is_set bits t) → GotoLook G (OneLooks p d bits) X r s t
      to_look r s t x y z = subst₂ (λ u v. GotoLook G (OneLooks p d bits) X u v t) (sym x) (sym (y ∙ after)) (GotoLook.moved {p = p} {d = d} (refl, refl, z) next)

      back : {r s : ℕ} → Goto G (SingleItem p d) X r s → SingleItem p e r s
      back (Goto.moved i n) = (i.0, ap suc i.1 ∙ sym after)

      back_look : {r s t : ℕ} → GotoLook G (OneLooks p d bits) X r s t → OneLooks p e bits r s t
      back_look (GotoLook.moved i n) = (i.0, ap suc i.1 ∙ sym after, i.2)

-- ---- all of them

module _ {S : Type 0} (number : S → ℕ) (G : Grammar) (c : Core) (X : Sym) where
  pub moved_none : (s : SharedSets S) → IsCoreOf G.tokens (shared_core number s) → PointIn (rows_in s.sets.items) s.entries.items → GrowsBy number G.tokens (Goto G (ItemsBelow c 0) X) (GotoLook G (LooksBelow c 0) X) s s
  moved_none s core points = grows_none number G.tokens (Goto G (ItemsBelow c 0) X) (GotoLook G (LooksBelow c 0) X) s core points (λ p d g. none g) (λ p d t g. no_look g)
    where
      none : {p d : ℕ} → Goto G (ItemsBelow c 0) X p d → ⊥
      none (Goto.moved {p} {d} i n) = below_none c p d i

      no_look : {p d t : ℕ} → GotoLook G (LooksBelow c 0) X p d t → ⊥
      no_look (GotoLook.moved {p} {d} {t} i n) = below_none c p d (i.0, i.1, i.2)

  pub moved_next : (k p d : ℕ) (bits : List Bool) (a b e : SharedSets S) → IsAt c.items k p d → row c.rows k ≡ bits → length bits ≡ G.tokens → GrowsBy number G.tokens (Goto G (ItemsBelow c k) X) (GotoLook G (LooksBelow c k) X) a b →
      GrowsBy number (length bits) (Goto G (SingleItem p d) X) (GotoLook G (OneLooks p d bits) X) b e → GrowsBy number G.tokens (Goto G (ItemsBelow c (k + 1)) X) (GotoLook G (LooksBelow c (k + 1)) X) a e
  moved_next k p d bits a b e at r wide h m =
      let m' = subst (λ n. GrowsBy number n (Goto G (SingleItem p d) X) (GotoLook G (OneLooks p d bits) X) b e) wide m in
      grows_as number G.tokens (λ q f. Goto G (ItemsBelow c k) X q f ⊎ Goto G (SingleItem p d) X q f) (Goto G (ItemsBelow c (k + 1)) X) (λ q f t. GotoLook G (LooksBelow c k) X q f t ⊎ GotoLook G (OneLooks p d bits) X q f t) (GotoLook G (LooksBelow c (k + 1)) X) a e same same_looks
      (grows_on number G.tokens (Goto G (ItemsBelow c k) X) (Goto G (SingleItem p d) X) (GotoLook G (LooksBelow c k) X) (GotoLook G (OneLooks p d bits) X) a b e h m')
    where
      next : SameItems (λ q f. ItemsBelow c k q f ⊎ SingleItem p d q f) (ItemsBelow c (k + 1))
      next = below_next c k p d at

      next_looks : SameLooks (λ q f t. LooksBelow c k q f t ⊎ OneLooks p d bits q f t) (LooksBelow c (k + 1))
      next_looks = looks_next c k p d bits at r

      same : SameItems (λ q f. Goto G (ItemsBelow c k) X q f ⊎ Goto G (SingleItem p d) X q f) (Goto G (ItemsBelow c (k + 1)) X)
      same q f = (
        λ x. goto_as G (λ q f. ItemsBelow c k q f ⊎ SingleItem p d q f) (ItemsBelow c (k + 1)) X next q f ((goto_or G (ItemsBelow c k) (SingleItem p d) X q f).0 x),
        λ x. (goto_or G (ItemsBelow c k) (SingleItem p d) X q f).1 (goto_as G (ItemsBelow c (k + 1)) (λ q f. ItemsBelow c k q f ⊎ SingleItem p d q f) X (λ q f. ((next q f).1, (next q f).0)) q f x),
      )

      same_looks : SameLooks (λ q f t. GotoLook G (LooksBelow c k) X q f t ⊎ GotoLook G (OneLooks p d bits) X q f t) (GotoLook G (LooksBelow c (k + 1)) X)
      same_looks q f t = (
        λ x. goto_look_as G (λ q f t. LooksBelow c k q f t ⊎ OneLooks p d bits q f t) (LooksBelow c (k + 1)) X next_looks q f t ((goto_look_or G (LooksBelow c k) (OneLooks p d bits) X q f t).0 x),
        λ x. (goto_look_or G (LooksBelow c k) (OneLooks p d bits) X q f t).1 (goto_look_as G (LooksBelow c (k + 1)) (λ q f t. LooksBelow c k q f t ⊎ OneLooks p d bits q f t) X (λ q f t. ((next_looks q f t).1, (next_looks q f t).0)) q f t x),
      )

  pub moved_all : (k : ℕ) (a b : SharedSets S) → IsCoreOf G.tokens c → length c.items ≤ k → shared_core number a ≡ no_core → GrowsBy number G.tokens (Goto G (ItemsBelow c k) X) (GotoLook G (LooksBelow c k) X) a b → Is (shared_map number b) (Goto G (HasItem (map_of c)) X) (GotoLook G (HasLook (map_of c)) X)
  moved_all k a b good le e h = record {
    items = λ p d. (
      λ x. (h.extends.items p d).0 (inr (goto_as G (HasItem (map_of c)) (ItemsBelow c k) X (λ p d. ((all p d).1, (all p d).0)) p d x)),
      λ x. elim ((h.extends.items p d).1 x) [ inl y ↦ absurd (empty p d y) | inr y ↦ goto_as G (ItemsBelow c k) (HasItem (map_of c)) X all p d y ],
    );
    looks = λ p d t. (
      λ x. (h.extends.looks p d t).0 (inr (goto_look_as G (HasLook (map_of c)) (LooksBelow c k) X (λ p d t. ((all_looks p d t).1, (all_looks p d t).0)) p d t x)),
      λ x. elim ((h.extends.looks p d t).1 x) [ inl y ↦ absurd (empty p d (record { lookaheads = y.lookaheads; at = y.at })) | inr y ↦ goto_look_as G (LooksBelow c k) (HasLook (map_of c)) X all_looks p d t y ],
    );
  }
    where
      all : SameItems (ItemsBelow c k) (HasItem (map_of c))
      all = below_all c G.tokens k good le

      all_looks : SameLooks (LooksBelow c k) (HasLook (map_of c))
      all_looks = looks_all c G.tokens k good le

      empty : (p d : ℕ) → HasItem (shared_map number a) p d → ⊥
      empty p d x = no_items p d (subst (λ (m : Core). HasItem (map_of m) p d) e x)

pub no_core_good : (tokens : ℕ) (c : Core) → c ≡ no_core → IsCoreOf tokens c
no_core_good tokens c e = subst (IsCoreOf tokens) (sym e) (record { ascends = λ i j d lt within. absurd (omega (arith, within)); count = refl; width = λ k lt. absurd (omega (arith, lt)) })
