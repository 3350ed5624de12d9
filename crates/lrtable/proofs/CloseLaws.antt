-- The sets of the open rules are the closure of the items.
use Rattle.std.proofs.Common.{ℕ, zero, suc, inl, inr, ◌↔◌, List, refl, sym, subst}
use Rattle.cfg_theory.specs.Grammar.{Grammar, rule, IsOf, IsNext, head_of}
use Rattle.cfg_theory.specs.Derivation.{Nullable, IsFirst}
use Rattle.lr_theory.specs.Canonical.{from_dot}
use Rattle.lr_theory.specs.Itemset.{Items, Lookaheads, Closure, ClosureLook, ItemSet, HasItem, HasLook}
use Rattle.lrtable.specs.Opening.{Front, RuleSets, IsOpen, HasRuleLook, Opened, OpenedLook, AreOpened}
use Rattle.lrtable.specs.Closes.{AreFronts, AreSeeds, InClosure, LookInClosure, ClosuresGoByRules}

module _ (G : Grammar) (fronts : List (List Front)) (good : AreFronts G fronts) (I : Items) (L : Lookaheads) (from s : RuleSets) (in_items : (p d t : ℕ) → L p d t → I p d) (seeds : AreSeeds G I L from) (opened : AreOpened fronts from s) where
  -- an open rule's productions are in the closure
  in_closure : {A : ℕ} → Opened fronts from A → (q : ℕ) → IsOf G q A → Closure G I q zero
  in_closure (Opened.given {A = A} h) q o = let (p, d, i, n) = (seeds.rules A).0 h in Closure.opened (Closure.given i) n o
  in_closure (Opened.opened {A = A} {B = B} e h m r) q o = let (p, k, n) = good.rules A e m in Closure.opened (in_closure h p k) (subst (λ C. IsNext G p zero (rule C)) r n) o

  pub item : (p d : ℕ) → Closure G I p d ↔ InClosure G I s p d
  item p d = (to, back)
    where
      open_of : (q e : ℕ) → InClosure G I s q e → (A : ℕ) → IsNext G q e (rule A) → IsOpen s A
      open_of q e (inl i) A n = (opened.rules A).1 (Opened.given ((seeds.rules A).1 (q, e, i, n)))
      open_of q e (inr (z, lt, h)) A n =
          let (f, m, r) = good.has_rule q (head_of G q) A (record { in_range = lt; head = refl }) (subst (λ k. IsNext G q k (rule A)) z n) in
          (opened.rules A).1 (Opened.opened f ((opened.rules (head_of G q)).0 h) m r)

      to : {q e : ℕ} → Closure G I q e → InClosure G I s q e
      to (Closure.given i) = inl i
      to (Closure.opened {p = p} {d = d} {A = A} {q = q} c n o) = inr (refl, o.in_range, subst (IsOpen s) (sym o.head) (open_of p d (to c) A n))

      back : InClosure G I s p d → Closure G I p d
      back (inl i) = Closure.given i
      back (inr (z, lt, h)) = subst (λ k. Closure G I p k) (sym z) (in_closure ((opened.rules (head_of G p)).0 h) p (record { in_range = lt; head = refl }))

  -- a rule to which a lookahead came is open
  held : (A t : ℕ) → OpenedLook fronts from A t → Opened fronts from A
  held A t (OpenedLook.given h) = Opened.given ((seeds.rules A).1 (elim ((seeds.looks A t).0 h) [ inl x ↦ (x.0, x.1, x.2, x.3) | inr x ↦ (x.0, x.1, in_items x.0 x.1 t x.2, x.3) ]))
  held A t (OpenedLook.first e h m r f) = Opened.opened e h m r
  held A t (OpenedLook.passed e h l m r f) = Opened.opened e h m r

  -- so are the lookaheads
  look_in : {A t : ℕ} → OpenedLook fronts from A t → (q : ℕ) → IsOf G q A → ClosureLook G I L q zero t
  look_in (OpenedLook.given {A = A} {t = t} h) q o = elim ((seeds.looks A t).0 h) [
    | inl x ↦ ClosureLook.first (Closure.given x.2) x.3 o x.4
    | inr x ↦ ClosureLook.passed (ClosureLook.given x.2) x.3 o x.4
  ]
  look_in (OpenedLook.first {A = A} {B = B} {t = t} e h m r f) q o =
      let (p, k, n, x) = good.first A t e m f in
      ClosureLook.first (in_closure h p k) (subst (λ C. IsNext G p zero (rule C)) r n) o x
  look_in (OpenedLook.passed {A = A} {B = B} {t = t} e h l m r f) q o =
      let (p, k, n, x) = good.nullable A e m f in
      ClosureLook.passed (look_in l p k) (subst (λ C. IsNext G p zero (rule C)) r n) o x

  pub look : (p d t : ℕ) → ClosureLook G I L p d t ↔ LookInClosure G L s p d t
  look p d t = (to, back)
    where
      by_first : (q e : ℕ) → InClosure G I s q e → (A u : ℕ) → IsNext G q e (rule A) → IsFirst G (from_dot G q (suc e)) u → HasRuleLook s A u
      by_first q e (inl i) A u n f = (opened.looks A u).1 (OpenedLook.given ((seeds.looks A u).1 (inl (q, e, i, n, f))))
      by_first q e (inr (z, lt, h)) A u n f =
          let (g, m, r, x) = good.has_first q (head_of G q) A u (record { in_range = lt; head = refl }) (subst (λ k. IsNext G q k (rule A)) z n) (subst (λ k. IsFirst G (from_dot G q (suc k)) u) z f) in
          (opened.looks A u).1 (OpenedLook.first g ((opened.rules (head_of G q)).0 h) m r x)

      by_look : (q e u : ℕ) → LookInClosure G L s q e u → (A : ℕ) → IsNext G q e (rule A) → Nullable G (from_dot G q (suc e)) → HasRuleLook s A u
      by_look q e u (inl l) A n f = (opened.looks A u).1 (OpenedLook.given ((seeds.looks A u).1 (inr (q, e, l, n, f))))
      by_look q e u (inr (z, lt, h)) A n f =
          let (g, m, r, x) = good.has_nullable q (head_of G q) A (record { in_range = lt; head = refl }) (subst (λ k. IsNext G q k (rule A)) z n) (subst (λ k. Nullable G (from_dot G q (suc k))) z f) in
          (opened.looks A u).1 (OpenedLook.passed g (held (head_of G q) u ((opened.looks (head_of G q) u).0 h)) ((opened.looks (head_of G q) u).0 h) m r x)

      to : {q e u : ℕ} → ClosureLook G I L q e u → LookInClosure G L s q e u
      to (ClosureLook.given l) = inl l
      to (ClosureLook.first {p = q} {d = e} {A = A} {q = r} {t = u} c n o f) = inr (refl, o.in_range, subst (λ B. HasRuleLook s B u) (sym o.head) (by_first q e ((item q e).0 c) A u n f))
      to (ClosureLook.passed {p = q} {d = e} {A = A} {q = r} {t = u} c n o f) = inr (refl, o.in_range, subst (λ B. HasRuleLook s B u) (sym o.head) (by_look q e u (to c) A n f))

      back : LookInClosure G L s p d t → ClosureLook G I L p d t
      back (inl l) = ClosureLook.given l
      back (inr (z, lt, h)) = subst (λ k. ClosureLook G I L p k t) (sym z) (look_in ((opened.looks (head_of G p) t).0 h) p (record { in_range = lt; head = refl }))

pub held_look : (s : ItemSet) (p d t : ℕ) → HasLook s p d t → HasItem s p d
held_look s p d t h = record { lookaheads = h.lookaheads; at = h.at }

pub by_rules : ClosuresGoByRules
by_rules = record {
  items = λ G fronts s from sets good seeds opened. item G fronts good (HasItem s) (HasLook s) from sets (held_look s) seeds opened;
  looks = λ G fronts s from sets good seeds opened. look G fronts good (HasItem s) (HasLook s) from sets (held_look s) seeds opened;
}
