-- Marks of the sets that have items.
use Rattle.std.proofs.Common.{◌≡◌, ℕ, zero, suc, ◌+◌, ◌<◌, ◌≤◌, inl, inr, Bool, true, false, ◌||◌, List, [], ◌∷◌, length, set, replicate, refl, sym, ap, ◌∙◌, subst, arith, get_or-set_same, get_or-set_other, length-set}
use Rattle.std.proofs.lemmas.Bool.{cases_eq, cases_lt}
use Rattle.std.proofs.lemmas.List.{length-replicate, get_or-replicate}
use Rattle.vob.specs.Bits.{bitwise}
use Rattle.cfg_theory.specs.Grammar.{Grammar, head_of}
use Rattle.vob.specs.Sets.{is_set}
use Rattle.lr_theory.specs.Building.{Building}
use Rattle.lr_theory.specs.Itemset.{Items, Lookaheads}
use Rattle.state_table.specs.ItemRows.{no_core, Core}
use Rattle.lrtable.specs.Gaining.{core_in, AreMarked, AreSymbolSets, Gains, KeepsMarks}
use Rattle.lrtable.specs.Handling.{AreHandled}
use Rattle.lrtable.specs.Opening.{RuleSets, IsOpen}
use Rattle.lrtable.specs.States.{StateValue}
use Rattle.lrtable.specs.Stepping.{OpenBelow, OpenLooksBelow, AreGotosOf}
use Rattle.lrtable.proofs.Gaining.{gains_as}
use Rattle.lrtable.proofs.Stepping.{goto_at, skip_rank}

differ : true ≡ false → ⊥
differ e = cc

pub keeps_same : (marks : List Bool) (sets : List Core) → KeepsMarks marks sets marks sets
keeps_same marks sets = record { width = refl; marked = λ h. h }

pub keeps_next : (a : List Bool) (b : List Core) (c : List Bool) (d : List Core) (e : List Bool) (f : List Core) → KeepsMarks a b c d → KeepsMarks c d e f → KeepsMarks a b e f
keeps_next a b c d e f h k = record { width = k.width ∙ h.width; marked = λ x. k.marked (h.marked x) }

-- a set gets an item, and its rank a mark
pub keeps_one : (marks new : List Bool) (before after : List Core) (k : ℕ) (c : Core) → k < length marks → new ≡ set marks k true → after ≡ set before k c → KeepsMarks marks before new after
keeps_one marks new before after k c lt e f = record {
  width = ap length e ∙ length-set marks k true;
  marked = λ h n l u. elim (cases_eq n k) [
    | inl q ↦ absurd (differ (sym (ap (λ m. is_set m n) e ∙ (ap (λ m. is_set (set marks k true) m) q ∙ get_or-set_same marks k true false lt)) ∙ u))
    | inr ne ↦
        (let long = ap length f in
        let same = length-set before k c in
        ap (λ m. core_in m n) f ∙ (get_or-set_other before k n c no_core ne ∙ h n (omega (arith, l, long, same)) (sym (get_or-set_other marks k n true false ne) ∙ (sym (ap (λ m. is_set m n) e) ∙ u))))
  ];
}

-- sets without items need no mark
pub empty_marked : (marks : List Bool) (sets : List Core) (k : ℕ) → sets ≡ replicate k no_core → AreMarked marks sets
empty_marked marks sets k e n lt u =
    let long = ap length e in
    let count = length-replicate k no_core in
    ap (λ m. core_in m n) e ∙ get_or-replicate k n no_core no_core (omega (arith, lt, long, count))

-- rules that aren't open add nothing
pub open_skip : (G : Grammar) (s : RuleSets) (n m : ℕ) (a b : List Core) → n ≤ m → ((j : ℕ) → n ≤ j → j < m → is_set s.opened j ≡ false) → Gains G (OpenBelow G s n) (OpenLooksBelow G s n) a b → Gains G (OpenBelow G s m) (OpenLooksBelow G s m) a b
open_skip G s n m a b le none h = gains_as G (OpenBelow G s n) (OpenBelow G s m) (OpenLooksBelow G s n) (OpenLooksBelow G s m) a b
    (λ p d. (λ x. (x.0, x.1, (let lt = x.2 in omega (arith, lt, le)), x.3), λ x. (x.0, x.1, back (head_of G p) x.2 x.3, x.3)))
    (λ p d t. (λ x. (x.0, x.1, (let lt = x.2 in omega (arith, lt, le)), x.3, x.4), λ x. (x.0, x.1, back (head_of G p) x.2 x.3, x.3, x.4))) h
  where
    back : (A : ℕ) → A < m → IsOpen s A → A < n
    back A lt x = elim (cases_lt A n) [ inl l ↦ l | inr ge ↦ absurd (differ (sym x ∙ none A ge lt)) ]

-- ranks without items are handled
pub skip_ranks : (G : Grammar) (before : Building) (s n m : ℕ) (sets : List Core) (states : List StateValue) → n ≤ m → m ≤ G.rules + G.tokens → AreGotosOf G before s sets → ((k : ℕ) → n ≤ k → k < m → core_in sets k ≡ no_core) → AreHandled G before s n states → AreHandled G before s m states
skip_ranks G before s n zero sets states le top gotos none h = let e : n ≡ zero = omega (arith, le) in subst (λ k. AreHandled G before s k states) e h
skip_ranks G before s n (suc m) sets states le top gotos none h = elim (cases_eq n (suc m)) [
  | inl e ↦ subst (λ k. AreHandled G before s k states) e h
  | inr ne ↦
      (let l : n ≤ m = omega (arith, le, ne) in
      let next : m + 1 ≡ suc m = omega arith in
      let done = skip_ranks G before s n m sets states l (omega (arith, top)) gotos (λ k a b. none k a (omega (arith, b))) h in
      subst (λ k. AreHandled G before s k states) next (skip_rank G before s m (core_in sets m) (goto_at G before s sets gotos m) states done (omega (arith, top)) (ap (λ (c : Core). length c.items) (none m l (omega arith)))))
]

-- a clear set, joined by another, is that
pub or_clear : (row bits : List Bool) → length row ≡ length bits → bitwise (λ x y. x || y) (replicate (length row) false) bits ≡ bits
or_clear [] [] e = refl
or_clear [] (b ∷ bits) e = cc
or_clear (r ∷ row) [] e = cc
or_clear (r ∷ row) (b ∷ bits) e = ap (λ l. b ∷ l) (or_clear row bits (omega (arith, e)))

-- the sets and marks after items moved
pub symbol_sets_on : {G : Grammar} {I : Items} {L : Lookaheads} {was now : List Bool} {old new : List Core} → AreSymbolSets G was old → Gains G I L old new → KeepsMarks was old now new → AreSymbolSets G now new
symbol_sets_on h gains marks = record { count = gains.count ∙ h.count; wide = marks.width ∙ h.wide; good = gains.good }
