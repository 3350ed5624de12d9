use Rattle.std.proofs.Common.{◌≡◌, ℕ, ◌<◌, inl, inr, List, [], ◌∷◌, length, length-append, refl, sym, ap, ◌∙◌, subst, arith}
use Rattle.std.specs.List.{Contains}
use Rattle.std.proofs.lemmas.List.Elements.{All-contains, Contains-push, Contains-push_cases, Contains-append_left}
use Rattle.cfg_sets.specs.Firsts.{FirstSets}
use Rattle.cfg_sets.specs.Follows.{HoldsFirsts, HoldsAll}
use Rattle.cfg_sets.proofs.follows.Filling.start.Goals as goal

pub prods-init : goal.prods-init
prods-init g c = record {
  grammar = refl;
  firsts = refl;
  sound = c.requires.sound;
  end = c.requires.end;
  within = λ p h. All-contains (λ (q : ℕ). q < length c.args.self.now.grm.now.grammar.productions) c.args.order p c.requires.order.within h;
  holds = λ p lt. inr (c.requires.order.all p lt);
}

pub prod_at-pidx-requires : goal.prod_at-pidx-requires
prod_at-pidx-requires g c = c.prods.invariant.within c.in-Some.number (subst (λ (l : List ℕ). Contains l c.in-Some.number) (sym c.in-Some.ensures) (Contains-push c.pop.new.self c.in-Some.number))

pub take_prod-requires-clause-production : goal.take_prod-requires-clause-production
take_prod-requires-clause-production g c =
    let x = c.in-Some.number in
    let e = c.prod_at-pidx.ensures in
    let low : x < length c.prods.self.grm.now.grammar.productions = c.prods.invariant.within x (subst (λ (l : List ℕ). Contains l x) (sym c.in-Some.ensures) (Contains-push c.pop.new.self x)) in
    omega (arith, low, e)

pub prods-preserved : goal.prods-preserved
prods-preserved g c =
    let G = c.prods.self.grm.now.grammar in
    let f = c.prods.self.firsts.now in
    let x = c.in-Some.number in
    let rest = c.pop.new.self in
    let e = c.in-Some.ensures in
    let inv = c.prods.invariant in
    let next = c.take_prod.ensures in
    record {
      grammar = inv.grammar;
      firsts = inv.firsts;
      sound = next.sound;
      end = λ t h. next.kept 0 t (inv.end t h);
      within = λ p h. inv.within p (subst (λ (l : List ℕ). Contains l p) (sym e) (Contains-append_left rest (x ∷ []) p h));
      holds = λ p lt. elim (inv.holds p lt) [
        | inl h ↦ inl (λ d R t n k. next.kept R t (h d R t n k))
        | inr stands ↦ elim (Contains-push_cases rest x p (subst (λ (l : List ℕ). Contains l p) e stands)) [
          | inl left ↦ inr left
          | inr same ↦ inl (subst (HoldsFirsts G f c.take_prod.new.self) (c.prod_at-pidx.ensures ∙ same) next.firsts)
        ]
      ];
    }

pub prods-smaller : goal.prods-smaller
prods-smaller g c =
    let e = ap length c.in-Some.ensures in
    let n = length-append c.pop.new.self (c.in-Some.number ∷ []) in
    omega (arith, e, n)

none_in : (p : ℕ) (l : List ℕ) → l ≡ [] → Contains l p → ⊥
none_in p l e (k, lt, q) = let n = ap length e in omega (arith, lt, n)

pub returns-in_default-clause-holds : goal.returns-in_default-clause-holds
returns-in_default-clause-holds g c =
    let inv = c.prods.invariant in
    let G = c.prods.self.grm.now.grammar in
    let f = c.prods.self.firsts.now in
    let all : (p : ℕ) → p < length G.productions → HoldsFirsts G f c.prods.self.follows p = λ p lt.
    elim (inv.holds p lt) [
      | inl h ↦ h
      | inr stands ↦ absurd (none_in p c.prods.order c.in_default.ensures stands)
    ] in
    let held : HoldsAll G f c.prods.self.follows = record { firsts = all; end = inv.end } in
    subst (λ v. HoldsAll v.grammar c.args.self.now.firsts.now c.prods.self.follows) inv.grammar (subst (λ (s : FirstSets). HoldsAll G s c.prods.self.follows) inv.firsts held)
