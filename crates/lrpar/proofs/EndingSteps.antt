-- How reductions on a token end, one step at a time.
use Rattle.std.proofs.Common.{◌≡◌, ℕ, zero, suc, ◌+◌, ◌-◌, ◌<◌, ◌≤◌, ◌⊎◌, inl, inr, ⊎_elim, List, [], ◌∷◌, ◌++◌, length, drop, get_or, Option, Some, None, refl, sym, ap, ◌∙◌, subst, arith}
use Rattle.std.proofs.lemmas.Bool.{cases_lt}
use Rattle.std.proofs.lemmas.List.{length-set}
use Rattle.std.proofs.lemmas.Option.{same_Some}
use Rattle.std.specs.Prelude.{IfSome, slice_get, slice_set}
use Rattle.std.specs.declared.alloc.Global.{Global}
use Rattle.std.specs.declared.vec.Vec.{Vec}
use Rattle.cfg_base.specs.declared.symbol.PIdx.{PIdx}
use Rattle.cfg_theory.specs.Grammar.{Grammar, head_of, body_of}
use Rattle.lr_theory.specs.Automaton.{reduce, Automaton}
use Rattle.lr_theory.specs.Chains.{push_goto, goto_from, Reductions}
use Rattle.state_table.specs.Graphs.{GraphValue}
use Rattle.state_table.specs.CellViews.{action_of}
use Rattle.state_table.specs.TableValues.{TableValue}
use Rattle.state_table.specs.declared.cells.Action.{Action as TableAction}
use Rattle.state_table.specs.declared.cells.Action.TheVariants as actions
use Rattle.state_table.specs.Tables.{automaton_of}
use Rattle.lrpar.specs.Endings.{LeadsTo, GoesBelow, EndsBy, IsEnding, IsFound, IsLink, AreLinks, AreEndings}
use Rattle.lrpar.specs.Reducing.{IsLong, chain_stack}
use Rattle.lrpar.specs.declared.endings.Ending.{Ending}
use Rattle.lrpar.specs.declared.endings.Found.{Found}
use Rattle.lrpar.specs.declared.endings.Found.TheVariants as found
use Rattle.lrpar.specs.declared.endings.Last.{Last}
use Rattle.lrpar.specs.declared.endings.Link.{Link}
use Rattle.lrpar.proofs.Quiet.{appended_at}
use Rattle.lrpar.proofs.StacksAhead.{by_production, same_production}

module _ (G : Grammar) (a : Automaton) (t : ℕ) where
  -- no reduction of the state
  pub none_begins : (s : ℕ) → ((p : ℕ) → a.action s t ≡ reduce p → ⊥) → (below : List ℕ) (n : ℕ) → Reductions G a t n (s ∷ below) → n ≤ 0
  none_begins s none below zero h = omega arith
  none_begins s none below (suc n) h = let r = by_production G a t s below h.0 h.1 in absurd (none r.0 r.1)

  -- the first one is by the production of the cell
  pub first_goes : (s p : ℕ) (left : List ℕ → List ℕ) → a.action s t ≡ reduce p → ((below : List ℕ) → drop (length (body_of G p)) (s ∷ below) ≡ left below) → GoesBelow G a t (s ∷ []) 0 p left
  first_goes s p left cell is below zero h lt = absurd (omega (arith, lt))
  first_goes s p left cell is below (suc n) h lt =
      let r = by_production G a t s below h.0 h.1 in
      let same : r.0 ≡ p = same_production r.0 p (sym r.1 ∙ cell) in
      let to = subst (λ q. goto_from G a q (drop (length (body_of G q)) (s ∷ below)) ≡ Some h.0) same r.2 in
      let count : n ≡ suc n - (0 + 1) = omega arith in
      (h.0, ap (goto_from G a p) (sym (is below)) ∙ to, subst (λ k. Reductions G a t k h.0) count h.2)

  by_goto : (k q : ℕ) (o : Option ℕ) (below ss : List ℕ) (r : ℕ) → o ≡ Some r → push_goto o (q ∷ below) ≡ Some ss → Reductions G a t k ss → Reductions G a t k (r ∷ q ∷ below)
  by_goto k q None below ss r e f h = cc
  by_goto k q (Some u) below ss r e f h =
      let same : u ∷ q ∷ below ≡ ss = same_Some (u ∷ q ∷ below) ss f in
      let one : u ≡ r = same_Some u r e in
      subst (λ x. Reductions G a t k (x ∷ q ∷ below)) one (subst (Reductions G a t k) (sym same) h)

  -- a reduction that leaves the state q on top goes to its goto
  pub goes_on : (from : List ℕ) (p q r count : ℕ) → GoesBelow G a t from count p (λ below. q ∷ below) → a.goto q (head_of G p) ≡ Some r → LeadsTo G a t from (count + 1) (r ∷ q ∷ [])
  goes_on from p q r count goes to below n h = ⊎_elim
      (λ lt. let k = goes below n h lt in by_goto (n - (count + 1)) q (a.goto q (head_of G p)) below k.0 r to k.1 k.2)
      (λ le. let none : 0 ≡ n - (count + 1) = omega (arith, le) in subst (λ k. Reductions G a t k (r ∷ q ∷ below)) none tt)
      (cases_lt count n)

  no_goto : (q : ℕ) (o : Option ℕ) (below ss : List ℕ) → o ≡ None → push_goto o (q ∷ below) ≡ Some ss → ⊥
  no_goto q None below ss e f = cc
  no_goto q (Some u) below ss e f = cc

  pub goes_nowhere : (from : List ℕ) (p q count : ℕ) → GoesBelow G a t from count p (λ below. q ∷ below) → a.goto q (head_of G p) ≡ None → (below : List ℕ) (n : ℕ) → Reductions G a t n (from ++ below) → n ≤ count
  goes_nowhere from p q count goes to below n h = ⊎_elim
      (λ lt. let k = goes below n h lt in absurd (no_goto q (a.goto q (head_of G p)) below k.0 to k.1))
      (λ le. le)
      (cases_lt count n)

  -- a link, and then the end of its upper state
  pub link_ends : (from : List ℕ) (m c p q : ℕ) → LeadsTo G a t from m (q ∷ p ∷ []) → ((below : List ℕ) (n : ℕ) → Reductions G a t n (q ∷ below) → n ≤ c) → (below : List ℕ) (n : ℕ) → Reductions G a t n (from ++ below) → n ≤ m + c
  link_ends from m c p q leads ends below n h = let k = ends (p ∷ below) (n - m) (leads below n h) in omega (arith, k)

  pub link_goes : (from : List ℕ) (m c p q r d : ℕ) → LeadsTo G a t from m (q ∷ p ∷ []) → GoesBelow G a t (q ∷ []) c r (drop d) → GoesBelow G a t from (m + c) r (λ below. drop d (p ∷ below))
  link_goes from m c p q r d leads goes below n h lt =
      let k = goes (p ∷ below) (n - m) (leads below n h) (omega (arith, lt)) in
      let count : n - m - (c + 1) ≡ n - (m + c + 1) = omega arith in
      (k.0, k.1, subst (λ i. Reductions G a t i k.0) count k.2)

  from_none : (p d : ℕ) (ss : List ℕ) → goto_from G a p (drop d []) ≡ Some ss → ⊥
  from_none p zero ss e = cc
  from_none p (suc d) ss e = cc

  -- nothing is below a chain's first stack
  pub none_below : (from : List ℕ) (count n p d : ℕ) → GoesBelow G a t from count p (drop d) → Reductions G a t n (from ++ []) → n ≤ count
  none_below from count n p d goes h = ⊎_elim (λ lt. let k = goes [] n h lt in absurd (from_none p d k.0 k.1)) (λ le. le) (cases_lt count n)

pub no_reduction : {S : Type 0} (number : S → ℕ) (k : TableAction S) → ((x : PIdx S) → k ≡ actions.Reduce x → ⊥) → (p : ℕ) → action_of number k ≡ reduce p → ⊥
no_reduction number (actions.Shift q) none p e = cc
no_reduction number (actions.Reduce x) none p e = none x refl
no_reduction number actions.Accept none p e = cc
no_reduction number actions.Error none p e = cc

pub weaker : {X : Type 0} (P Q : X → Type 0) (o : Option X) → ((x : X) → P x → Q x) → IfSome o P → IfSome o Q
weaker P Q None more h = tt
weaker P Q (Some x) more h = more x h

row_there : {X : Type 0} (xs : List X) (k : ℕ) (x : X) → k < length xs → x ≡ get_or xs k x → slice_get xs k ≡ Some x
row_there [] k x lt e = absurd (omega (arith, lt))
row_there (y ∷ xs) zero x lt e = ap Some (sym e)
row_there (y ∷ xs) (suc k) x lt e = row_there xs k x (omega (arith, lt)) e

set_at : {X : Type 0} (xs : List X) (s i : ℕ) (x y : X) → slice_get (slice_set xs s x) i ≡ Some y → ((i ≡ s) × (x ≡ y)) ⊎ (slice_get xs i ≡ Some y)
set_at [] s i x y e = inr e
set_at (z ∷ xs) zero zero x y e = inl (refl, same_Some x y e)
set_at (z ∷ xs) zero (suc i) x y e = inr e
set_at (z ∷ xs) (suc s) zero x y e = inr e
set_at (z ∷ xs) (suc s) (suc i) x y e = ⊎_elim (λ h. inl (ap suc h.0, h.1)) (λ h. inr h) (set_at xs s i x y e)

module _ {S : Type 0} (number : S → ℕ) (G : Grammar) (v : TableValue) (t : ℕ) where
  -- no further reduction comes
  pub last_found : (q : ℕ) (from : List ℕ) (e : Ending S) (f : Found S) → f ≡ found.Ends e → number e.tidx.0 ≡ t → e.last ≡ None →
      ((g : GraphValue) (below : List ℕ) (n : ℕ) → Reductions G (automaton_of g v) t n (from ++ below) → n ≤ e.count) → IsFound number G v t q from f
  last_found q from e f is token last ends = subst (IsFound number G v t q from) (sym is) (record {
    token = token;
    production = λ x h. cc (sym last ∙ h);
    ends = λ g. subst (λ (o : Option (Last S)). EndsBy number G (automaton_of g v) t from e.count o) (sym last) (ends g);
  })

  -- a stored ending
  pub kept_ends : (rows : List (Vec (Option (Ending S)) Global)) (s k : ℕ) (row : Vec (Option (Ending S)) Global) (e : Ending S) → AreEndings number G v rows → s < v.states → row ≡ get_or rows s row →
      slice_get row.items k ≡ Some (Some e) → number e.tidx.0 ≡ t → IsEnding number G v t (s ∷ []) e
  kept_ends rows s k row e are lt is at token =
      let there = row_there rows s row (omega (arith, lt, are.count)) is in
      subst (λ u. IsEnding number G v u (s ∷ []) e) token (are.each s row there k e at)

  -- the endings with one more
  pub put_kept : (rows : List (Vec (Option (Ending S)) Global)) (s : ℕ) (old new : Vec (Option (Ending S)) Global) (e : Ending S) → AreEndings number G v rows → s < v.states → old ≡ get_or rows s old →
      IsEnding number G v (number e.tidx.0) (s ∷ []) e → ((k : ℕ) (x : Ending S) → slice_get new.items k ≡ Some (Some x) → (slice_get old.items k ≡ Some (Some x)) ⊎ (x ≡ e)) → AreEndings number G v (slice_set rows s new)
  put_kept rows s old new e are lt is one put = record {
    count = length-set rows s new ∙ are.count;
    each = λ i row at k x here. elim (set_at rows s i new row at) [
      | inl h ↦ elim (put k x (ap (λ (r : Vec (Option (Ending S)) Global). slice_get r.items k) h.1 ∙ here)) [
        | inl kept ↦ subst (λ j. IsEnding number G v (number x.tidx.0) (j ∷ []) x) (sym h.0) (are.each s old (row_there rows s old (omega (arith, lt, are.count)) is) k x kept)
        | inr same ↦ subst (λ (y : Ending S). IsEnding number G v (number y.tidx.0) (i ∷ []) y) (sym same) (subst (λ j. IsEnding number G v (number e.tidx.0) (j ∷ []) e) (sym h.0) one)
      ]
      | inr was ↦ are.each i row was k x here
    ];
  }

  -- the links with one more
  pub links_more : (links : List (Link S)) (l : Link S) → AreLinks number G v t links → IsLink number G v t (number l.state.0 ∷ []) l → AreLinks number G v t (links ++ l ∷ [])
  links_more links l are one k x e = ⊎_elim
      (λ old. are k x old)
      (λ new. subst (λ (y : Link S). IsLink number G v t (number y.state.0 ∷ []) y) new.1 one)
      (appended_at links l x k e)

  on_none : (from : List ℕ) (p : ℕ) (o : Option ℕ) → from ≡ chain_stack p o → from ++ [] ≡ chain_stack p o
  on_none from p None e = ap (λ l. l ++ []) e
  on_none from p (Some q) e = ap (λ l. l ++ []) e

  by_last : (g : GraphValue) (from : List ℕ) (count n : ℕ) (o : Option (Last S)) → EndsBy number G (automaton_of g v) t from count o → Reductions G (automaton_of g v) t n (from ++ []) → n ≤ count
  by_last g from count n None ends h = ends [] n h
  by_last g from count n (Some x) ends h = none_below G (automaton_of g v) t from count n (number x.pidx.0) x.below ends h

  -- a chain whose ending is within the limit isn't long
  pub within_limit : (limit p : ℕ) (above : Option ℕ) (e : Ending S) → IsEnding number G v t (chain_stack p above) e → e.count ≤ limit → (g : GraphValue) → IsLong G (automaton_of g v) limit p above t → ⊥
  within_limit limit p above e is le g h =
      let k = by_last g (chain_stack p above) e.count (limit + 1) e.last (is.ends g) (subst (Reductions G (automaton_of g v) t (limit + 1)) (sym (on_none (chain_stack p above) p above refl)) h) in
      omega (arith, k, le)
