-- Reductions on a stack whose top is last.
use Rattle.std.proofs.Common.{◌≡◌, ℕ, zero, suc, ◌+◌, ◌-◌, ◌<◌, ◌≤◌, List, [], ◌∷◌, ◌++◌, length, get_or, take, drop, reverse, Option, None, Some, refl, sym, ap, ◌∙◌, arith, ⊎_elim}
use Rattle.std.specs.Prelude.{slice_get}
use Rattle.std.proofs.lemmas.List.{reverse-append, length-reverse, length-take, length-map, take_more, take_all, drop_all}
use Rattle.std.proofs.lemmas.Bool.{cases_lt}
use Rattle.cfg_theory.specs.Grammar.{Grammar, head_of, body_of}
use Rattle.lr_theory.specs.Automaton.{reduce, Automaton}
use Rattle.lr_theory.specs.Chains.{push_goto, goto_from, reduce_by, reduction}
use Rattle.lr_theory.proofs.Tops.{drop_reverse}
use Rattle.state_table.specs.Graphs.{GraphValue}
use Rattle.state_table.specs.TableValues.{TableValue, goto_at}
use Rattle.state_table.specs.declared.stidx.StIdx.{StIdx}
use Rattle.lrpar.specs.Reducing.{states_of, stack_of, AreStates}
use Rattle.state_table.specs.Tables.{automaton_of}

-- the number of an entry that was read
pub number_at : {S : Type 0} (number : S → ℕ) (ss : List (StIdx S)) (k : ℕ) (x : StIdx S) → x ≡ get_or ss k x → number x.0 ≡ get_or (states_of number ss) k (number x.0)
number_at number [] k x e = refl
number_at number (y ∷ ss) zero x e = ap (λ q. number q.0) e
number_at number (y ∷ ss) (suc k) x e = number_at number ss k x e

slice_of : (xs : List ℕ) (k x : ℕ) → k < length xs → x ≡ get_or xs k x → slice_get xs k ≡ Some x
slice_of [] k x lt e = absurd (omega arith)
slice_of (y ∷ xs) zero x lt e = ap Some (sym e)
slice_of (y ∷ xs) (suc k) x lt e = slice_of xs k x (omega arith) e

-- an entry of the stack is a state
pub state_in : {S : Type 0} (number : S → ℕ) (v : TableValue) (ss : List (StIdx S)) (k : ℕ) (x : StIdx S) → AreStates v (states_of number ss) → k < length ss → x ≡ get_or ss k x → number x.0 < v.states
state_in number v ss k x are lt e =
    let len : k < length (states_of number ss) = omega (arith, length-map ss (λ q. number q.0)) in
    are.each k (number x.0) (slice_of (states_of number ss) k (number x.0) len (number_at number ss k x e))

pub pushed : (top q : ℕ) (ss : List ℕ) (n : ℕ) → q < top → ((k r : ℕ) → slice_get ss k ≡ Some r → r < top) → (k r : ℕ) → slice_get (take n ss ++ q ∷ []) k ≡ Some r → r < top
pushed top q [] zero lt each zero r e = let same : q ≡ r = cc in omega (arith, same)
pushed top q [] (suc n) lt each zero r e = let same : q ≡ r = cc in omega (arith, same)
pushed top q [] zero lt each (suc k) r e = cc
pushed top q [] (suc n) lt each (suc k) r e = cc
pushed top q (x ∷ ss) zero lt each zero r e = let same : q ≡ r = cc in omega (arith, same)
pushed top q (x ∷ ss) zero lt each (suc k) r e = cc
pushed top q (x ∷ ss) (suc n) lt each zero r e = each zero r e
pushed top q (x ∷ ss) (suc n) lt each (suc k) r e = pushed top q ss n lt (λ j s. each (suc j) s) k r e

-- the numbers after a reduction
pub states_pushed : {S : Type 0} (number : S → ℕ) (ss : List (StIdx S)) (n : ℕ) (q : StIdx S) → states_of number (take n ss ++ q ∷ []) ≡ take n (states_of number ss) ++ number q.0 ∷ []
states_pushed number [] zero q = refl
states_pushed number [] (suc n) q = refl
states_pushed number (x ∷ ss) zero q = refl
states_pushed number (x ∷ ss) (suc n) q = ap (λ l. number x.0 ∷ l) (states_pushed number ss n q)

-- the stack after a reduction holds states
pub are_pushed : {S : Type 0} (number : S → ℕ) (v : TableValue) (ss : List (StIdx S)) (n : ℕ) (q : StIdx S) → AreStates v (states_of number ss) → number q.0 < v.states → AreStates v (states_of number (take n ss ++ q ∷ []))
are_pushed number v ss n q are lt = rw (states_pushed number ss n q) (record { each = pushed v.states (number q.0) (states_of number ss) n lt are.each })

-- the last element of a list comes first in its reverse
pub reverse_last : {X : Type 0} (xs : List X) (m : ℕ) (x : X) → suc m ≡ length xs → x ≡ get_or xs m x → reverse xs ≡ x ∷ reverse (take m xs)
reverse_last xs m x len is =
    let more : take (m + 1) xs ≡ take m xs ++ get_or xs m x ∷ [] = take_more xs m x (omega arith) in
    let all : take (m + 1) xs ≡ xs = take_all (m + 1) xs (omega arith) in
    let split : xs ≡ take m xs ++ x ∷ [] = sym all ∙ more ∙ ap (λ y. take m xs ++ y ∷ []) (sym is) in
    ap reverse split ∙ reverse-append (take m xs) (x ∷ [])

pub get_take : (xs : List ℕ) (k n x : ℕ) → k < n → x ≡ get_or xs k x → x ≡ get_or (take n xs) k x
get_take [] k zero x lt e = absurd (omega arith)
get_take [] k (suc n) x lt e = refl
get_take (y ∷ xs) k zero x lt e = absurd (omega arith)
get_take (y ∷ xs) zero (suc n) x lt e = e
get_take (y ∷ xs) (suc k) (suc n) x lt e = get_take xs k n x (omega arith) e

pub length_pushed : {X : Type 0} (xs : List X) (k : ℕ) (x : X) → k ≤ length xs → length (take k xs ++ x ∷ []) ≡ k + 1
length_pushed xs zero x le = omega arith
length_pushed [] (suc k) x le = absurd (omega arith)
length_pushed (y ∷ xs) (suc k) x le = let h : length (take k xs ++ x ∷ []) ≡ k + 1 = length_pushed xs k x (omega arith) in omega (arith, h)

module _ (G : Grammar) (a : Automaton) where
  -- what a reduction of n symbols comes to, from the state that it leaves on top
  pub goto_is : (p n below : ℕ) (ss : List ℕ) → n < length ss → below ≡ get_or ss (length ss - n - 1) below →
      goto_from G a p (drop n (reverse ss)) ≡ push_goto (a.goto below (head_of G p)) (reverse (take (length ss - n) ss))
  goto_is p n below ss lt below_is =
      let k = length ss - n in
      let taken : suc (k - 1) ≡ length (take k ss) = omega (arith, length-take k ss) in
      let last : reverse (take k ss) ≡ below ∷ reverse (take (k - 1) (take k ss)) = reverse_last (take k ss) (k - 1) below taken (get_take ss (k - 1) k below (omega arith) below_is) in
      let dropped : drop n (reverse ss) ≡ reverse (take k ss) = drop_reverse n ss (omega arith) in
      ap (goto_from G a p) (dropped ∙ last) ∙ ap (push_goto (a.goto below (head_of G p))) (sym last)

  -- it leaves a state
  pub leaves_state : (p n : ℕ) (ss next : List ℕ) → goto_from G a p (drop n (reverse ss)) ≡ Some next → n < length ss
  leaves_state p n ss next e = ⊎_elim
      (λ lt. lt)
      (λ le. let len = length-reverse ss in cc (ap (goto_from G a p) (sym (drop_all n (reverse ss) (omega (arith, len, le)))) ∙ e))
      (cases_lt n (length ss))

-- a reduction that goes on leaves a state of the stack
pub within : {S : Type 0} (number : S → ℕ) (G : Grammar) (v : TableValue) (p n : ℕ) (ss : List (StIdx S)) →
    ((x : GraphValue) → (next : List ℕ) × (reduce_by G (automaton_of x v) (reduce p) (stack_of number ss) ≡ Some next)) → n ≡ length (body_of G p) → n < length ss
within number G v p n ss goes count =
    let x : GraphValue = record { start = 0; cores = []; closed = []; edges = [] } in
    let h = goes x in
    let lt = leaves_state G (automaton_of x v) p n (states_of number ss) h.0 (ap (λ k. goto_from G (automaton_of x v) p (drop k (stack_of number ss))) count ∙ h.1) in
    omega (arith, lt, length-map ss (λ q. number q.0))

module _ (G : Grammar) (a : Automaton) (t : ℕ) where
  -- a reduction of n symbols, from the state that it leaves on top
  pub reduction_is : (p n m top below : ℕ) (ss : List ℕ) → suc m ≡ length ss → top ≡ get_or ss m top → a.action top t ≡ reduce p → n ≡ length (body_of G p) →
      n < length ss → below ≡ get_or ss (length ss - n - 1) below → reduction G a t (reverse ss) ≡ push_goto (a.goto below (head_of G p)) (reverse (take (length ss - n) ss))
  reduction_is p n m top below ss len top_is cell count lt below_is =
      let whole : reverse ss ≡ top ∷ reverse (take m ss) = reverse_last ss m top len top_is in
      let first_step : reduction G a t (reverse ss) ≡ goto_from G a p (drop n (reverse ss)) = rw (whole, cell, ← count) refl in
      first_step ∙ goto_is G a p n below ss lt below_is

-- what a reduction of n symbols comes to from the k states of a stack, and that it goes somewhere where it goes on
module _ {S : Type 0} (number : S → ℕ) (G : Grammar) (v : TableValue) (p n k : ℕ) (states : List (StIdx S)) (count : n ≡ length (body_of G p)) (lt : n < length states) (len : k ≡ length states) where
  pub reduces_to : (below r : ℕ) (x : GraphValue) → below ≡ get_or (states_of number states) (k - n - 1) below → r ≡ head_of G p →
      goto_from G (automaton_of x v) p (drop (length (body_of G p)) (stack_of number states)) ≡ push_goto (goto_at v below r) (reverse (take (k - n) (states_of number states)))
  reduces_to below r x at head =
      let ss = states_of number states in
      let same : length ss ≡ length states = length-map states (λ q. number q.0) in
      let left : length ss - n ≡ k - n = omega (arith, same, len) in
      let below_is : below ≡ get_or ss (length ss - n - 1) below = rw left at in
      ap (λ m. goto_from G (automaton_of x v) p (drop m (stack_of number states))) (sym count) ∙ (goto_is G (automaton_of x v) p n below ss (omega (arith, lt, same)) below_is
      ∙ (ap (λ m. push_goto (goto_at v below (head_of G p)) (reverse (take m ss))) left ∙ ap (λ A. push_goto (goto_at v below A) (reverse (take (k - n) ss))) (sym head)))

  goes_by : (o : Option ℕ) (below next : List ℕ) → push_goto o below ≡ Some next → (q : ℕ) × (o ≡ Some q)
  goes_by None below next e = cc
  goes_by (Some q) below next e = (q, refl)

  pub goes_to : (below r : ℕ) → below ≡ get_or (states_of number states) (k - n - 1) below → r ≡ head_of G p →
      ((x : GraphValue) → (next : List ℕ) × (reduce_by G (automaton_of x v) (reduce p) (stack_of number states) ≡ Some next)) → (q : ℕ) × (goto_at v below r ≡ Some q)
  goes_to below r at head goes =
      let x : GraphValue = record { start = 0; cores = []; closed = []; edges = [] } in
      let h = goes x in
      goes_by (goto_at v below r) (reverse (take (k - n) (states_of number states))) h.0 (sym (reduces_to below r x at head) ∙ h.1)
