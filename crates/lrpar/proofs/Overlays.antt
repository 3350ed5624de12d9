-- Stacks of overlays.
use Rattle.std.proofs.Common.{◌≡◌, ℕ, zero, suc, ◌+◌, ◌-◌, ◌<◌, ◌≤◌, List, [], ◌∷◌, ◌++◌, length, get_or, take, drop, reverse, Some, None, refl, sym, ap, ◌∙◌, subst, arith}
use Rattle.std.specs.Prelude.{slice_get}
use Rattle.std.proofs.lemmas.List.{reverse-append, length-reverse, length-take, length-map, drop-append-le, length-append}
use Rattle.std.proofs.Math.Seq.{drop-append-add}
use Rattle.cfg_theory.specs.Grammar.{Grammar, head_of, body_of}
use Rattle.lr_theory.specs.Automaton.{Action, reduce, Automaton}
use Rattle.lr_theory.specs.Chains.{push_goto, goto_from, reduce_by, reduction}
use Rattle.lr_theory.proofs.Tops.{drop_reverse}
use Rattle.state_table.specs.TableValues.{TableValue}
use Rattle.state_table.specs.declared.stidx.StIdx.{StIdx}
use Rattle.lrpar.specs.Reducing.{AreStates, states_of}
use Rattle.lrpar.specs.Replay.{first_of, action_on}
use Rattle.lrpar.proofs.Reduced.{reverse_last, get_take}

-- the entry with k others above it
pub reverse_at : (xs : List ℕ) (k x : ℕ) → k < length xs → x ≡ get_or xs (length xs - 1 - k) x → first_of (drop k (reverse xs)) ≡ Some x
reverse_at xs k x lt e =
    let m = length xs - k in
    let len : suc (m - 1) ≡ length (take m xs) = omega (arith, length-take m xs, lt) in
    let at : length xs - 1 - k ≡ m - 1 = omega arith in
    let there : x ≡ get_or xs (m - 1) x = subst (λ j. x ≡ get_or xs j x) at e in
    let last = reverse_last (take m xs) (m - 1) x len (get_take xs (m - 1) m x (omega (arith, lt)) there) in
    ap first_of (drop_reverse k xs (omega (arith, lt)) ∙ last)

first_append : (xs ys : List ℕ) (x : ℕ) → first_of xs ≡ Some x → first_of (xs ++ ys) ≡ Some x
first_append [] ys x e = cc
first_append (y ∷ xs) ys x e = e

-- an entry over the base
pub over_at : (over below : List ℕ) (k x : ℕ) → k < length over → x ≡ get_or over (length over - 1 - k) x → first_of (drop k (reverse over ++ below)) ≡ Some x
over_at over below k x lt e =
    ap first_of (drop-append-le k (reverse over) below (omega (arith, length-reverse over, lt))) ∙ first_append (drop k (reverse over)) below x (reverse_at over k x lt e)

-- past what is over the base
pub drop_past : (over below : List ℕ) (k : ℕ) → length over ≤ k → drop k (reverse over ++ below) ≡ drop (k - length over) below
drop_past over below k le =
    let n : k ≡ length (reverse over) + (k - length over) = omega (arith, length-reverse over, le) in
    ap (λ j. drop j (reverse over ++ below)) n ∙ drop-append-add (reverse over) below (k - length over)

-- an entry of what is kept of the base
pub base_at : (base : List ℕ) (kept k x : ℕ) → kept ≤ length base → k < kept → x ≡ get_or base (kept - 1 - k) x → first_of (drop k (reverse (take kept base))) ≡ Some x
base_at base kept k x le lt e =
    let len : length (take kept base) ≡ kept = omega (arith, length-take kept base, le) in
    let at : length (take kept base) - 1 - k ≡ kept - 1 - k = omega (arith, len) in
    reverse_at (take kept base) k x (omega (arith, len, lt)) (subst (λ j. x ≡ get_or (take kept base) j x) (sym at) (get_take base (kept - 1 - k) kept x (omega (arith, lt)) e))

take_of_take : (k n : ℕ) (xs : List ℕ) → k ≤ n → take k (take n xs) ≡ take k xs
take_of_take zero n xs le = refl
take_of_take (suc k) zero xs le = absurd (omega arith)
take_of_take (suc k) (suc n) [] le = refl
take_of_take (suc k) (suc n) (x ∷ xs) le = ap (λ l. x ∷ l) (take_of_take k n xs (omega (arith, le)))

-- fewer are kept
pub keep_fewer : (base : List ℕ) (kept k : ℕ) → kept ≤ length base → k ≤ kept → drop k (reverse (take kept base)) ≡ reverse (take (kept - k) base)
keep_fewer base kept k le lt =
    let len : length (take kept base) ≡ kept = omega (arith, length-take kept base, le) in
    drop_reverse k (take kept base) (omega (arith, len, lt)) ∙ ap (λ j. reverse (take (j - k) (take kept base))) len ∙ ap reverse (take_of_take (kept - k) kept base (omega arith))

take_states : {S : Type 0} (number : S → ℕ) (n : ℕ) (ss : List (StIdx S)) → states_of number (take n ss) ≡ take n (states_of number ss)
take_states number zero ss = refl
take_states number (suc n) [] = refl
take_states number (suc n) (x ∷ ss) = ap (λ l. number x.0 ∷ l) (take_states number n ss)

push_states : {S : Type 0} (number : S → ℕ) (ss : List (StIdx S)) (q : StIdx S) → reverse (states_of number (ss ++ q ∷ [])) ≡ number q.0 ∷ reverse (states_of number ss)
push_states number ss q = ap reverse (map-append ss q) ∙ reverse-append (states_of number ss) (number q.0 ∷ [])
  where
    map-append : (xs : List (StIdx _)) (y : StIdx _) → states_of number (xs ++ y ∷ []) ≡ states_of number xs ++ number y.0 ∷ []
    map-append [] y = refl
    map-append (x ∷ xs) y = ap (λ l. number x.0 ∷ l) (map-append xs y)

-- a state is put on it
pub put_on : {S : Type 0} (number : S → ℕ) (over over' : List (StIdx S)) (q : StIdx S) (below : List ℕ) → over' ≡ over ++ q ∷ [] → reverse (states_of number over') ++ below ≡ number q.0 ∷ (reverse (states_of number over) ++ below)
put_on number over over' q below e = ap (λ l. reverse (states_of number l) ++ below) e ∙ ap (λ l. l ++ below) (push_states number over q)

-- the overlay is cut
pub cut_over : {S : Type 0} (number : S → ℕ) (over over' : List (StIdx S)) (below : List ℕ) (k : ℕ) → k ≤ length over → over' ≡ take (length over - k) over → reverse (states_of number over') ++ below ≡ drop k (reverse (states_of number over) ++ below)
cut_over number over over' below k le e =
    let len : length (states_of number over) ≡ length over = length-map over (λ q. number q.0) in
    ap (λ l. reverse (states_of number l) ++ below) e ∙ ap (λ l. reverse l ++ below) (take_states number (length over - k) over)
    ∙ ap (λ j. reverse (take (j - k) (states_of number over)) ++ below) (sym len)
    ∙ ap (λ l. l ++ below) (sym (drop_reverse k (states_of number over) (omega (arith, len, le))))
    ∙ sym (drop-append-le k (reverse (states_of number over)) below (omega (arith, length-reverse (states_of number over), len, le)))

-- and below it
pub cut_below : {S : Type 0} (number : S → ℕ) (over over' : List (StIdx S)) (base : List ℕ) (kept k : ℕ) → kept ≤ length base → length over ≤ k → k - length over ≤ kept → over' ≡ [] → reverse (states_of number over') ++ reverse (take (kept - (k - length over)) base) ≡ drop k (reverse (states_of number over) ++ reverse (take kept base))
cut_below number over over' base kept k le past lt e =
    let len : length (states_of number over) ≡ length over = length-map over (λ q. number q.0) in
    ap (λ l. reverse (states_of number l) ++ reverse (take (kept - (k - length over)) base)) e
    ∙ sym (drop_past (states_of number over) (reverse (take kept base)) k (omega (arith, len, past)) ∙ ap (λ j. drop (k - j) (reverse (take kept base))) len ∙ keep_fewer base kept (k - length over) le lt)

-- how many states there are
pub height_is : {S : Type 0} (number : S → ℕ) (over base : List (StIdx S)) (kept : ℕ) → kept ≤ length base → length (reverse (states_of number over) ++ reverse (take kept (states_of number base))) ≡ length over + kept
height_is number over base kept le =
    omega (arith, length-append (reverse (states_of number over)) (reverse (take kept (states_of number base))), length-reverse (states_of number over), length-map over (λ q. number q.0), length-reverse (take kept (states_of number base)), length-take kept (states_of number base), length-map base (λ q. number q.0), le)

first_drop : (k : ℕ) (ss : List ℕ) (q : ℕ) → first_of (drop k ss) ≡ Some q → slice_get ss k ≡ Some q
first_drop zero [] q e = cc
first_drop (suc k) [] q e = cc
first_drop zero (s ∷ ss) q e = e
first_drop (suc k) (s ∷ ss) q e = first_drop k ss q e

-- an entry of the stack is a state
pub entry_in : (v : TableValue) (k : ℕ) (ss : List ℕ) (q : ℕ) → AreStates v ss → first_of (drop k ss) ≡ Some q → q < v.states
entry_in v k ss q are e = are.each k q (first_drop k ss q e)

-- there are so many
pub enough : (k : ℕ) (ss : List ℕ) (q : ℕ) → first_of (drop k ss) ≡ Some q → k < length ss
enough zero [] q e = cc
enough (suc k) [] q e = cc
enough zero (s ∷ ss) q e = omega arith
enough (suc k) (s ∷ ss) q e = let h = enough k ss q e in omega (arith, h)

drop_get : (k j : ℕ) (ss : List ℕ) (r : ℕ) → slice_get (drop k ss) j ≡ Some r → slice_get ss (k + j) ≡ Some r
drop_get zero j ss r e = let n : j ≡ 0 + j = omega arith in subst (λ i. slice_get ss i ≡ Some r) n e
drop_get (suc k) j [] r e = cc
drop_get (suc k) j (s ∷ ss) r e = let n : suc (k + j) ≡ suc k + j = omega arith in subst (λ i. slice_get (s ∷ ss) i ≡ Some r) n (drop_get k j ss r e)

pub are_replaced : (v : TableValue) (k : ℕ) (ss : List ℕ) (q : ℕ) → AreStates v ss → q < v.states → AreStates v (q ∷ drop k ss)
are_replaced v k ss q are lt = record { each = by }
  where
    by : (j r : ℕ) → slice_get (q ∷ drop k ss) j ≡ Some r → r < v.states
    by zero r e = let same : q ≡ r = cc in omega (arith, same, lt)
    by (suc j) r e = are.each (k + j) r (drop_get k j ss r e)

module _ (G : Grammar) (a : Automaton) (t : ℕ) where
  -- the action at the top
  pub top_is : (ss : List ℕ) (top : ℕ) → first_of ss ≡ Some top → action_on a t ss ≡ a.action top t
  top_is [] top e = cc
  top_is (s ∷ ss) top e = let same : s ≡ top = cc in ap (λ j. a.action j t) same

  -- a reduction, by the action at the top
  pub reduction_on : (ss : List ℕ) (k : Action) → action_on a t ss ≡ k → reduction G a t ss ≡ reduce_by G a k ss
  reduction_on [] k e = subst (λ j. None ≡ reduce_by G a j []) e refl
  reduction_on (s ∷ ss) k e = ap (λ j. reduce_by G a j (s ∷ ss)) e

  push_first : (p : ℕ) (ss : List ℕ) (below : ℕ) → first_of ss ≡ Some below → goto_from G a p ss ≡ push_goto (a.goto below (head_of G p)) ss
  push_first p [] below e = cc
  push_first p (s ∷ ss) below e = let same : s ≡ below = cc in ap (λ j. push_goto (a.goto j (head_of G p)) (s ∷ ss)) same

  push_none : (p : ℕ) (ss : List ℕ) → first_of ss ≡ None → goto_from G a p ss ≡ None
  push_none p [] e = refl
  push_none p (s ∷ ss) e = cc

  pub reduces_to : (ss : List ℕ) (top p n below : ℕ) → first_of ss ≡ Some top → a.action top t ≡ reduce p → n ≡ length (body_of G p) → first_of (drop n ss) ≡ Some below →
      reduction G a t ss ≡ push_goto (a.goto below (head_of G p)) (drop n ss)
  reduces_to ss top p n below is cell count e =
      reduction_on ss (reduce p) (top_is ss top is ∙ cell) ∙ ap (λ j. goto_from G a p (drop j ss)) (sym count) ∙ push_first p (drop n ss) below e

  pub reduces_not : (ss : List ℕ) (top p n : ℕ) → first_of ss ≡ Some top → a.action top t ≡ reduce p → n ≡ length (body_of G p) → first_of (drop n ss) ≡ None → reduction G a t ss ≡ None
  reduces_not ss top p n is cell count e =
      reduction_on ss (reduce p) (top_is ss top is ∙ cell) ∙ ap (λ j. goto_from G a p (drop j ss)) (sym count) ∙ push_none p (drop n ss) e

  pub no_top : (ss : List ℕ) → first_of ss ≡ None → reduction G a t ss ≡ None
  no_top [] e = refl
  no_top (s ∷ ss) e = cc
