-- Edges in the order of their symbols.
use Rattle.std.proofs.Common.{◌≡◌, ℕ, zero, suc, ◌+◌, ◌<◌, ◌≤◌, ⊎_elim, Bool, true, false, cond, List, [], ◌∷◌, length, get_or, Option, Some, None, refl, sym, ap, ◌∙◌, subst, arith}
use Rattle.std.specs.Prelude.{slice_get}
use Rattle.std.proofs.lemmas.Bool.{cases_lt}
use Rattle.std.proofs.lemmas.Bool.Decides.{nat_tests}
use Rattle.std.proofs.lemmas.Option.{get_or_from_slice_get, slice_get_past, slice_get_within, some_pair_parts, same_Some}
use Rattle.cfg_theory.specs.Grammar.{Sym, rule, token}
use Rattle.lr_theory.specs.Building.{same_symbol}
use Rattle.state_table.specs.Graphs.{AreInOrder, target_in, SymBefore}
use Rattle.lrpar.specs.Fitting.{LeastNot, Passed, StopsBefore, NoneBad, TellsBad}

same_self : (X : Sym) → same_symbol X X ≡ true
same_self (rule A) = grind (arith, nat_tests)
same_self (token t) = grind (arith, nat_tests)

same_is : (X Y : Sym) → same_symbol X Y ≡ true → X ≡ Y
same_is (rule A) (rule B) e = let q : A ≡ B = grind (arith, nat_tests) in ap rule q
same_is (token t) (token u) e = let q : t ≡ u = grind (arith, nat_tests) in ap token q
same_is (rule A) (token u) e = cc
same_is (token t) (rule B) e = cc

pub not_self : (X : Sym) → SymBefore X X → ⊥
not_self (rule A) h = omega (arith, h)
not_self (token t) h = omega (arith, h)

pub before_trans : (X Y Z : Sym) → SymBefore X Y → SymBefore Y Z → SymBefore X Z
before_trans (rule A) (rule B) (rule C) h k = omega (arith, h, k)
before_trans (rule A) (rule B) (token v) h k = tt
before_trans (rule A) (token u) (rule C) h k = absurd k
before_trans (rule A) (token u) (token v) h k = tt
before_trans (token t) (rule B) Z h k = absurd h
before_trans (token t) (token u) (rule C) h k = absurd k
before_trans (token t) (token u) (token v) h k = omega (arith, h, k)

pub order_at : (es : List (Sym × ℕ)) (i j : ℕ) (e f : Sym × ℕ) → AreInOrder es → slice_get es i ≡ Some e → slice_get es j ≡ Some f → i < j → SymBefore e.0 f.0
order_at es i j e f a hi hj lt =
    let within = slice_get_within es j f hj in
    let h = a i j e lt within in
    subst (λ (x : Sym × ℕ). SymBefore x.0 f.0) (get_or_from_slice_get es i e e hi) (subst (λ (y : Sym × ℕ). SymBefore (get_or es i e).0 y.0) (get_or_from_slice_get es j f e hj) h)

found_step : (e : Sym × ℕ) (es : List (Sym × ℕ)) (X : Sym) (q : ℕ) (b : Bool) → same_symbol X e.0 ≡ b → (target_in es X ≡ Some q → (k : ℕ) × (slice_get es k ≡ Some (X, q))) → cond b (Some e.1) (target_in es X) ≡ Some q → (k : ℕ) × (slice_get (e ∷ es) k ≡ Some (X, q))
found_step e es X q true t later h =
    let s = same_is X e.0 t in
    let u = same_Some e.1 q h in
    (0, ap (λ (y : Sym). Some (y, e.1)) (sym s) ∙ ap (λ (n : ℕ). Some (X, n)) u)
found_step e es X q false t later h = let f = later h in (suc f.0, f.1)

-- an edge that is found stands somewhere
pub found_edge : (es : List (Sym × ℕ)) (X : Sym) (q : ℕ) → target_in es X ≡ Some q → (k : ℕ) × (slice_get es k ≡ Some (X, q))
found_edge [] X q h = cc
found_edge (e ∷ es) X q h = found_step e es X q (same_symbol X e.0) refl (found_edge es X q) h

some_step : (e : Sym × ℕ) (es : List (Sym × ℕ)) (X : Sym) (b : Bool) → same_symbol X e.0 ≡ b → (target_in es X ≡ None → ⊥) → cond b (Some e.1) (target_in es X) ≡ None → ⊥
some_step e es X true t later h = cc
some_step e es X false t later h = later h

some_target : (es : List (Sym × ℕ)) (k : ℕ) (X : Sym) (q : ℕ) → slice_get es k ≡ Some (X, q) → target_in es X ≡ None → ⊥
some_target [] k X q at h = cc
some_target (e ∷ es) zero X q at h =
    let s : e ≡ (X, q) = same_Some e (X, q) at in
    let t : same_symbol X e.0 ≡ true = ap (λ (x : Sym × ℕ). same_symbol X x.0) s ∙ same_self X in
    cc (sym (ap (λ b. cond b (Some e.1) (target_in es X)) t) ∙ h)
some_target (e ∷ es) (suc k) X q at h = some_step e es X (same_symbol X e.0) refl (some_target es k X q at) h

by_target : (es : List (Sym × ℕ)) (k : ℕ) (X : Sym) (q : ℕ) (o : Option ℕ) → AreInOrder es → slice_get es k ≡ Some (X, q) → target_in es X ≡ o → target_in es X ≡ Some q
by_target es k X q None a at h = absurd (some_target es k X q at h)
by_target es k X q (Some r) a at h =
    let f = found_edge es X r h in
    ⊎_elim
    (λ lt. absurd (not_self X (order_at es f.0 k (X, r) (X, q) a f.1 at lt)))
    (λ le. ⊎_elim
    (λ lt. absurd (not_self X (order_at es k f.0 (X, q) (X, r) a at f.1 lt)))
    (λ ge.
    let s : f.0 ≡ k = omega (arith, le, ge) in
    let same : Some (X, r) ≡ Some (X, q) = sym f.1 ∙ ap (slice_get es) s ∙ at in
    let parts = some_pair_parts X X r q same in
    h ∙ ap Some parts.1)
    (cases_lt k f.0))
    (cases_lt f.0 k)

-- and one that stands there is found
pub target_of : (es : List (Sym × ℕ)) (k : ℕ) (X : Sym) (q : ℕ) → AreInOrder es → slice_get es k ≡ Some (X, q) → target_in es X ≡ Some q
target_of es k X q a at = by_target es k X q (target_in es X) a at refl

pub passed_none : (es : List (Sym × ℕ)) (X : Sym) → Passed es 0 X
passed_none es X = record { within = omega arith; before = λ k e lt at. absurd (omega (arith, lt)) }

pub passed_more : (es : List (Sym × ℕ)) (X : Sym) (i : ℕ) (e : Sym × ℕ) → Passed es i X → slice_get es i ≡ Some e → SymBefore e.0 X → Passed es (i + 1) X
passed_more es X i e p at h = record {
  within = let w = slice_get_within es i e at in omega (arith, w);
  before = λ k f lt atk. ⊎_elim
      (λ less. p.before k f less atk)
      (λ ge.
      let s : k ≡ i = omega (arith, lt, ge) in
      let same : e ≡ f = same_Some e f (sym at ∙ ap (slice_get es) (sym s) ∙ atk) in
      subst (λ (x : Sym × ℕ). SymBefore x.0 X) same h)
      (cases_lt k i);
}

pub passed_on : (es : List (Sym × ℕ)) (X Y : Sym) (i : ℕ) → SymBefore X Y → Passed es i X → Passed es i Y
passed_on es X Y i h p = record { within = p.within; before = λ k e lt at. before_trans e.0 X Y (p.before k e lt at) h }

pub stops_end : (es : List (Sym × ℕ)) (X : Sym) (i : ℕ) → length es ≤ i → StopsBefore es i X
stops_end es X i le = record { stops = λ e at h. cc (sym at ∙ slice_get_past es i le) }

pub stops_here : (es : List (Sym × ℕ)) (X : Sym) (i : ℕ) (e : Sym × ℕ) → slice_get es i ≡ Some e → (SymBefore e.0 X → ⊥) → StopsBefore es i X
stops_here es X i e at ne = record { stops = λ f atf h. ne (subst (λ (x : Sym × ℕ). SymBefore x.0 X) (same_Some f e (sym atf ∙ at)) h) }

not_past : (es : List (Sym × ℕ)) (i : ℕ) → slice_get es i ≡ None → i < length es → ⊥
not_past [] i e lt = omega (arith, lt)
not_past (x ∷ xs) zero e lt = cc
not_past (x ∷ xs) (suc i) e lt = not_past xs i e (omega (arith, lt))

by_entry : (es : List (Sym × ℕ)) (X : Sym) (q i j : ℕ) → AreInOrder es → StopsBefore es i X → slice_get es j ≡ Some (X, q) → i < j → (o : Option (Sym × ℕ)) → slice_get es i ≡ o → i < length es → ⊥
by_entry es X q i j a s at lt None e there = not_past es i e there
by_entry es X q i j a s at lt (Some x) e there = s.stops x e (order_at es i j x (X, q) a e at lt)

between : (es : List (Sym × ℕ)) (X : Sym) (q i j : ℕ) → AreInOrder es → StopsBefore es i X → slice_get es j ≡ Some (X, q) → i < j → i < length es → ⊥
between es X q i j a s at lt there = by_entry es X q i j a s at lt (slice_get es i) refl there

none_by : (es : List (Sym × ℕ)) (X : Sym) (i : ℕ) (o : Option ℕ) → AreInOrder es → Passed es i X → StopsBefore es i X → ((q : ℕ) → slice_get es i ≡ Some (X, q) → ⊥) → target_in es X ≡ o → target_in es X ≡ None
none_by es X i None a p s ne h = h
none_by es X i (Some q) a p s ne h =
    let f = found_edge es X q h in
    absurd (⊎_elim
    (λ lt. not_self X (p.before f.0 (X, q) lt f.1))
    (λ le. ⊎_elim
    (λ lt.
    let within = slice_get_within es f.0 (X, q) f.1 in
    let there : i < length es = omega (arith, lt, within) in
    between es X q i f.0 a s f.1 lt there)
    (λ ge.
    let same : f.0 ≡ i = omega (arith, le, ge) in
    ne q (ap (slice_get es) (sym same) ∙ f.1))
    (cases_lt i f.0))
    (cases_lt f.0 i))

-- where the place isn't on the symbol, there is no edge on it
pub target_none : (es : List (Sym × ℕ)) (X : Sym) (i : ℕ) → AreInOrder es → Passed es i X → StopsBefore es i X → ((q : ℕ) → slice_get es i ≡ Some (X, q) → ⊥) → target_in es X ≡ None
target_none es X i a p s ne = none_by es X i (target_in es X) a p s ne refl

-- the edges before a place are none that shouldn't be there
abbrev pub ClearTo : List (Sym × ℕ) → (ℕ → Sym) → (ℕ → ℕ → Type 0) → ℕ → Type 0
ClearTo es kind Bad i = (k n q : ℕ) → k < i → slice_get es k ≡ Some (kind n, q) → Bad n q → ⊥

pub clear_none : (es : List (Sym × ℕ)) (kind : ℕ → Sym) (Bad : ℕ → ℕ → Type 0) → ClearTo es kind Bad 0
clear_none es kind Bad k n q lt = absurd (omega (arith, lt))

pub clear_more : (es : List (Sym × ℕ)) (kind : ℕ → Sym) (Bad : ℕ → ℕ → Type 0) (i : ℕ) (e : Sym × ℕ) → ClearTo es kind Bad i → slice_get es i ≡ Some e → TellsBad e kind Bad None → ClearTo es kind Bad (i + 1)
clear_more es kind Bad i e clear at none k n q lt atk bad = ⊎_elim
    (λ less. clear k n q less atk bad)
    (λ ge.
    let s : k ≡ i = omega (arith, lt, ge) in
    none n q (same_Some e (kind n, q) (sym at ∙ ap (slice_get es) (sym s) ∙ atk)) bad)
    (cases_lt k i)

pub clear_end : (es : List (Sym × ℕ)) (kind : ℕ → Sym) (Bad : ℕ → ℕ → Type 0) (i : ℕ) → ClearTo es kind Bad i → length es ≤ i → LeastNot (NoneBad es kind Bad) None
clear_end es kind Bad i clear le n q h bad =
    let f = found_edge es (kind n) q h in
    let w = slice_get_within es f.0 (kind n, q) f.1 in
    clear f.0 n q (omega (arith, w, le)) f.1 bad

module _ (es : List (Sym × ℕ)) (kind : ℕ → Sym) (Bad : ℕ → ℕ → Type 0) (same : (m n : ℕ) → kind m ≡ kind n → m ≡ n) (less : (m n : ℕ) → SymBefore (kind m) (kind n) → m < n) (a : AreInOrder es) where
  pub bad_here : (i n : ℕ) (e : Sym × ℕ) → ClearTo es kind Bad i → slice_get es i ≡ Some e → TellsBad e kind Bad (Some n) → LeastNot (NoneBad es kind Bad) (Some n)
  bad_here i n e clear at t =
      let here : slice_get es i ≡ Some (kind n, t.0) = at ∙ ap Some t.1 in (
        λ none. none t.0 (target_of es i (kind n) t.0 a here) t.2,
        λ m lt q h bad.
            let f = found_edge es (kind m) q h in
            ⊎_elim
            (λ before. clear f.0 m q before f.1 bad)
            (λ ge. ⊎_elim
            (λ after. let k = less n m (order_at es i f.0 (kind n, t.0) (kind m, q) a here f.1 after) in omega (arith, k, lt))
            (λ le.
            let at_same : f.0 ≡ i = omega (arith, ge, le) in
            let parts = some_pair_parts (kind m) (kind n) q t.0 (sym f.1 ∙ ap (slice_get es) at_same ∙ here) in
            let k = same m n parts.0 in omega (arith, k, lt))
            (cases_lt i f.0))
            (cases_lt f.0 i),
      )

pub same_rule : (m n : ℕ) → rule m ≡ rule n → m ≡ n
same_rule m n e = cc

pub same_token : (m n : ℕ) → token m ≡ token n → m ≡ n
same_token m n e = cc

pub less_rule : (m n : ℕ) → SymBefore (rule m) (rule n) → m < n
less_rule m n h = h

pub less_token : (m n : ℕ) → SymBefore (token m) (token n) → m < n
less_token m n h = h
