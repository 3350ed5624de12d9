-- Numbers that are marked, and what is so of those that aren't.
use Rattle.std.proofs.Common.{◌≡◌, ℕ, zero, suc, ◌+◌, ◌-◌, ◌<◌, ◌≤◌, min, inl, inr, Bool, true, false, cond, List, [], ◌∷◌, length, set, replicate, refl, sym, ap, ◌∙◌, subst, arith, get_or-set_same, get_or-set_other, length-set}
use Rattle.std.specs.List.{filter, range_with_len}
use Rattle.std.specs.declared.ops.Bound.TheVariants.{Unbounded}
use Rattle.std.proofs.lemmas.Bool.{cases_eq}
use Rattle.std.proofs.lemmas.List.{length-replicate, get_or-replicate}
use Rattle.vob.specs.Sets.{is_set}
use Rattle.vob.proofs.Bits.{join, joined, length-bitwise}
use Rattle.vob.specs.Walk.{has_item, indices_of, walk}
use Rattle.state_table.specs.Marks.{LeavesOut}

-- ---- marking

differ : true ≡ false → ⊥
differ e = cc

unset : (b : Bool) → (b ≡ true → ⊥) → b ≡ false
unset true h = absurd (h refl)
unset false h = refl

set_not : (b : Bool) → b ≡ false → b ≡ true → ⊥
set_not true e f = differ e
set_not false e f = differ (sym f)

pub none_left : (P : ℕ → Type 0) (marks : List Bool) → ((n : ℕ) → n < length marks → is_set marks n ≡ false → P n) → LeavesOut P marks marks
none_left P marks h = record { width = refl; before = λ n lt e. e; rest = h }

pub leaves_set : (marks new tokens : List Bool) → length tokens ≡ length marks → new ≡ join marks tokens → LeavesOut (λ t. is_set tokens t ≡ false) marks new
leaves_set marks new tokens len e = record {
  width = ap length e ∙ length-bitwise _ marks tokens (sym len);
  before = λ n lt u. unset (is_set marks n) (λ h. set_not (is_set new n) u (ap (λ l. is_set l n) e ∙ (joined marks tokens n (sym len)).1 (inl h)));
  rest = λ n lt u. unset (is_set tokens n) (λ h. set_not (is_set new n) u (ap (λ l. is_set l n) e ∙ (joined marks tokens n (sym len)).1 (inr h)));
}

pub leaves_none : (P : ℕ → Type 0) (marks new : List Bool) → new ≡ replicate (length marks) true → LeavesOut P marks new
leaves_none P marks new e = record {
  width = ap length e ∙ length-replicate (length marks) true;
  before = λ n lt u. absurd (set_not (is_set new n) u (all n lt));
  rest = λ n lt u. absurd (set_not (is_set new n) u (all n lt));
}
  where
    all : (n : ℕ) → n < length marks → is_set new n ≡ true
    all n lt = ap (λ l. is_set l n) e ∙ get_or-replicate (length marks) n true false lt

pub leaves_one : (marks new : List Bool) (k : ℕ) → k < length marks → new ≡ set marks k true → LeavesOut (λ n. n ≡ k → ⊥) marks new
leaves_one marks new k lt e = record {
  width = ap length e ∙ length-set marks k true;
  before = λ n l u. elim (cases_eq n k) [
    | inl q ↦ absurd (set_not (is_set new n) u (here n q))
    | inr ne ↦ sym (get_or-set_other marks k n true false ne) ∙ (sym (ap (λ l. is_set l n) e) ∙ u)
  ];
  rest = λ n l u q. set_not (is_set new n) u (here n q);
}
  where
    here : (n : ℕ) → n ≡ k → is_set new n ≡ true
    here n q = ap (λ l. is_set l n) e ∙ (ap (λ m. is_set (set marks k true) m) q ∙ get_or-set_same marks k true false lt)

pub leaves_past : (marks : List Bool) (k : ℕ) → length marks ≤ k → LeavesOut (λ n. n ≡ k → ⊥) marks marks
leaves_past marks k le = none_left (λ n. n ≡ k → ⊥) marks (λ n lt u q. omega (arith, le, lt, q))

-- one after another
pub leaves_both : (P Q R : ℕ → Type 0) (a b c : List Bool) → LeavesOut P a b → LeavesOut Q b c → ((n : ℕ) → P n → Q n → R n) → LeavesOut R a c
leaves_both P Q R a b c h k f = record {
  width = k.width ∙ h.width;
  before = λ n lt u. h.before n lt (k.before n (subst (λ m. n < m) (sym h.width) lt) u);
  rest = λ n lt u. (let l = subst (λ m. n < m) (sym h.width) lt in f n (h.rest n lt (k.before n l u)) (k.rest n l u));
}

-- ---- going over the marks

-- the marked numbers from n on
abbrev pub marked_from : List Bool → ℕ → List ℕ
marked_from marks n = indices_of true marks n (length marks)

pub all_marked : (marks : List Bool) (left : List ℕ) → left ≡ walk true marks Unbounded Unbounded → left ≡ marked_from marks 0
all_marked marks left e = let m : min (length marks) (length marks) ≡ length marks = omega arith in e ∙ ap (indices_of true marks 0) m

-- k is the first of those from n on that pass
record IsNext (p : ℕ → Bool) (n len k : ℕ) (rest : List ℕ) : Type 0 where
  low : n ≤ k
  below : k < n + len
  here : p k ≡ true
  none : (j : ℕ) → n ≤ j → j < k → p j ≡ false
  left : rest ≡ filter p (range_with_len (k + 1) (n + len - (k + 1)))

next_at : (p : ℕ → Bool) (len n k : ℕ) (left : List ℕ) → filter p (range_with_len n len) ≡ k ∷ left → IsNext p n len k left
next_at p zero n k left e = cc
next_at p (suc len) n k left e = by_test (p n) refl e (next_at p len (n + 1) k left)
  where
    by_test : (b : Bool) → p n ≡ b → cond b (n ∷ filter p (range_with_len (n + 1) len)) (filter p (range_with_len (n + 1) len)) ≡ k ∷ left →
        (filter p (range_with_len (n + 1) len) ≡ k ∷ left → IsNext p (n + 1) len k left) → IsNext p n (suc len) k left
    by_test true t f more =
        let h : n ≡ k = cc in
        let rest : filter p (range_with_len (n + 1) len) ≡ left = cc in
        let a : n + 1 ≡ k + 1 = omega (arith, h) in
        let b : len ≡ n + suc len - (k + 1) = omega (arith, h) in
        record {
          low = omega (arith, h);
          below = omega (arith, h);
          here = ap p (sym h) ∙ t;
          none = λ j l u. absurd (omega (arith, h, l, u));
          left = sym rest ∙ (ap (λ m. filter p (range_with_len m len)) a ∙ ap (λ m. filter p (range_with_len (k + 1) m)) b);
        }
    by_test false t f more =
        let r = more f in
        let low = r.low in
        let below = r.below in
        let b : n + 1 + len - (k + 1) ≡ n + suc len - (k + 1) = omega arith in
        record {
          low = omega (arith, low);
          below = omega (arith, below);
          here = r.here;
          none = λ j l u. elim (cases_eq j n) [ inl q ↦ ap p q ∙ t | inr ne ↦ r.none j (omega (arith, l, ne)) u ];
          left = r.left ∙ ap (λ m. filter p (range_with_len (k + 1) m)) b;
        }

none_at : (p : ℕ → Bool) (len n : ℕ) → filter p (range_with_len n len) ≡ [] → (j : ℕ) → n ≤ j → j < n + len → p j ≡ false
none_at p zero n e j l u = absurd (omega (arith, l, u))
none_at p (suc len) n e j l u = by_test (p n) refl e (none_at p len (n + 1))
  where
    by_test : (b : Bool) → p n ≡ b → cond b (n ∷ filter p (range_with_len (n + 1) len)) (filter p (range_with_len (n + 1) len)) ≡ [] →
        (filter p (range_with_len (n + 1) len) ≡ [] → (i : ℕ) → n + 1 ≤ i → i < n + 1 + len → p i ≡ false) → p j ≡ false
    by_test true t f more = cc
    by_test false t f more = elim (cases_eq j n) [ inl q ↦ ap p q ∙ t | inr ne ↦ more f j (omega (arith, l, ne)) (omega (arith, u)) ]

-- k is the next marked number from n on
pub record IsNextMark (marks : List Bool) (n k : ℕ) (rest : List ℕ) : Type 0 where
  pub low : n ≤ k
  pub below : k < length marks
  pub here : is_set marks k ≡ true
  pub none : (j : ℕ) → n ≤ j → j < k → is_set marks j ≡ false
  pub left : rest ≡ marked_from marks (k + 1)

pub next_mark : (marks : List Bool) (n k : ℕ) (old left : List ℕ) → n ≤ length marks → old ≡ marked_from marks n → old ≡ k ∷ left → IsNextMark marks n k left
next_mark marks n k old left le e f =
    let r = next_at (has_item true marks) (length marks - n) n k left (sym e ∙ f) in
    let below = r.below in
    let b : n + (length marks - n) - (k + 1) ≡ length marks - (k + 1) = omega (arith, le) in
    record {
      low = r.low;
      below = omega (arith, below, le);
      here = r.here;
      none = r.none;
      left = r.left ∙ ap (λ m. filter (has_item true marks) (range_with_len (k + 1) m)) b;
    }

pub no_mark : (marks : List Bool) (n : ℕ) (old : List ℕ) → n ≤ length marks → old ≡ marked_from marks n → old ≡ [] → (j : ℕ) → n ≤ j → j < length marks → is_set marks j ≡ false
no_mark marks n old le e f j l u = none_at (has_item true marks) (length marks - n) n (sym e ∙ f) j l (omega (arith, l, u, le))
