-- A row skips tokens in whose cells nothing stands.
use Rattle.std.proofs.Common.{◌≡◌, ℕ, zero, suc, ◌+◌, ◌<◌, ◌≤◌, inl, inr, Bool, false, ◌&&◌, nat_eq, true, cond, List, [], ◌∷◌, ◌++◌, length, get_or, take, Option, Some, None, sym, ap, ◌∙◌, arith, append-nil, ne_eqb}
use Rattle.std.proofs.lemmas.Bool.{cases_eq, cases_lt}
use Rattle.std.proofs.lemmas.List.{map_more}
use Rattle.cfg_theory.specs.Grammar.{Grammar, end_token}
use Rattle.table_theory.specs.Cells.{Precedences, cell_by, pairs_at, shifts_at, gathered}
use Rattle.state_table.specs.CellRows.{PartsValue, IsBlank, cells_by, filled, pairs_on, reductions_on, shifts_on}
use Rattle.state_table.specs.CellViews.{targets_of}
use Rattle.state_table.specs.Cursors.{IsCursor}
use Rattle.state_table.specs.declared.stidx.StIdx.{StIdx}
use Rattle.state_table.specs.Rows.{Rises, at_of}
use Rattle.state_table.proofs.RowsAt.{at_index}

-- nothing is gathered of numbers that have nothing
pub gathered_skip : {A : Type 0} (f : ℕ → List A) (n m : ℕ) → n ≤ m → ((k : ℕ) → n ≤ k → k < m → f k ≡ []) → gathered f m ≡ gathered f n
gathered_skip f n zero le h = let e : zero ≡ n = omega (arith, le) in ap (gathered f) e
gathered_skip f n (suc m) le h = elim (cases_eq n (suc m)) [
  | inl e ↦ ap (gathered f) (sym e)
  | inr ne ↦
      (let l : n ≤ m = omega (arith, le, ne) in
      ap (λ xs. gathered f m ++ xs) (h m l (omega arith)) ∙ (append-nil (gathered f m) ∙ gathered_skip f n m l (λ k a b. h k a (omega (arith, b)))))
]

pub grown_skip : {A : Type 0} (f : ℕ → List A) (before old : List A) (n m : ℕ) → n ≤ m → ((k : ℕ) → n ≤ k → k < m → f k ≡ []) → old ≡ before ++ gathered f n → old ≡ before ++ gathered f m
grown_skip f before old n m le h e = e ∙ ap (λ l. before ++ l) (sym (gathered_skip f n m le h))

-- a cursor goes past numbers at which nothing stands
pub cursor_skip : (row : List (ℕ × ℕ)) (index n m : ℕ) → Rises row → n ≤ m → ((k : ℕ) → n ≤ k → k < m → at_of row k ≡ None) → IsCursor row index n → IsCursor row index m
cursor_skip row index n m up le h is = record {
  before = λ i d lt w. (let b = is.before i d lt w in omega (arith, b, le));
  rest = λ i d ge w. elim (cases_lt (get_or row i d).0 m) [
    | inl l ↦ absurd (nowhere (h (get_or row i d).0 (is.rest i d ge w) l) (at_index row i d up w))
    | inr g ↦ g
  ];
}
  where
    nowhere : {o : Option ℕ} {v : ℕ} → o ≡ None → o ≡ Some v → ⊥
    nowhere e f = cc

-- an edge on another token
other : (b : Bool) (v : ℕ) (o p : Option ℕ) → cond b (Some v) o ≡ None → (o ≡ None → p ≡ None) → cond b (Some v) p ≡ None
other true v o p e f = cc
other false v o p e f = f e

at_none : (row : List (ℕ × ℕ)) (y : ℕ × ℕ) (n : ℕ) → at_of row n ≡ None → (n ≡ y.0 → ⊥) → at_of (row ++ y ∷ []) n ≡ None
at_none [] y n e ne = ap (λ b. cond b (Some y.1) None) (ne_eqb y.0 n (λ q. ne (sym q)))
at_none (x ∷ row) y n e ne = other (nat_eq x.0 n) x.1 (at_of row n) (at_of (row ++ y ∷ []) n) e (λ f. at_none row y n f ne)

pub edge_more : {S : Type 0} (number : S → ℕ) (xs : List (ℕ × StIdx S)) (i n : ℕ) (x : ℕ × StIdx S) → i < length xs → x ≡ get_or xs i x → at_of (targets_of number (take i xs)) n ≡ None → (n ≡ x.0 → ⊥) → at_of (targets_of number (take (i + 1) xs)) n ≡ None
edge_more {S} number xs i n x lt at e ne =
    let f : ℕ × StIdx S → ℕ × ℕ = λ k. (k.0, number k.1.0) in
    ap (λ l. at_of l n) (map_more f xs i x lt ∙ ap (λ y. targets_of number (take i xs) ++ f y ∷ []) (sym at)) ∙ at_none (targets_of number (take i xs)) (f x) n e ne

-- a token at which nothing stands
module _ (G : Grammar) (precedences : Precedences) (x : PartsValue) (s t : ℕ) (blank : IsBlank G x t) where
  pub blank_cell : filled t (cells_by G precedences x t) ≡ []
  blank_cell =
      let a = precedences.of_token t in
      let b = precedences.of_production in
      let e : nat_eq t (end_token G) ≡ false = ne_eqb t (end_token G) blank.no_end in
      ap (λ (h : Bool). filled t (cell_by (h && x.accepts) (reductions_on x.reductions t) (at_of x.shifts t) a b)) e
      ∙ (ap (λ (rs : List ℕ). filled t (cell_by false rs (at_of x.shifts t) a b)) blank.reductions ∙ ap (λ (o : Option ℕ). filled t (cell_by false [] o a b)) blank.edge)

  pub blank_pairs : pairs_on s x t ≡ []
  blank_pairs = ap (pairs_at s t) blank.reductions

  pub blank_shifts : shifts_on precedences s x t ≡ []
  blank_shifts = ap (λ (rs : List ℕ). shifts_at s t rs (at_of x.shifts t) (precedences.of_token t) precedences.of_production) blank.reductions
