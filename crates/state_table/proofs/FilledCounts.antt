-- How many cells and gotos are filled.
use Rattle.std.proofs.Common.{◌≡◌, ℕ, suc, ◌+◌, ◌*◌, ◌^◌, ◌<◌, ◌≤◌, Bool, true, false, cond, List, [], ◌∷◌, length, get_or, map, filter, Option, refl, sym, ap, ◌∙◌, subst, arith}
use Rattle.std.specs.Prelude.{is_some, count_by}
use Rattle.std.specs.List.{range_with_len, fold, sum_by}
use Rattle.std.proofs.Math.Nat.{suc-mul}
use Rattle.std.proofs.lemmas.List.{length-map, get_or_default}
use Rattle.std.proofs.lemmas.List.FromFn.{length-map-range_with_len}
use Rattle.std.proofs.lemmas.List.Sums.{length-filter, count_by-le-length}
use Rattle.lr_theory.specs.Automaton.{Action}
use Rattle.state_table.specs.Rows.{at_of}
use Rattle.state_table.specs.SparseRows.{or_error, SparseTable, IsSparse, IsCellRow, IsTargetRow, full_cells, full_targets}
use Rattle.state_table.specs.TableValues.{is_filled}
use Rattle.state_table.proofs.KeptNumbers.{kept_numbers}
use Rattle.state_table.proofs.ReducingRows.{is_filled_other}

length_cond : {X Y : Type 0} (b : Bool) (x : X) (y : Y) (l : List X) (m : List Y) → length l ≡ length m → length (cond b (x ∷ l) l) ≡ length (cond b (y ∷ m) m)
length_cond true x y l m e = ap suc e
length_cond false x y l m e = e

length_filter_map : {X Y : Type 0} (p : Y → Bool) (f : X → Y) (xs : List X) → length (filter p (map f xs)) ≡ length (filter (λ x. p (f x)) xs)
length_filter_map p f [] = refl
length_filter_map p f (x ∷ xs) = length_cond (p (f x)) (f x) x (filter p (map f xs)) (filter (λ x. p (f x)) xs) (length_filter_map p f xs)

filter_all : {X : Type 0} (p : X → Bool) (xs : List X) → ((i : ℕ) (d : X) → i < length xs → p (get_or xs i d) ≡ true) → filter p xs ≡ xs
filter_all p [] h = refl
filter_all p (x ∷ xs) h = ap (λ b. cond b (x ∷ filter p xs) (filter p xs)) (h 0 x (omega arith)) ∙ ap (λ l. x ∷ l) (filter_all p xs (λ i d w. h (suc i) d (omega (arith, w))))

pub count_cells : (n : ℕ) (row : List (ℕ × Action)) → IsCellRow n row → count_by is_filled (full_cells n row) ≡ length row
count_cells n row is =
    let P : Option Action → Bool = λ o. is_filled (or_error o) in
    let keeps : ℕ × Action → Bool = λ e. is_filled e.1 in
    sym (length-filter is_filled (full_cells n row))
    ∙ (length_filter_map is_filled (λ (t : ℕ). or_error (at_of row t)) (range_with_len 0 n)
    ∙ (ap (λ (l : List ℕ). length l) (kept_numbers P refl n 0 row is.rises (λ i d w. omega arith) (λ i d w. (let b = is.below i d w in omega (arith, b))))
    ∙ (length-map (filter keeps row) (λ (e : ℕ × Action). e.0)
    ∙ ap (λ (l : List (ℕ × Action)). length l) (filter_all keeps row (λ i d w. is_filled_other (get_or row i d).1 (is.filled i d w))))))

pub count_targets : (n : ℕ) (row : List (ℕ × ℕ)) → IsTargetRow n row → count_by is_some (full_targets n row) ≡ length row
count_targets n row is =
    let P : Option ℕ → Bool = λ o. is_some o in
    let keeps : ℕ × ℕ → Bool = λ e. true in
    sym (length-filter is_some (full_targets n row))
    ∙ (length_filter_map is_some (λ (A : ℕ). at_of row A) (range_with_len 0 n)
    ∙ (ap (λ (l : List ℕ). length l) (kept_numbers P refl n 0 row is.rises (λ i d w. omega arith) (λ i d w. (let b = is.below i d w in omega (arith, b))))
    ∙ (length-map (filter keeps row) (λ (e : ℕ × ℕ). e.0)
    ∙ ap (λ (l : List (ℕ × ℕ)). length l) (filter_all keeps row (λ i d w. refl)))))

pub cells_within : (n : ℕ) (row : List (ℕ × Action)) → IsCellRow n row → length row ≤ n
cells_within n row is =
    let a = count_cells n row is in
    let b = count_by-le-length is_filled (full_cells n row) in
    let c = length-map-range_with_len (λ (t : ℕ). or_error (at_of row t)) 0 n in
    omega (arith, a, b, c)

pub targets_within : (n : ℕ) (row : List (ℕ × ℕ)) → IsTargetRow n row → length row ≤ n
targets_within n row is =
    let a = count_targets n row is in
    let b = count_by-le-length is_some (full_targets n row) in
    let c = length-map-range_with_len (λ (A : ℕ). at_of row A) 0 n in
    omega (arith, a, b, c)

-- sums over two lists, term by term
module _ {X Y : Type 0} (f : X → ℕ) (g : Y → ℕ) (h : X → Y) where
  fold_same : (a : ℕ) (xs : List X) → ((i : ℕ) (d : X) → i < length xs → g (h (get_or xs i d)) ≡ f (get_or xs i d)) → fold (λ b y. b + g y) a (map h xs) ≡ fold (λ b x. b + f x) a xs
  fold_same a [] e = refl
  fold_same a (x ∷ xs) e = ap (λ (b : ℕ). fold (λ c y. c + g y) b (map h xs)) (ap (λ (k : ℕ). a + k) (e 0 x (omega arith))) ∙ fold_same (a + f x) xs (λ i d w. e (suc i) d (omega (arith, w)))

  pub sum_same : (xs : List X) → ((i : ℕ) (d : X) → i < length xs → g (h (get_or xs i d)) ≡ f (get_or xs i d)) → sum_by g (map h xs) ≡ sum_by f xs
  sum_same xs e = fold_same 0 xs e

module _ {X : Type 0} (f : X → ℕ) (n : ℕ) where
  fold_within : (a : ℕ) (xs : List X) → ((i : ℕ) (d : X) → i < length xs → f (get_or xs i d) ≤ n) → fold (λ b x. b + f x) a xs ≤ a + length xs * n
  fold_within a [] h = omega arith
  fold_within a (x ∷ xs) h =
      let rest = fold_within (a + f x) xs (λ i d w. h (suc i) d (omega (arith, w))) in
      let one = h 0 x (omega arith) in
      let s = suc-mul (length xs) n in
      omega (arith, rest, one, s)

  pub sum_within : (xs : List X) → ((i : ℕ) (d : X) → i < length xs → f (get_or xs i d) ≤ n) → sum_by f xs ≤ length xs * n
  sum_within xs h = let k = fold_within 0 xs h in omega (arith, k)

-- the sums of a table
module _ (T : SparseTable) (is : IsSparse T) where
  row_is : (i : ℕ) (d : List (ℕ × Action)) → i < length T.actions → IsCellRow T.tokens (get_or T.actions i d)
  row_is i d w = let n = is.actions in subst (IsCellRow T.tokens) (get_or_default T.actions i [] d w) (is.rows i (omega (arith, n, w)))

  target_is : (i : ℕ) (d : List (ℕ × ℕ)) → i < length T.gotos → IsTargetRow T.rules (get_or T.gotos i d)
  target_is i d w = let n = is.gotos in subst (IsTargetRow T.rules) (get_or_default T.gotos i [] d w) (is.targets i (omega (arith, n, w)))

  pub cells_counted : sum_by (λ (row : List Action). count_by is_filled row) (map (full_cells T.tokens) T.actions) ≡ sum_by (λ (row : List (ℕ × Action)). length row) T.actions
  cells_counted = sum_same (λ (row : List (ℕ × Action)). length row) (λ (row : List Action). count_by is_filled row) (full_cells T.tokens) T.actions (λ i d w. count_cells T.tokens (get_or T.actions i d) (row_is i d w))

  pub targets_counted : sum_by (λ (row : List (Option ℕ)). count_by is_some row) (map (full_targets T.rules) T.gotos) ≡ sum_by (λ (row : List (ℕ × ℕ)). length row) T.gotos
  targets_counted = sum_same (λ (row : List (ℕ × ℕ)). length row) (λ (row : List (Option ℕ)). count_by is_some row) (full_targets T.rules) T.gotos (λ i d w. count_targets T.rules (get_or T.gotos i d) (target_is i d w))

  pub sums_fit : sum_by (λ (row : List (ℕ × Action)). length row) T.actions + sum_by (λ (row : List (ℕ × ℕ)). length row) T.gotos < 2 ^ 64
  sums_fit =
      let a = sum_within (λ (row : List (ℕ × Action)). length row) T.tokens T.actions (λ i d w. cells_within T.tokens (get_or T.actions i d) (row_is i d w)) in
      let b = sum_within (λ (row : List (ℕ × ℕ)). length row) T.rules T.gotos (λ i d w. targets_within T.rules (get_or T.gotos i d) (target_is i d w)) in
      let m = ap (λ (k : ℕ). k * T.tokens) is.actions in
      let n = ap (λ (k : ℕ). k * T.rules) is.gotos in
      let r = is.room in
      omega (arith, a, b, m, n, r)
