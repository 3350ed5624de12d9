-- Sequences of few edits.
use Rattle.std.proofs.Common.{◌≤◌, ◌<◌, ◌-◌, ℕ, List, [], ◌∷◌, ◌++◌, length, arith}
use Rattle.std.specs.List.{AllByRecursion}
use Rattle.lr_theory.specs.Repair.{Edit}
use Rattle.repair_search.specs.FewEdits.{AreFew, edits_in}

all_more : {X : Type 0} (P : X → Type 0) (xs : List X) (x : X) → AllByRecursion P xs → P x → AllByRecursion P (xs ++ x ∷ [])
all_more P [] x all p = (p, tt)
all_more P (y ∷ ys) x all p = (all.0, all_more P ys x all.1 p)

len_more : {X : Type 0} (xs : List X) (x : X) (n : ℕ) → length xs < n → length (xs ++ x ∷ []) ≤ n
len_more [] x n lt = omega (arith, lt)
len_more (y ∷ ys) x n lt = let r = len_more ys x (n - 1) (omega (arith, lt)) in omega (arith, r, lt)

-- one more sequence
pub few_more : (n : ℕ) (xs : List (List Edit)) (es : List Edit) → AreFew n xs → length xs < 8 → edits_in es ≤ n → AreFew n (xs ++ es ∷ [])
few_more n xs es few lt le = record { count = len_more xs es 8 lt; each = all_more (λ x. edits_in x ≤ n) xs es few.each le }
