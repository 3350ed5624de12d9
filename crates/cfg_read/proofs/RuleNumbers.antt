-- Numbers of productions, given to the rules of a list of names.
use Rattle.std.proofs.Common.{◌≡◌, ℕ, zero, suc, ◌+◌, Bool, true, false, List, [], ◌∷◌, ◌++◌, map, length, replicate, if◌then◌else◌, refl, sym, ap, ◌∙◌, arith}
use Rattle.std.specs.Str.{bytes_eq}
use Rattle.std.proofs.lemmas.List.{append_assoc, append-nil}
use Rattle.cfg_read.specs.Asts.{RuleAst, numbers_from}
use Rattle.cfg_read.specs.Judging.{with_numbers_at, count_up}
use Rattle.cfg_read.proofs.RuleLemmas.{with_more}

abbrev with_productions : RuleAst → List ℕ → RuleAst
with_productions r ps = record { name = r.name; productions = ps; action_type = r.action_type }

-- names behind others
numbers_behind : (t : List ℕ) (n : ℕ) (hs gs : List (List ℕ)) → numbers_from t n (hs ++ gs) ≡ numbers_from t n hs ++ numbers_from t (n + length hs) gs
numbers_behind t n [] gs =
    let same : n ≡ n + 0 = omega arith in
    ap (λ m. numbers_from t m gs) same
numbers_behind t n (h ∷ hs) gs = by (bytes_eq h t) (numbers_behind t (suc n) hs gs ∙ ap (λ m. numbers_from t (suc n) hs ++ numbers_from t m gs) next)
  where
    next : suc n + length hs ≡ n + suc (length hs)
    next = omega arith

    by : (b : Bool) → numbers_from t (suc n) (hs ++ gs) ≡ numbers_from t (suc n) hs ++ numbers_from t (n + suc (length hs)) gs
        → (if b then n ∷ numbers_from t (suc n) (hs ++ gs) else numbers_from t (suc n) (hs ++ gs))
        ≡ (if b then n ∷ numbers_from t (suc n) hs else numbers_from t (suc n) hs) ++ numbers_from t (n + suc (length hs)) gs
    by true rest = ap (λ l. n ∷ l) rest
    by false rest = rest

pub at_more : (m n : ℕ) (hs gs : List (List ℕ)) (rs : List RuleAst) → n ≡ m + length hs → map (with_numbers_at n gs) (map (with_numbers_at m hs) rs) ≡ map (with_numbers_at m (hs ++ gs)) rs
at_more m n hs gs [] e = refl
at_more m n hs gs (r ∷ rs) e =
    let t = r.name.text in
    let here : (r.productions ++ numbers_from t m hs) ++ numbers_from t n gs ≡ r.productions ++ numbers_from t m (hs ++ gs) =
    append_assoc r.productions (numbers_from t m hs) (numbers_from t n gs)
    ∙ ap (λ k. r.productions ++ (numbers_from t m hs ++ numbers_from t k gs)) e
    ∙ ap (λ l. r.productions ++ l) (sym (numbers_behind t m hs gs)) in
    ap (λ ps. with_productions r ps ∷ map (with_numbers_at n gs) (map (with_numbers_at m hs) rs)) here
    ∙ ap (λ l. with_numbers_at m (hs ++ gs) r ∷ l) (at_more m n hs gs rs e)

pub at_none : (n : ℕ) (rs : List RuleAst) → rs ≡ map (with_numbers_at n []) rs
at_none n [] = refl
at_none n (r ∷ rs) = ap (λ ps. with_productions r ps ∷ rs) (sym (append-nil r.productions)) ∙ ap (λ l. with_numbers_at n [] r ∷ l) (at_none n rs)

-- one name so many times
numbers_of_one : (t q : List ℕ) (n k : ℕ) → numbers_from t n (replicate k q) ≡ (if bytes_eq q t then count_up n k else [])
numbers_of_one t q n zero = by (bytes_eq q t)
  where
    by : (b : Bool) → numbers_from t n [] ≡ (if b then count_up n zero else [])
    by true = refl
    by false = refl
numbers_of_one t q n (suc k) = by (bytes_eq q t) (numbers_of_one t q (suc n) k)
  where
    by : (b : Bool) → numbers_from t (suc n) (replicate k q) ≡ (if b then count_up (suc n) k else [])
        → (if b then n ∷ numbers_from t (suc n) (replicate k q) else numbers_from t (suc n) (replicate k q)) ≡ (if b then n ∷ count_up (suc n) k else [])
    by true rest = ap (λ l. n ∷ l) rest
    by false rest = rest

pub more_of_one : (q : List ℕ) (n k : ℕ) (rs : List RuleAst) → map (with_more q (count_up n k)) rs ≡ map (with_numbers_at n (replicate k q)) rs
more_of_one q n k [] = refl
more_of_one q n k (r ∷ rs) =
    ap (λ l. with_productions r (r.productions ++ l) ∷ map (with_more q (count_up n k)) rs) (sym (numbers_of_one r.name.text q n k))
    ∙ ap (λ l. with_numbers_at n (replicate k q) r ∷ l) (more_of_one q n k rs)

-- one more number
pub count_push : (n k : ℕ) → count_up n (suc k) ≡ count_up n k ++ (n + k) ∷ []
count_push n zero =
    let same : n ≡ n + 0 = omega arith in
    ap (λ m. m ∷ []) same
count_push n (suc k) =
    let next : suc n + k ≡ n + suc k = omega arith in
    ap (λ l. n ∷ l) (count_push (suc n) k) ∙ ap (λ m. n ∷ (count_up (suc n) k ++ m ∷ [])) next

-- one name for each item of a list
pub one_for_each : {A : Type 0} (q : List ℕ) (xs : List A) → replicate (length xs) q ≡ map (λ (x : A). q) xs
one_for_each q [] = refl
one_for_each q (x ∷ xs) = ap (λ l. q ∷ l) (one_for_each q xs)
