-- The sequences that can be taken, gathered one after another.
use Rattle.std.proofs.Common.{◌≡◌, ℕ, true, false, List, [], ◌∷◌, ◌++◌, map, Vec, refl, ap}
use Rattle.std.specs.declared.alloc.Global.{Global}
use Rattle.cfg_theory.specs.Grammar.{Grammar}
use Rattle.lr_theory.specs.OfferedRepairs.{Filtered, none, kept, dropped}
use Rattle.state_table.specs.TableValues.{TableValue}
use Rattle.parse_trees.specs.declared.parse_repair.RepairStep.{RepairStep}
use Rattle.parse_trees.specs.Edits.{edits_of, sequences_of}
use Rattle.lrpar.specs.Taking.{SequenceTells, ListTells}

pub filtered_kept : {X : Type 0} {P : X → Type 0} {xs ys : List X} (x : X) → Filtered P xs ys → P x → Filtered P (xs ++ x ∷ []) (ys ++ x ∷ [])
filtered_kept x none h = kept h none
filtered_kept x (kept p f) h = kept p (filtered_kept x f h)
filtered_kept x (dropped p f) h = dropped p (filtered_kept x f h)

pub filtered_dropped : {X : Type 0} {P : X → Type 0} {xs ys : List X} (x : X) → Filtered P xs ys → (P x → ⊥) → Filtered P (xs ++ x ∷ []) ys
filtered_dropped x none h = dropped h none
filtered_dropped x (kept p f) h = kept p (filtered_dropped x f h)
filtered_dropped x (dropped p f) h = dropped p (filtered_dropped x f h)

pub same_list : {X : Type 0} (xs : List X) → map (λ y. y) xs ≡ xs
same_list [] = refl
same_list (x ∷ xs) = ap (λ l. x ∷ l) (same_list xs)

module _ {S L : Type 0} (number : S → ℕ) (top : ℕ) (G : Grammar) (v : TableValue) (tok : L → ℕ) (ss : List ℕ) (rest : List L) where
  more : (xs : List (Vec (RepairStep S) Global)) (x : Vec (RepairStep S) Global) → sequences_of number (xs ++ x ∷ []) ≡ sequences_of number xs ++ edits_of number x.items ∷ []
  more [] x = refl
  more (y ∷ xs) x = ap (λ l. edits_of number y.items ∷ l) (more xs x)

  pub listed_none : (taken : List (Vec (RepairStep S) Global)) → taken ≡ [] → ListTells top G v tok ss rest [] (sequences_of number taken)
  listed_none taken e = λ g make input d safe makes stands states left. rw e none

  pub listed_kept : (offered taken taken' : List (Vec (RepairStep S) Global)) (x : Vec (RepairStep S) Global) → ListTells top G v tok ss rest (sequences_of number offered) (sequences_of number taken) → SequenceTells top G v tok (edits_of number x.items) ss rest true →
      taken' ≡ taken ++ x ∷ [] → ListTells top G v tok ss rest (sequences_of number (offered ++ x ∷ [])) (sequences_of number taken')
  listed_kept offered taken taken' x so is e = λ g make input d safe makes stands states left.
      rw (e, more offered x, more taken x) (filtered_kept (edits_of number x.items) (so g make input d safe makes stands states left) (is g make input d safe makes stands states left))

  pub listed_dropped : (offered taken : List (Vec (RepairStep S) Global)) (x : Vec (RepairStep S) Global) → ListTells top G v tok ss rest (sequences_of number offered) (sequences_of number taken) → SequenceTells top G v tok (edits_of number x.items) ss rest false →
      ListTells top G v tok ss rest (sequences_of number (offered ++ x ∷ [])) (sequences_of number taken)
  listed_dropped offered taken x so is = λ g make input d safe makes stands states left.
      rw (more offered x) (filtered_dropped (edits_of number x.items) (so g make input d safe makes stands states left) (is g make input d safe makes stands states left))
