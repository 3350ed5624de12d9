-- Steps along a list that a loop has taken so far.
use Rattle.std.proofs.Common.{◌≡◌, ℕ, ◌<◌, ◌≤◌, ◌+◌, Result, Ok, List, length, drop, get_or, sym, ap, ◌∙◌}
use Rattle.std.proofs.lemmas.List.{at_drop_more, at_drop_all}
use Rattle.lex_files.specs.LexFiles.{try_fold, and_then, Tells}
use Rattle.lex_files.specs.declared.fault.Fault.{Fault}
use Rattle.lex_files.specs.declared.fault.LexFileError.{LexFileError}
use Rattle.lex_files.specs.declared.fault.LexFileError.TheVariants.{Memory, Section, Line}

module _ {A B : Type 0} (step : B → A → Result B Fault) (start : Result B Fault) (b : B) (xs : List A) (k : ℕ) where
  taken : (x : A) → start ≡ try_fold step b (drop k xs) → (k < length xs) × (x ≡ get_or xs k x) → start ≡ and_then (step b x) (λ c. try_fold step c (drop (k + 1) xs))
  taken x s turn = s ∙ at_drop_more (try_fold step b) xs k x turn.0 ∙ ap (λ p. and_then (step b p) (λ c. try_fold step c (drop (k + 1) xs))) (sym turn.1)

  pub fold_next : (x : A) (c : B) → start ≡ try_fold step b (drop k xs) → (k < length xs) × (x ≡ get_or xs k x) → step b x ≡ Ok c → start ≡ try_fold step c (drop (k + 1) xs)
  fold_next x c s turn e = taken x s turn ∙ ap (λ r. and_then r (λ d. try_fold step d (drop (k + 1) xs))) e

  pub fold_tells : (x : A) (e : LexFileError) → start ≡ try_fold step b (drop k xs) → (k < length xs) × (x ≡ get_or xs k x) → Tells (step b x) e → Tells start e
  fold_tells x (Memory a) s turn h = tt
  fold_tells x (Section es) s turn h = h
  fold_tells x (Line f) s turn h = taken x s turn ∙ ap (λ r. and_then r (λ d. try_fold step d (drop (k + 1) xs))) h

  pub fold_end : start ≡ try_fold step b (drop k xs) → length xs ≤ k → start ≡ Ok b
  fold_end s h = s ∙ at_drop_all (try_fold step b) xs k h

-- what comes of a step that fails, or of one that is made
pub then_tells : {A B : Type 0} (r : Result A Fault) (f : A → Result B Fault) (e : LexFileError) → Tells r e → Tells (and_then r f) e
then_tells r f (Memory a) h = tt
then_tells r f (Section es) h = h
then_tells r f (Line x) h = ap (λ q. and_then q f) h
