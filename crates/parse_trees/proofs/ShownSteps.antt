-- Repairs as they are told, gathered step by step.
use Rattle.std.proofs.Common.{◌≡◌, ℕ, ◌+◌, List, [], ◌∷◌, ◌++◌, map, drop, Some, None, append-nil, refl, sym, ap, ◌∙◌}
use Rattle.std.specs.Prelude.{slice_get}
use Rattle.parse_trees.specs.declared.parse_repair.RepairStep.{RepairStep}
use Rattle.parse_trees.specs.declared.parse_repair.ParseRepair.{ParseRepair}
use Rattle.parse_trees.specs.Edits.{edit_of, edits_of}
use Rattle.parse_trees.specs.Shown.{ShownEdit, shown, shown_of, ShowsStep}
use Rattle.parse_trees.proofs.ListsAt.{drop_at}

-- one more at the end, and then those behind it
pub then_more : {X Y : Type 0} (f : X → Y) (xs : List X) (x : X) (ys : List Y) → map f (xs ++ x ∷ []) ++ ys ≡ map f xs ++ f x ∷ ys
then_more f [] x ys = refl
then_more f (y ∷ xs) x ys = ap (λ l. f y ∷ l) (then_more f xs x ys)

module _ {S L : Type 0} (number : S → ℕ) (lexemes : List L) (steps : List (RepairStep S)) (whole : List (ShownEdit L)) where
  -- a step is shown
  pub shown_on : (repairs repairs' : List (ParseRepair L S)) (k at next : ℕ) (step : RepairStep S) (r : ParseRepair L S) → map (shown_of number) repairs ++ shown (edits_of number (drop k steps)) (drop at lexemes) ≡ whole →
      slice_get steps k ≡ Some step → ShowsStep number (edit_of number step) at lexemes (Some (r, next)) → repairs' ≡ repairs ++ r ∷ [] →
      map (shown_of number) repairs' ++ shown (edits_of number (drop (k + 1) steps)) (drop next lexemes) ≡ whole
  shown_on repairs repairs' k at next step r so here shows e =
      let behind = edits_of number (drop (k + 1) steps) in
      ap (λ l. map (shown_of number) l ++ shown behind (drop next lexemes)) e
      ∙ then_more (shown_of number) repairs r (shown behind (drop next lexemes))
      ∙ ap (λ l. map (shown_of number) repairs ++ l) (sym (shows behind))
      ∙ ap (λ l. map (shown_of number) repairs ++ shown (edits_of number l) (drop at lexemes)) (sym (drop_at steps k step here))
      ∙ so

  -- no more is
  pub shown_stops : (repairs : List (ParseRepair L S)) (k at : ℕ) (step : RepairStep S) → map (shown_of number) repairs ++ shown (edits_of number (drop k steps)) (drop at lexemes) ≡ whole →
      slice_get steps k ≡ Some step → ShowsStep number (edit_of number step) at lexemes None → map (shown_of number) repairs ≡ whole
  shown_stops repairs k at step so here shows =
      sym (append-nil (map (shown_of number) repairs))
      ∙ ap (λ l. map (shown_of number) repairs ++ l) (sym (shows (edits_of number (drop (k + 1) steps))))
      ∙ ap (λ l. map (shown_of number) repairs ++ shown (edits_of number l) (drop at lexemes)) (sym (drop_at steps k step here))
      ∙ so
