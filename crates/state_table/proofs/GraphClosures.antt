-- Closures of states, some of which are the cores beside them.
use Rattle.std.proofs.Common.{◌≡◌, ℕ, ◌<◌, List, [], length, get_or, min, Option, None, sym, ap, ◌∙◌, arith}
use Rattle.std.specs.Prelude.{zip}
use Rattle.std.specs.Option.{unwrap_or}
use Rattle.std.proofs.lemmas.List.{get_or-map, get_or_default, length-map}
use Rattle.std.proofs.lemmas.Slice.Zip.{length-zip, get_or-zip}
use Rattle.lr_theory.specs.Itemset.{ItemSet}
use Rattle.state_table.specs.GraphViews.{closures_seen}

module _ (cores : List ItemSet) (closed : List (Option ItemSet)) where
  pub closures_length : length (closures_seen cores closed) ≡ min (length cores) (length closed)
  closures_length = length-map (zip cores closed) _ ∙ length-zip cores closed

  pub closure_is : (s : ℕ) (d : ItemSet) → s < length cores → s < length closed → get_or (closures_seen cores closed) s d ≡ unwrap_or (get_or closed s None) (get_or cores s [])
  closure_is s d in_cores in_closed =
      let n = length-zip cores closed in
      get_or-map (λ (p : ItemSet × Option ItemSet). unwrap_or p.1 p.0) (zip cores closed) s ([], None) d (omega (arith, n, in_cores, in_closed)) ∙
      ap (λ (p : ItemSet × Option ItemSet). unwrap_or p.1 p.0) (get_or-zip cores closed s ([], None) in_cores in_closed)

  module _ (same : length (closures_seen cores closed) ≡ length cores) (s : ℕ) (lt : s < length cores) where
    pub within_closed : s < length closed
    within_closed =
        let n = closures_length in
        omega (arith, same, lt, n)

    pub closure_at : (o : Option ItemSet) → o ≡ get_or closed s o → get_or (closures_seen cores closed) s [] ≡ unwrap_or o (get_or cores s [])
    closure_at o e = closure_is s [] lt within_closed ∙ ap (λ (x : Option ItemSet). unwrap_or x (get_or cores s [])) (get_or_default closed s None o within_closed ∙ sym e)
