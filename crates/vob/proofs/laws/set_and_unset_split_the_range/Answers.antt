use Rattle.std.proofs.Common.{◌≤◌, true, false, get_or, min, length, sym, ◌∙◌, inl, inr, ⊎_elim, arith}
use Rattle.std.specs.Range.Bound.{start_index, end_index}
use mathlib.Core.Bool.{true≢false}
use Rattle.vob.proofs.LawLemmas as law
use Rattle.vob.proofs.laws.set_and_unset_split_the_range.Goals as goal

pub returns : goal.returns
returns c = record {
  disjoint = λ xs start end index a b.
      let from = start_index start in
      let to = min (end_index end (length xs)) (length xs) in
      let within : to ≤ length xs = omega arith in
      let p = (law.walk_exactly true xs from to index within).0 a in
      let q = (law.walk_exactly false xs from to index within).0 b in
      true≢false (sym p.2 ∙ q.2);
  together = λ xs start end index low high.
      let from = start_index start in
      let to = min (end_index end (length xs)) (length xs) in
      let within : to ≤ length xs = omega arith in
      ⊎_elim (λ e. inl ((law.walk_exactly true xs from to index within).1 (low, high, e))) (λ e. inr ((law.walk_exactly false xs from to index within).1 (low, high, e)))
      (law.set_or_not (get_or xs index false));
  counts = λ xs start end. law.counts_sum xs (start_index start) (min (end_index end (length xs)) (length xs)) (omega arith);
}
