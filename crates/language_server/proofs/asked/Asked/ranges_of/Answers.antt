use Rattle.std.proofs.Common.{◌≡◌, ◌+◌, ◌<◌, ℕ, List, [], ◌∷◌, ◌++◌, inl, inr, length, get_or, sym, ap, ◌∙◌, subst, subst₂, arith}
use Rattle.std.proofs.lemmas.Bool.{cases_lt}
use Rattle.std.proofs.lemmas.List.{get_or_append_left, get_or_push}
use Rattle.std.proofs.lemmas.Option.{get_or_from_slice_get, slice_get-get_or}
use Rattle.grammar_index.specs.declared.occurrence.Occurrence.{Occurrence}
use Rattle.language_server.specs.Positions.{IsRangeOf}
use Rattle.language_server.specs.declared.answers.Range.{Range}
use Rattle.language_server.proofs.asked.Asked.ranges_of.Goals as goal

-- what is so of each name and its range is so of one more
one_more : (P : Occurrence → Range → Type 0) (names : List Occurrence) (ranges new : List Range) (i : ℕ) (d : Occurrence) (last : Range) → i < length names → length ranges ≡ i → new ≡ ranges ++ last ∷ [] → P (get_or names i d) last →
    ((k : ℕ) (r : Range) (o : Occurrence) → k < i → P (get_or names k o) (get_or ranges k r)) → (k : ℕ) (r : Range) (o : Occurrence) → k < i + 1 → P (get_or names k o) (get_or new k r)
one_more P names ranges new i d last room count e here before k r o lt = elim (cases_lt k i) [
  | inl l ↦ subst (λ x. P (get_or names k o) x) (sym (ap (λ l. get_or l k r) e ∙ get_or_append_left ranges (last ∷ []) r k (omega (arith, l, count)))) (before k r o l)
  | inr ge ↦
      (let q : k ≡ i = omega (arith, lt, ge) in
      subst₂ P (sym (ap (λ n. get_or names n o) q ∙ get_or_from_slice_get names i (get_or names i d) o (slice_get-get_or names i d room))) (sym (ap (λ l. get_or l k r) e ∙ get_or_push ranges last r k (count ∙ sym q))) here)
]

pub names-preserved : goal.names-preserved
names-preserved c = record {
  count = let n = c.in_ok-push.ensures.len in let h = c.names.invariant.count in omega (arith, n, h);
  ranges = λ short are.
      one_more (λ o r. IsRangeOf c.args.self.now.encoding c.args.self.now.text.now o.start o.end r) c.args.names.now c.names.ranges.items c.push.new.self.items c.names.index _ c.range_of.result c.names-test.true c.names.invariant.count c.in_ok-push.ensures.items (c.range_of.ensures short are) (c.names.invariant.ranges short are);
}

pub returns-clause-ranges : goal.returns-clause-ranges
returns-clause-ranges c = λ short are k r o lt. let done = c.names-test.false in c.names.invariant.ranges short are k r o (omega (arith, lt, done))
