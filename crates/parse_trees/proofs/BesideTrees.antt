-- Stacks of values and spans stay beside the machine's trees.
use Rattle.std.proofs.Common.{◌≡◌, ℕ, zero, suc, ◌-◌, ◌≤◌, List, [], ◌∷◌, ◌++◌, length, take, drop, reverse, Some, sym, ap, ◌∙◌, subst, arith}
use Rattle.std.proofs.lemmas.List.{reverse-append, length-map, map-append, take-map}
use Rattle.cfg_base.specs.SpanModel.{SpanModel}
use Rattle.cfg_theory.specs.Grammar.{Grammar, head_of}
use Rattle.cfg_theory.specs.Tree.{Tree, leaf, node, Forest, none, before}
use Rattle.cfg_theory.specs.Fold.{Span, span_over, Answers, FoldsAll}
use Rattle.lr_theory.specs.Machine.{pop}
use Rattle.lr_theory.specs.StackValues.{stack_spans, top_span, StackFolds, reduction_span, onto}
use Rattle.lr_theory.proofs.StackValues.{is_reduction}
use Rattle.lr_theory.proofs.Tops.{drop_reverse, take_reverse}
use Rattle.parse_trees.specs.Stacks.{span_of_places, spans_of, IsFolded, Beside}

-- an entry put on the first ones comes first in the reverse
pub reverse_pushed : {X : Type 0} (xs : List X) (x : X) → reverse (xs ++ x ∷ []) ≡ x ∷ reverse xs
reverse_pushed xs x = reverse-append xs (x ∷ [])

same_below : {L : Type 0} (x y : Forest L × List (Tree L)) → Some x ≡ Some y → x.1 ≡ y.1
same_below x y e = let z : x ≡ y = cc in ap (λ u. u.1) z

-- the spans below what a reduction pops
spans_below : {L : Type 0} (at : L → Span) (n : ℕ) (ts : List (Tree L)) (acc f : Forest L) (below : List (Tree L)) → pop n ts acc ≡ Some (f, below) → stack_spans at below ≡ drop n (stack_spans at ts)
spans_below at zero ts acc f below e = ap (stack_spans at) (sym (same_below (acc, ts) (f, below) e))
spans_below at (suc n) [] acc f below e = cc
spans_below at (suc n) (t ∷ ts) acc f below e = spans_below at n ts (before t acc) f below e

module _ {L V : Type 0} (G : Grammar) (by : Answers L V) (at : L → Span) where
  -- a lexeme is shifted
  pub beside_shifted : (values : List V) (spans : List SpanModel) (ts : List (Tree L)) (x : L) (v : V) (place : SpanModel) → Beside G by at values spans ts → by.term x v → span_of_places place ≡ at x →
      Beside G by at (values ++ v ∷ []) (spans ++ place ∷ []) (leaf x ∷ ts)
  beside_shifted values spans ts x v place h t e = record {
    folds = (v, reverse values, reverse_pushed values v, t, h.folds);
    spans_are = ap reverse (map-append span_of_places spans (place ∷ [])) ∙ reverse_pushed (spans_of spans) (span_of_places place) ∙ ap (λ s. s ∷ reverse (spans_of spans)) e ∙ ap (λ l. at x ∷ l) h.spans_are;
  }

  -- a production is reduced
  pub beside_reduced : (values : List V) (spans : List SpanModel) (ts : List (Tree L)) (p n : ℕ) (f : Forest L) (below : List (Tree L)) (values' : List V) (spans' : List SpanModel) → Beside G by at values spans ts →
      pop n ts none ≡ Some (f, below) → n ≤ length values → n ≤ length spans → IsFolded by.says p (head_of G p) n values spans values' spans' → Beside G by at values' spans' (node p f ∷ below)
  beside_reduced values spans ts p n f below values' spans' h e le ls k =
      let r = is_reduction L V G by at n ts (reverse values) f below h.folds e in
      let over : span_over at (top_span at below) f ≡ span_of_places k.place = r.span_is ∙ ap (reduction_span n) (sym h.spans_are) ∙ sym k.span_is in
      let args : onto (take n (reverse values)) [] ≡ drop (length values - n) values = take_reverse n values le in
      let rest : drop n (reverse values) ≡ reverse (take (length values - n) values) = drop_reverse n values le in
      let all : FoldsAll G by at (top_span at below) f (drop (length values - n) values) = subst (FoldsAll G by at (top_span at below) f) args r.args_fold in
      let says : by.says p (head_of G p) (span_over at (top_span at below) f) (drop (length values - n) values) k.value = subst (λ s. by.says p (head_of G p) s (drop (length values - n) values) k.value) (sym over) k.says_so in
      let len : length (spans_of spans) ≡ length spans = length-map spans span_of_places in
      let kept : reverse (spans_of (take (length spans - n) spans)) ≡ stack_spans at below =
      ap reverse (sym (take-map span_of_places (length spans - n) spans)) ∙ ap (λ j. reverse (take (j - n) (spans_of spans))) (sym len) ∙ sym (drop_reverse n (spans_of spans) (omega (arith, len))) ∙ ap (drop n) h.spans_are ∙ sym (spans_below at n ts none f below e) in
      record {
        folds = (k.value, reverse (take (length values - n) values), ap reverse k.values_are ∙ reverse_pushed (take (length values - n) values) k.value, (drop (length values - n) values, all, says), subst (StackFolds G by at below) rest r.rest_folds);
        spans_are = ap (λ l. reverse (spans_of l)) k.spans_are ∙ ap reverse (map-append span_of_places (take (length spans - n) spans) (k.place ∷ [])) ∙ reverse_pushed (spans_of (take (length spans - n) spans)) (span_of_places k.place) ∙ ap (λ l. span_of_places k.place ∷ l) kept ∙ ap (λ s. s ∷ stack_spans at below) (sym over);
      }

-- what is popped was there
pub popped_within : {L : Type 0} (n : ℕ) (ts : List (Tree L)) (f : Forest L) (r : Forest L × List (Tree L)) → pop n ts f ≡ Some r → n ≤ length ts
popped_within zero ts f r e = omega arith
popped_within (suc n) [] f r e = cc
popped_within (suc n) (t ∷ ts) f r e = let h = popped_within n ts (before t f) r e in omega (arith, h)
