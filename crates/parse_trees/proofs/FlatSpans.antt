-- A flat tree beside a run: the spans of the trees.
use Rattle.std.proofs.Common.{◌≡◌, ℕ, zero, suc, ◌-◌, ◌+◌, ◌<◌, ◌≤◌, List, [], ◌∷◌, ◌++◌, length, take, drop, get_or, reverse, Some, refl, sym, ap, ◌∙◌, subst, arith, ⊎_elim, length-append}
use Rattle.std.specs.Prelude.{slice_get, option_map}
use Rattle.std.proofs.lemmas.List.{reverse-append, length-reverse, length-map, map-append, take-map, take_all, get_or-reverse}
use Rattle.cfg_base.specs.SpanModel.{SpanModel}
use Rattle.cfg_theory.specs.Tree.{Tree, leaf, node, Forest, none, before}
use Rattle.cfg_theory.specs.Fold.{Span, no_span, span_of, span_over, last_span}
use Rattle.lr_theory.specs.Machine.{pop}
use Rattle.lr_theory.specs.StackValues.{stack_spans, top_span, reduction_span}
use Rattle.lr_theory.proofs.Tops.{drop_reverse}
use Rattle.parse_trees.specs.FlatTrees.{Piece, term, nonterm, flat, flats, flat_stack, stack_ends, piece_span, IsFlatStack}
use Rattle.parse_trees.specs.FlatValues.{FlatStand, PiecesStartBy}
use Rattle.parse_trees.specs.Stacks.{span_of_places, spans_of, StartsAscend, StartBy}
use Rattle.parse_trees.proofs.SpanStacks.{pushed_at, some_at, from_top, place_by, ascend_pushed, ascend_reduced}
use Rattle.parse_trees.proofs.FlatStacks.{ends_length, top_end}

same_popped : {L : Type 0} (x y : Forest L × List (Tree L)) → Some x ≡ Some y → (x.0 ≡ y.0) × (x.1 ≡ y.1)
same_popped x y e = let z : x ≡ y = cc in (ap (λ u. u.0) z, ap (λ u. u.1) z)

-- what stands on a stack can be popped
pub can_pop : {L : Type 0} (n : ℕ) (ts : List (Tree L)) (acc : Forest L) → n ≤ length ts → (below : List (Tree L)) × (f : Forest L) × (pop n ts acc ≡ Some (f, below))
can_pop zero ts acc le = (ts, acc, refl)
can_pop (suc n) [] acc le = absurd (omega arith)
can_pop (suc n) (t ∷ ts) acc le = can_pop n ts (before t acc) (omega arith)

got_last : {X : Type 0} (xs : List X) (x : X) → slice_get (xs ++ x ∷ []) (length (xs ++ x ∷ []) - 1) ≡ Some x
got_last xs x = ap (slice_get (xs ++ x ∷ [])) (omega (arith, length-append xs (x ∷ []))) ∙ last xs
  where
    last : (ys : List _) → slice_get (ys ++ x ∷ []) (length ys) ≡ Some x
    last [] = refl
    last (y ∷ ys) = last ys

got_before : {X : Type 0} (xs ys : List X) (k : ℕ) (x : X) → slice_get xs k ≡ Some x → slice_get (xs ++ ys) k ≡ Some x
got_before [] ys k x e = cc
got_before (y ∷ xs) ys zero x e = e
got_before (y ∷ xs) ys (suc k) x e = got_before xs ys k x e

got_behind : {X : Type 0} (xs ys : List X) (j k : ℕ) → j ≡ length xs + k → slice_get (xs ++ ys) j ≡ slice_get ys k
got_behind [] ys j k is = ap (slice_get ys) (omega (arith, is))
got_behind (x ∷ xs) ys zero k is = absurd (omega (arith, is))
got_behind (x ∷ xs) ys (suc j) k is = got_behind xs ys j k (omega (arith, is))

got_within : {X : Type 0} (xs : List X) (k : ℕ) (x : X) → slice_get xs k ≡ Some x → k < length xs
got_within [] k x e = cc
got_within (y ∷ xs) zero x e = omega arith
got_within (y ∷ xs) (suc k) x e = let h = got_within xs k x e in omega (arith, h)

same_some : {X : Type 0} (x y : X) → Some x ≡ Some y → x ≡ y
same_some x y e = cc

module _ {L : Type 0} (at : L → Span) where
  last_popped : (n : ℕ) (ts : List (Tree L)) (acc f : Forest L) (below : List (Tree L)) → pop n ts acc ≡ Some (f, below) → last_span at (top_span at below) f ≡ last_span at (top_span at ts) acc
  last_popped zero ts acc f below e = let s = same_popped (acc, ts) (f, below) e in ap (λ b. last_span at (top_span at b) f) (sym s.1) ∙ ap (last_span at (top_span at ts)) (sym s.0)
  last_popped (suc n) [] acc f below e = cc
  last_popped (suc n) (t ∷ ts) acc f below e = last_popped n ts (before t acc) f below e

  record First (n : ℕ) (ts : List (Tree L)) (f : Forest L) (below : List (Tree L)) : Type 0 where
    tree : Tree L
    others : Forest L
    is : f ≡ before tree others
    span : span_of at (top_span at below) tree ≡ get_or (stack_spans at ts) n no_span

  first_popped : (n : ℕ) (ts : List (Tree L)) (acc f : Forest L) (below : List (Tree L)) → pop (suc n) ts acc ≡ Some (f, below) → First n ts f below
  first_popped n [] acc f below e = cc
  first_popped zero (t ∷ ts) acc f below e =
      let s = same_popped (before t acc, ts) (f, below) e in
      record { tree = t; others = acc; is = sym s.0; span = ap (λ b. span_of at (top_span at b) t) (sym s.1) }
  first_popped (suc n) (t ∷ ts) acc f below e =
      let r = first_popped n ts (before t acc) f below e in
      record { tree = r.tree; others = r.others; is = r.is; span = r.span }

  pub span_popped : (n : ℕ) (ts : List (Tree L)) (f : Forest L) (below : List (Tree L)) → pop n ts none ≡ Some (f, below) → span_over at (top_span at below) f ≡ reduction_span n (stack_spans at ts)
  span_popped zero ts f below e = let s = same_popped (none, ts) (f, below) e in ap (span_over at (top_span at below)) (sym s.0) ∙ ap (top_span at) (sym s.1)
  span_popped (suc n) ts f below e =
      let r = first_popped n ts none f below e in
      let last : last_span at (top_span at below) (before r.tree r.others) ≡ top_span at ts = ap (last_span at (top_span at below)) (sym r.is) ∙ last_popped (suc n) ts none f below e in
      ap (span_over at (top_span at below)) r.is ∙ (λ i. record { from = (r.span i).from; to = (last i).to })

  spans_below : (n : ℕ) (ts : List (Tree L)) (acc f : Forest L) (below : List (Tree L)) → pop n ts acc ≡ Some (f, below) → stack_spans at below ≡ drop n (stack_spans at ts)
  spans_below zero ts acc f below e = ap (stack_spans at) (sym (same_popped (acc, ts) (f, below) e).1)
  spans_below (suc n) [] acc f below e = cc
  spans_below (suc n) (t ∷ ts) acc f below e = spans_below n ts (before t acc) f below e

  spans_length : (ts : List (Tree L)) → length (stack_spans at ts) ≡ length ts
  spans_length [] = refl
  spans_length (t ∷ ts) = ap suc (spans_length ts)

  -- the last node of a tree has its span
  last_piece : (left : Span) (t : Tree L) → (x : Piece L) × (slice_get (flat at left t) (length (flat at left t) - 1) ≡ Some x) × (piece_span at x ≡ span_of at left t)
  last_piece left (leaf x) = (term x, refl, refl)
  last_piece left (node p f) = (nonterm p (span_over at left f) (length (flats at left f)), got_last (flats at left f) _, refl)

  -- the node of a tree of the stack, counted from the top
  record Root (ts : List (Tree L)) (m : ℕ) : Type 0 where
    piece : Piece L
    some : 0 < get_or (stack_ends at ts) m 0
    is : slice_get (flat_stack at ts) (get_or (stack_ends at ts) m 0 - 1) ≡ Some piece
    span : piece_span at piece ≡ get_or (stack_spans at ts) m no_span

  root_at : (ts : List (Tree L)) (m : ℕ) → m < length ts → Root ts m
  root_at [] m lt = absurd (omega arith)
  root_at (t ∷ ts) zero lt =
      let l = last_piece (top_span at ts) t in
      let some = got_within (flat at (top_span at ts) t) (length (flat at (top_span at ts) t) - 1) l.0 l.1 in
      let all = length-append (flat_stack at ts) (flat at (top_span at ts) t) in
      record {
        piece = l.0;
        some = omega (arith, some, all);
        is = got_behind (flat_stack at ts) (flat at (top_span at ts) t) (length (flat_stack at ts ++ flat at (top_span at ts) t) - 1) (length (flat at (top_span at ts) t) - 1) (omega (arith, some, all)) ∙ l.1;
        span = l.2;
      }
  root_at (t ∷ ts) (suc m) lt =
      let r = root_at ts m (omega arith) in
      record { piece = r.piece; some = r.some; is = got_before (flat_stack at ts) (flat at (top_span at ts) t) _ r.piece r.is; span = r.span }

  -- a node is put behind others
  pub start_put : (pieces : List (Piece L)) (x : Piece L) (place : ℕ) → PiecesStartBy at pieces place → (piece_span at x).from ≤ place → PiecesStartBy at (pieces ++ x ∷ []) place
  start_put pieces x place up le = record {
    by = λ k y e. ⊎_elim
        (λ h. up.by k y h.1)
        (λ h. subst (λ z. (piece_span at z).from ≤ place) h.1 le)
        (pushed_at pieces (length pieces) k x y (omega arith) (ap (λ l. slice_get (l ++ x ∷ []) k) (take_all (length pieces) pieces (omega arith)) ∙ e));
  }

  module _ (ts : List (Tree L)) (pieces : List (Piece L)) (ends : List ℕ) (stands : FlatStand at ts pieces ends) where
    pub ends_height : length ends ≡ length ts
    ends_height = omega (arith, length-reverse ends, ap length stands.flat.ends_are, ends_length at ts)

    pub spans_height : length stands.spans ≡ length ts
    spans_height = omega (arith, length-map stands.spans span_of_places, length-reverse (spans_of stands.spans), ap length stands.spans_are, spans_length ts)

    -- an end by the place that the code reads
    pub end_of : (n d end : ℕ) → 0 < n → n ≤ length ts → end ≡ get_or ends (length ends - n) d → end ≡ get_or ends (length ends - 1 - (n - 1)) 0
    end_of n d end some few is =
        let y = some_at ends (length ends - n) (omega (arith, some, few, ends_height)) in
        is ∙ y.2 d ∙ sym (y.2 0) ∙ ap (λ k. get_or ends k 0) (omega (arith, some, few, ends_height))

    end_is : (m : ℕ) → m < length ts → get_or ends (length ends - 1 - m) 0 ≡ get_or (stack_ends at ts) m 0
    end_is m lt = sym (get_or-reverse ends m 0 (omega (arith, ends_height))) ∙ ap (λ l. get_or l m 0) stands.flat.ends_are

    -- a tree's end, and its node before it
    pub end_some : (m end : ℕ) → m < length ts → end ≡ get_or ends (length ends - 1 - m) 0 → 0 < end
    end_some m end lt is = let r = root_at ts m lt in omega (arith, r.some, is, end_is m lt)

    root_is : (m end : ℕ) (r : Root ts m) → m < length ts → end ≡ get_or ends (length ends - 1 - m) 0 → slice_get pieces (end - 1) ≡ Some r.piece
    root_is m end r lt is = ap (λ l. slice_get l (end - 1)) stands.flat.pieces_are ∙ ap (λ k. slice_get (flat_stack at ts) (k - 1)) (is ∙ end_is m lt) ∙ r.is

    pub end_within : (m end : ℕ) → m < length ts → end ≡ get_or ends (length ends - 1 - m) 0 → end - 1 < length pieces
    end_within m end lt is = let r = root_at ts m lt in got_within pieces (end - 1) r.piece (root_is m end r lt is)

    pub span_there : (m end : ℕ) (s : Span) → m < length ts → end ≡ get_or ends (length ends - 1 - m) 0 → option_map (piece_span at) (slice_get pieces (end - 1)) ≡ Some s → s ≡ get_or (stack_spans at ts) m no_span
    span_there m end s lt is got =
        let r = root_at ts m lt in
        same_some s (piece_span at r.piece) (sym got ∙ ap (option_map (piece_span at)) (root_is m end r lt is)) ∙ r.span

    -- the top one's is the last of all
    top_is : 0 < length ts → length pieces ≡ get_or ends (length ends - 1 - 0) 0
    top_is some = ap length stands.flat.pieces_are ∙ sym (top_end at ts 0 some) ∙ sym (end_is 0 some)

    pub top_some : 0 < length ts → 0 < length pieces
    top_some some = end_some 0 (length pieces) some (top_is some)

    pub span_on_top : (s : Span) → 0 < length ts → option_map (piece_span at) (slice_get pieces (length pieces - 1)) ≡ Some s → s ≡ top_span at ts
    span_on_top s some got = span_there 0 (length pieces) s some (top_is some) got

    from_spans : (m : ℕ) (y : SpanModel) → m < length ts → y ≡ get_or stands.spans (length stands.spans - 1 - m) y → get_or (stack_spans at ts) m no_span ≡ span_of_places y
    from_spans m y lt is = ap (λ l. get_or l m no_span) (sym stands.spans_are) ∙ from_top stands.spans m y (omega (arith, lt, spans_height)) is

    -- a deeper tree starts no later than the top one
    pub deep_before : (m : ℕ) → m < length ts → (get_or (stack_spans at ts) m no_span).from ≤ (top_span at ts).from
    deep_before m lt =
        let high = spans_height in
        let y = some_at stands.spans (length stands.spans - 1 - m) (omega (arith, lt, high)) in
        let x = some_at stands.spans (length stands.spans - 1 - 0) (omega (arith, lt, high)) in
        let deep = ap (λ s. s.from) (from_spans m y.0 lt (sym (y.2 y.0))) in
        let top = ap (λ s. s.from) (from_spans 0 x.0 (omega (arith, lt)) (sym (x.2 x.0))) in
        let h = stands.ascend.ascend (length stands.spans - 1 - m) (length stands.spans - 1 - 0) y.0 x.0 (omega (arith, lt, high)) y.1 x.1 in
        omega (arith, deep, top, h)

    -- what holds of all nodes' starts holds of the trees'
    pub spans_start_by : (place : ℕ) → PiecesStartBy at pieces place → StartBy stands.spans place
    spans_start_by place up = record {
      by = λ k x e.
          let high = spans_height in
          let lt = got_within stands.spans k x e in
          let m = length stands.spans - 1 - k in
          let back : length stands.spans - 1 - m ≡ k = omega (arith, lt) in
          let below : m < length ts = omega (arith, lt, high) in
          let y = some_at stands.spans k lt in
          let same : y.0 ≡ x = same_some y.0 x (sym y.1 ∙ e) in
          let is : x ≡ get_or stands.spans (length stands.spans - 1 - m) x = sym (ap (λ j. get_or stands.spans j x) back ∙ y.2 x ∙ same) in
          let r = root_at ts m below in
          let h = up.by _ r.piece (root_is m (get_or ends (length ends - 1 - m) 0) r below refl) in
          let from = ap (λ s. s.from) (r.span ∙ from_spans m x below is) in
          omega (arith, h, from);
    }

    -- a lexeme is shifted
    pub stand_shifted : (pieces' : List (Piece L)) (ends' : List ℕ) (x : L) (place : SpanModel) → IsFlatStack at (leaf x ∷ ts) pieces' ends' → span_of_places place ≡ at x → PiecesStartBy at pieces place.start → FlatStand at (leaf x ∷ ts) pieces' ends'
    stand_shifted pieces' ends' x place flat is starts =
        let spans = stands.spans in
        let up = spans_start_by place.start starts in
        record {
          flat = flat;
          spans = spans ++ place ∷ [];
          spans_are = ap reverse (map-append span_of_places spans (place ∷ [])) ∙ reverse-append (spans_of spans) (span_of_places place ∷ []) ∙ ap (λ s. s ∷ reverse (spans_of spans)) is ∙ ap (λ l. at x ∷ l) stands.spans_are;
          ascend = subst (λ l. StartsAscend (l ++ place ∷ [])) (take_all (length spans) spans (omega arith)) (ascend_pushed spans (length spans) place stands.ascend (omega arith) (λ j y lt e. up.by j y e));
        }

    -- a production is reduced
    pub reduced_span_is : (n : ℕ) (f : Forest L) (below : List (Tree L)) (place : SpanModel) → pop n ts none ≡ Some (f, below) → span_of_places place ≡ reduction_span n (stack_spans at ts) → span_of_places place ≡ span_over at (top_span at below) f
    reduced_span_is n f below place e is = is ∙ sym (span_popped n ts f below e)

    pub stand_reduced : (pieces' : List (Piece L)) (ends' : List ℕ) (p n : ℕ) (f : Forest L) (below : List (Tree L)) (place : SpanModel) → pop n ts none ≡ Some (f, below) → n ≤ length ts → span_of_places place ≡ reduction_span n (stack_spans at ts) →
        IsFlatStack at (node p f ∷ below) pieces' ends' → FlatStand at (node p f ∷ below) pieces' ends'
    stand_reduced pieces' ends' p n f below place e few is flat =
        let spans = stands.spans in
        let le : n ≤ length spans = omega (arith, few, spans_height) in
        let over = reduced_span_is n f below place e is in
        let len : length (spans_of spans) ≡ length spans = length-map spans span_of_places in
        let kept : reverse (spans_of (take (length spans - n) spans)) ≡ stack_spans at below =
        ap reverse (sym (take-map span_of_places (length spans - n) spans)) ∙ ap (λ j. reverse (take (j - n) (spans_of spans))) (sym len) ∙ sym (drop_reverse n (spans_of spans) (omega (arith, len, le))) ∙ ap (drop n) stands.spans_are ∙ sym (spans_below n ts none f below e) in
        record {
          flat = flat;
          spans = take (length spans - n) spans ++ place ∷ [];
          spans_are = ap reverse (map-append span_of_places (take (length spans - n) spans) (place ∷ [])) ∙ reverse-append (spans_of (take (length spans - n) spans)) (span_of_places place ∷ []) ∙ ap (λ l. span_of_places place ∷ l) kept ∙ ap (λ s. s ∷ stack_spans at below) over;
          ascend = ascend_reduced spans n place stands.ascend le (is ∙ ap (reduction_span n) (sym stands.spans_are));
        }

    pub start_reduced : (p n left : ℕ) (place : SpanModel) (offset : ℕ) → n ≤ length ts → span_of_places place ≡ reduction_span n (stack_spans at ts) → PiecesStartBy at pieces offset → PiecesStartBy at (pieces ++ nonterm p (span_of_places place) left ∷ []) offset
    start_reduced p n left place offset few is up =
        start_put pieces (nonterm p (span_of_places place) left) offset up
        (place_by stands.spans n place offset (spans_start_by offset up) (omega (arith, few, spans_height)) (is ∙ ap (reduction_span n) (sym stands.spans_are)))

    -- the span of a reduction, by what the code reads
    pub no_tree_span : (n : ℕ) (place : SpanModel) → length ends ≡ 0 → n ≤ length ends → place.start ≡ 0 → place.end ≡ 0 → span_of_places place ≡ reduction_span n (stack_spans at ts)
    no_tree_span n place nought few start end = nothing ts n (omega (arith, nought, ends_height)) (omega (arith, nought, few))
      where
        nothing : (us : List (Tree L)) (k : ℕ) → length us ≡ 0 → k ≡ 0 → span_of_places place ≡ reduction_span k (stack_spans at us)
        nothing [] zero z o = λ i. record { from = start i; to = end i }
        nothing [] (suc k) z o = absurd (omega (arith, o))
        nothing (u ∷ us) k z o = absurd (omega (arith, z))

    pub top_span_is : (n : ℕ) (place : SpanModel) → n < 2 → 0 < length ts → option_map (piece_span at) (slice_get pieces (length pieces - 1)) ≡ Some (span_of_places place) → span_of_places place ≡ reduction_span n (stack_spans at ts)
    top_span_is zero place few some got = span_on_top (span_of_places place) some got
    top_span_is (suc zero) place few some got = span_on_top (span_of_places place) some got
    top_span_is (suc (suc n)) place few some got = absurd (omega arith)

    pub wide_span_is : (n : ℕ) (deep top : Span) (place : SpanModel) → 0 < n → deep ≡ get_or (stack_spans at ts) (n - 1) no_span → top ≡ top_span at ts → place.start ≡ deep.from → place.end ≡ top.to → span_of_places place ≡ reduction_span n (stack_spans at ts)
    wide_span_is zero deep top place some d t start end = absurd (omega arith)
    wide_span_is (suc n) deep top place some d t start end =
        let k : suc n - 1 ≡ n = omega arith in
        λ i. record { from = (start ∙ ap (λ s. s.from) (d ∙ ap (λ j. get_or (stack_spans at ts) j no_span) k)) i; to = (end ∙ ap (λ s. s.to) t) i }
