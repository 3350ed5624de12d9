-- Stacks of trees whose nodes stand in one list.
use Rattle.std.proofs.Common.{◌≡◌, ℕ, zero, suc, ◌-◌, ◌+◌, ◌<◌, List, [], ◌∷◌, ◌++◌, length, take, drop, get_or, get_or-drop, add-zero, reverse, Some, refl, sym, ap, ◌∙◌, arith, append_assoc, append-nil, length-append}
use Rattle.std.proofs.lemmas.List.{reverse-append, length-reverse, get_or-reverse}
use Rattle.cfg_theory.specs.Tree.{Tree, node, Forest, none, before}
use Rattle.cfg_theory.specs.Fold.{Span, span_over}
use Rattle.lr_theory.specs.Machine.{pop}
use Rattle.lr_theory.specs.StackValues.{top_span}
use Rattle.lr_theory.proofs.Tops.{drop_reverse}
use Rattle.parse_trees.specs.FlatTrees.{Piece, nonterm, flat, flats, flat_stack, stack_ends, IsFlatStack}

reverse_pushed : {X : Type 0} (xs : List X) (x : X) → reverse (xs ++ x ∷ []) ≡ x ∷ reverse xs
reverse_pushed xs x = reverse-append xs (x ∷ [])

module _ {L : Type 0} (at : L → Span) where
  -- how many nodes stand below what a reduction takes
  pub ends_below : (n : ℕ) (ts : List (Tree L)) (acc f : Forest L) (below : List (Tree L)) → pop n ts acc ≡ Some (f, below) → stack_ends at below ≡ drop n (stack_ends at ts)
  ends_below zero ts acc f below e = let z : ◌≡◌ {A = Forest L × List (Tree L)} (acc, ts) (f, below) = cc in ap (λ u. stack_ends at u.1) (sym z)
  ends_below (suc n) [] acc f below e = cc
  ends_below (suc n) (t ∷ ts) acc f below e = ends_below n ts (before t acc) f below e

  -- what it takes stands behind these
  pub popped : (n : ℕ) (ts : List (Tree L)) (acc f : Forest L) (below : List (Tree L)) → pop n ts acc ≡ Some (f, below) →
      flat_stack at ts ++ flats at (top_span at ts) acc ≡ flat_stack at below ++ flats at (top_span at below) f
  popped zero ts acc f below e = let z : ◌≡◌ {A = Forest L × List (Tree L)} (acc, ts) (f, below) = cc in ap (λ (u : Forest L × List (Tree L)). flat_stack at u.1 ++ flats at (top_span at u.1) u.0) z
  popped (suc n) [] acc f below e = cc
  popped (suc n) (t ∷ ts) acc f below e = append_assoc (flat_stack at ts) (flat at (top_span at ts) t) (flats at (top_span at (t ∷ ts)) acc) ∙ popped n ts (before t acc) f below e

  pub enough : (n : ℕ) (ts : List (Tree L)) (acc f : Forest L) (below : List (Tree L)) → pop n ts acc ≡ Some (f, below) → length ts ≡ n + length below
  enough zero ts acc f below e = let z : ◌≡◌ {A = Forest L × List (Tree L)} (acc, ts) (f, below) = cc in let h : length ts ≡ length below = ap (λ (u : Forest L × List (Tree L)). length u.1) z in omega (arith, h)
  enough (suc n) [] acc f below e = cc
  enough (suc n) (t ∷ ts) acc f below e = let h = enough n ts (before t acc) f below e in omega (arith, h)

  pub ends_length : (ts : List (Tree L)) → length (stack_ends at ts) ≡ length ts
  ends_length [] = refl
  ends_length (t ∷ ts) = ap suc (ends_length ts)

  -- the topmost end is the number of all nodes
  pub top_end : (ts : List (Tree L)) (d : ℕ) → 0 < length ts → get_or (stack_ends at ts) 0 d ≡ length (flat_stack at ts)
  top_end [] d some = absurd (omega arith)
  top_end (t ∷ ts) d some = refl

  module _ (ts : List (Tree L)) (pieces : List (Piece L)) (ends : List ℕ) (n : ℕ) (f : Forest L) (below : List (Tree L)) (stands : IsFlatStack at ts pieces ends) (is : pop n ts none ≡ Some (f, below)) where
    pub height : length ends ≡ n + length below
    height = omega (arith, length-reverse ends, ap length stands.ends_are, ends_length ts, enough n ts none f below is)

    -- the ends that are left
    pub left_ends : reverse (take (length ends - n) ends) ≡ stack_ends at below
    left_ends = sym (drop_reverse n ends (omega (arith, height))) ∙ ap (drop n) stands.ends_are ∙ sym (ends_below n ts none f below is)

    -- the nodes before what is taken
    pub start_at : (k d : ℕ) → suc k ≡ length below → get_or ends k d ≡ length (flat_stack at below)
    start_at k d e =
        let some : n < length ends = omega (arith, height) in
        let place : length ends - 1 - n ≡ k = omega (arith, height) in
        ap (λ j. get_or ends j d) (sym place) ∙ sym (get_or-reverse ends n d some) ∙ ap (λ l. get_or l n d) stands.ends_are ∙ sym (ap (λ j. get_or (stack_ends at ts) j d) (add-zero n)) ∙ sym (get_or-drop n (stack_ends at ts) 0 d) ∙ ap (λ l. get_or l 0 d) (sym (ends_below n ts none f below is)) ∙ top_end below d (omega arith)

    pub split_at : pieces ≡ flat_stack at below ++ flats at (top_span at below) f
    split_at = stands.pieces_are ∙ sym (append-nil (flat_stack at ts)) ∙ popped n ts none f below is

    pub split_length : length pieces ≡ length (flat_stack at below) + length (flats at (top_span at below) f)
    split_length = ap length split_at ∙ length-append (flat_stack at below) (flats at (top_span at below) f)

    -- the new node stands behind them
    pub reduced : (pieces' : List (Piece L)) (ends' : List ℕ) (p below_count start end : ℕ) (span : Span) → span ≡ span_over at (top_span at below) f → start ≡ length (flat_stack at below) → below_count + start ≡ length pieces →
        pieces' ≡ pieces ++ nonterm p span below_count ∷ [] → end ≡ length pieces' → ends' ≡ take (length ends - n) ends ++ end ∷ [] → IsFlatStack at (node p f ∷ below) pieces' ends'
    reduced pieces' ends' p below_count start end span is_span is_start is_count is_pieces is_end is_ends =
        let long = split_length in
        let counted : below_count ≡ length (flats at (top_span at below) f) = omega arith in
        let all : pieces' ≡ flat_stack at (node p f ∷ below) =
        is_pieces ∙ ap (λ s. pieces ++ nonterm p s below_count ∷ []) is_span ∙ ap (λ b. pieces ++ nonterm p (span_over at (top_span at below) f) b ∷ []) counted ∙ ap (λ l. l ++ nonterm p (span_over at (top_span at below) f) (length (flats at (top_span at below) f)) ∷ []) split_at ∙
        append_assoc (flat_stack at below) (flats at (top_span at below) f) (nonterm p (span_over at (top_span at below) f) (length (flats at (top_span at below) f)) ∷ []) in
        record {
          pieces_are = all;
          ends_are = ap reverse is_ends ∙ reverse_pushed (take (length ends - n) ends) end ∙ ap (λ e. e ∷ reverse (take (length ends - n) ends)) (is_end ∙ ap length all) ∙ ap (λ l. length (flat_stack at (node p f ∷ below)) ∷ l) left_ends;
        }

    -- and without nodes below where it takes all
    pub none_below : length ends ≡ n → length (flat_stack at below) ≡ 0
    none_below e = nothing below (omega (arith, height))
      where
        nothing : (us : List (Tree L)) → length us ≡ 0 → length (flat_stack at us) ≡ 0
        nothing [] z = refl
        nothing (u ∷ us) z = absurd (omega arith)
