-- Outlines of stacks of trees.
use Rattle.std.proofs.Common.{◌≡◌, ℕ, suc, ◌-◌, ◌+◌, ◌⊎◌, inl, inr, Bool, false, List, [], ◌∷◌, ◌++◌, map, length, take, reverse, Some, refl, sym, ap, ◌∙◌, arith, length-append}
use Rattle.std.proofs.lemmas.List.{map-append, reverse-append}
use Rattle.cfg_theory.specs.Fold.{Span, no_span, span_over}
use Rattle.cfg_theory.specs.Tree.{Tree, leaf, node, Forest, none}
use Rattle.lr_theory.specs.Machine.{pop}
use Rattle.lr_theory.specs.StackValues.{top_span}
use Rattle.parse_trees.specs.FlatTrees.{Piece, term, nonterm, flat, flat_stack, stack_ends}
use Rattle.parse_trees.specs.Outlines.{Mark, leaf_mark, prod_mark, mark_by, erased, unplaced, OutlineValue, IsOutline, IsOutlineStack}
use Rattle.parse_trees.proofs.FlatStacks.{reduced}

marked : (p reach below_count : ℕ) → (reach ≡ 0) ⊎ (reach ≡ below_count + 1) → (reach ≡ 0 → ⊥) → mark_by p reach ≡ prod_mark p below_count
marked p reach below_count either some = elim either [
  | inl z ↦ absurd (some z)
  | inr e ↦ (let same : reach ≡ suc below_count = omega (arith, e) in ap (mark_by p) same)
]

module _ {L : Type 0} where
  pub no_trees : (marks : List Mark) (ends : List ℕ) (large : Bool) → marks ≡ [] → ends ≡ [] → IsOutlineStack {L = L} [] marks ends large
  no_trees marks ends large none_marked no_ends = record {
    pieces = [];
    flat = record { pieces_are = refl; ends_are = ap reverse no_ends };
    count = ap length none_marked;
    are = λ small. none_marked;
  }

  pub shifted : (ts : List (Tree L)) (marks marks' : List Mark) (ends ends' : List ℕ) (large : Bool) (x : L) → IsOutlineStack ts marks ends large →
      marks' ≡ marks ++ leaf_mark ∷ [] → ends' ≡ ends ++ length marks' ∷ [] → IsOutlineStack (leaf x ∷ ts) marks' ends' large
  shifted ts marks marks' ends ends' large x h is_marks is_ends =
      let pieces' : List (Piece L) = h.pieces ++ term x ∷ [] in
      let all : pieces' ≡ flat_stack unplaced (leaf x ∷ ts) = ap (λ l. l ++ term x ∷ []) h.flat.pieces_are in
      let counted = h.count in
      let long : length marks' ≡ length pieces' = omega (arith, ap length is_marks, counted, length-append marks (leaf_mark ∷ []), length-append h.pieces (term x ∷ [])) in
      record {
        pieces = pieces';
        flat = record {
          pieces_are = all;
          ends_are = ap reverse is_ends ∙ reverse-append ends (length marks' ∷ []) ∙ ap (λ e. e ∷ reverse ends) (long ∙ ap length all) ∙ ap (λ l. length (flat_stack unplaced (leaf x ∷ ts)) ∷ l) h.flat.ends_are;
        };
        count = long;
        are = λ small. is_marks ∙ ap (λ l. l ++ leaf_mark ∷ []) (h.are small) ∙ sym (map-append erased h.pieces (term x ∷ []));
      }

  pub put_reduced : (ts below : List (Tree L)) (f : Forest L) (marks marks' : List Mark) (ends ends' : List ℕ) (large large' : Bool) (n p start reach below_count : ℕ) → IsOutlineStack ts marks ends large → pop n ts none ≡ Some (f, below) →
      start ≡ length (flat_stack unplaced below) → below_count + start ≡ length marks → (reach ≡ 0) ⊎ (reach ≡ below_count + 1) → (large' ≡ false → (large ≡ false) × (reach ≡ 0 → ⊥)) →
      marks' ≡ marks ++ mark_by p reach ∷ [] → ends' ≡ take (length ends - n) ends ++ length marks' ∷ [] → IsOutlineStack (node p f ∷ below) marks' ends' large'
  put_reduced ts below f marks marks' ends ends' large large' n p start reach below_count h is is_start is_count either is_large is_marks is_ends =
      let span : Span = span_over unplaced (top_span unplaced below) f in
      let pieces' : List (Piece L) = h.pieces ++ nonterm p span below_count ∷ [] in
      let counted = h.count in
      let long : length marks' ≡ length pieces' = omega (arith, ap length is_marks, counted, length-append marks (mark_by p reach ∷ []), length-append h.pieces (nonterm p span below_count ∷ [])) in
      record {
        pieces = pieces';
        flat = reduced unplaced ts h.pieces ends n f below h.flat is pieces' ends' p below_count start (length marks') span refl is_start (is_count ∙ counted) refl long is_ends;
        count = long;
        are = λ small.
            let k = is_large small in
            is_marks ∙ ap (λ l. l ++ mark_by p reach ∷ []) (h.are k.0) ∙ ap (λ m. map erased h.pieces ++ m ∷ []) (marked p reach below_count either k.1) ∙ sym (map-append erased h.pieces (nonterm p span below_count ∷ []));
      }

  -- the one tree on a stack
  pub one_tree : (t : Tree L) (marks : List Mark) (ends : List ℕ) (large : Bool) → large ≡ false → IsOutlineStack (t ∷ []) marks ends large → IsOutline t (record { marks = marks })
  one_tree t marks ends large small h = record { pieces = h.pieces; flat = record { pieces_are = h.flat.pieces_are }; are = h.are small }
