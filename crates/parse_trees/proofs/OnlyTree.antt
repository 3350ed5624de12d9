-- A list of nodes, read from its front, gives back the one tree that it stands for.
use Rattle.std.proofs.Common.{◌≡◌, ℕ, zero, suc, ◌+◌, ◌-◌, ◌≤◌, List, [], ◌∷◌, ◌++◌, length, Option, None, Some, refl, sym, ap, ◌∙◌, arith, append_assoc, append-nil}
use Rattle.std.specs.Prelude.{nat_le, option_and_then, option_map, if◌then◌else◌}
use Rattle.cfg_theory.specs.Tree.{Tree, leaf, node, Forest, none, before}
use Rattle.cfg_theory.specs.Fold.{Span, no_span, span_of, span_over}
use Rattle.parse_trees.specs.FlatTrees.{Piece, term, nonterm, flat, flats, size, sizes, IsFlat}
use Rattle.parse_trees.proofs.FlatWalks.{flats_length, size_is}
use Rattle.std.proofs.lemmas.Bool.{le-leb}

-- the topmost trees that have n nodes in all, before what is given, and the rest
abbrev pub gather : {L : Type 0} → List (Tree L) → ℕ → Forest L → Option (Forest L × List (Tree L))
gather ts zero acc = Some (acc, ts)
gather [] (suc n) acc = None
gather (t ∷ ts) (suc n) acc = if nat_le (size t) (suc n) then gather ts (suc n - size t) (before t acc) else None

-- a stack of trees, whose top comes first, with a node's on it
abbrev pub put_piece : {L : Type 0} → Piece L → List (Tree L) → Option (List (Tree L))
put_piece (term x) ts = Some (leaf x ∷ ts)
put_piece (nonterm p span n) ts = option_map (λ g. node p g.0 ∷ g.1) (gather ts n none)

module _ {L : Type 0} where
  abbrev pub decode : List (Piece L) → List (Tree L) → Option (List (Tree L))
  decode [] ts = Some ts
  decode (p ∷ ps) ts = option_and_then (decode ps) (put_piece p ts)

  -- trees from left to right, put on a stack
  abbrev pub put_on : Forest L → List (Tree L) → List (Tree L)
  put_on none ts = ts
  put_on (before t f) ts = put_on f (t ∷ ts)

  abbrev pub joined : Forest L → Forest L → Forest L
  joined none g = g
  joined (before t f) g = before t (joined f g)

  pub joined_none : (f : Forest L) → joined f none ≡ f
  joined_none none = refl
  joined_none (before t f) = ap (before t) (joined_none f)

  gathered_at : (t : Tree L) (ts : List (Tree L)) (n m : ℕ) (acc : Forest L) → size t + n ≡ suc m → gather (t ∷ ts) (size t + n) acc ≡ gather ts n (before t acc)
  gathered_at t ts n m acc e =
      let fits : size t ≤ suc m = omega (arith, e) in
      ap (λ k. gather (t ∷ ts) k acc) e ∙ ap (λ b. if b then gather ts (suc m - size t) (before t acc) else None) (le-leb (size t) (suc m) fits) ∙ ap (λ k. gather ts k (before t acc)) (omega (arith, e))

  gathered_one : (t : Tree L) (ts : List (Tree L)) (n : ℕ) (acc : Forest L) → gather (t ∷ ts) (size t + n) acc ≡ gather ts n (before t acc)
  gathered_one t ts n acc = gathered_at t ts n (size t + n - 1) acc (omega (arith, size_is t))

  gathered : (f : Forest L) (ts : List (Tree L)) (n : ℕ) (acc : Forest L) → gather (put_on f ts) (sizes f + n) acc ≡ gather ts n (joined f acc)
  gathered none ts n acc = ap (λ k. gather ts k acc) (omega arith)
  gathered (before t f) ts n acc =
      let same : size t + sizes f + n ≡ sizes f + (size t + n) = omega arith in
      ap (λ k. gather (put_on f (t ∷ ts)) k acc) same ∙ gathered f (t ∷ ts) (size t + n) acc ∙ gathered_one t ts n (joined f acc)

  all_gathered : (f : Forest L) (ts : List (Tree L)) → gather (put_on f ts) (sizes f) none ≡ Some (f, ts)
  all_gathered f ts =
      let same : sizes f ≡ sizes f + 0 = omega arith in
      ap (λ k. gather (put_on f ts) k none) same ∙ gathered f ts 0 none ∙ ap (λ g. Some (g, ts)) (joined_none f)

  module _ (at : L → Span) where
    mutual
      decode_one : (left : Span) (t : Tree L) (ps : List (Piece L)) (ts : List (Tree L)) → decode (flat at left t ++ ps) ts ≡ decode ps (t ∷ ts)
      decode_one left (leaf x) ps ts = refl
      decode_one left (node p f) ps ts =
          let root = nonterm p (span_over at left f) (length (flats at left f)) in
          let taken : put_piece root (put_on f ts) ≡ Some (node p f ∷ ts) = ap (λ n. put_piece (nonterm p (span_over at left f) n) (put_on f ts)) (flats_length at left f) ∙ ap (option_map (λ (g : Forest L × List (Tree L)). node p g.0 ∷ g.1)) (all_gathered f ts) in
          ap (λ l. decode l ts) (append_assoc (flats at left f) (root ∷ []) ps) ∙ decode_all left f (root ∷ ps) ts ∙ ap (option_and_then (decode ps)) taken

      decode_all : (left : Span) (f : Forest L) (ps : List (Piece L)) (ts : List (Tree L)) → decode (flats at left f ++ ps) ts ≡ decode ps (put_on f ts)
      decode_all left none ps ts = refl
      decode_all left (before t f) ps ts = ap (λ l. decode l ts) (append_assoc (flat at left t) (flats at (span_of at left t) f) ps) ∙ decode_one left t (flats at (span_of at left t) f ++ ps) ts ∙ decode_all (span_of at left t) f ps (t ∷ ts)

    pub whole_decoded : (t : Tree L) (pieces : List (Piece L)) → IsFlat at t pieces → decode pieces [] ≡ Some (t ∷ [])
    whole_decoded t pieces is = ap (λ l. decode l []) (is.pieces_are ∙ sym (append-nil (flat at no_span t))) ∙ decode_one no_span t [] []

    pub only_tree : (t u : Tree L) (pieces : List (Piece L)) → IsFlat at t pieces → IsFlat at u pieces → t ≡ u
    only_tree t u pieces is_t is_u = let one : Some (t ∷ []) ≡ Some (u ∷ []) = sym (whole_decoded t pieces is_t) ∙ whole_decoded u pieces is_u in cc
