-- A tree of a grammar is put together again from its list of nodes, front to back.
use Rattle.std.specs.Prelude.{suc, nat_le, List, [], ◌∷◌, length, Option, None, Some, option_map, option_and_then, if◌then◌else◌}
use Rattle.cfg_theory.specs.Grammar.{Grammar, body_of}
use Rattle.cfg_theory.specs.Tree.{Tree, leaf, node, Forest, none}
use Rattle.lr_theory.specs.Machine.{pop}
use Rattle.parse_trees.specs.FlatTrees.{Piece, term, nonterm}

module _ {L : Type 0} (G : Grammar) where
  -- a stack of trees, whose top comes first, with a node's on it: it takes as many as its production has symbols
  abbrev pub put : Piece L → List (Tree L) → Option (List (Tree L))
  put (term x) ts = Some (leaf x ∷ ts)
  put (nonterm p span n) ts = if nat_le (suc p) (length G.productions) then option_map (λ (g : Forest L × List (Tree L)). node p g.0 ∷ g.1) (pop (length (body_of G p)) ts none) else None

  abbrev pub put_each : List (Piece L) → List (Tree L) → Option (List (Tree L))
  put_each [] ts = Some ts
  put_each (p ∷ ps) ts = option_and_then (put_each ps) (put p ts)
