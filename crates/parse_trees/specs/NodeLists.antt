-- Trees by rules as lists of their nodes.
use Rattle.std.specs.Prelude.{ℕ, zero, suc, ◌==◌, ◌&&◌, Bool, true, false, List, [], ◌∷◌, ◌++◌, map, reverse, Option, None, Some, option_map}
use Rattle.std.specs.Borrow.{Bor}
use Rattle.parse_trees.specs.Shapes.{Shape, Shapes, lexeme, over, nothing, along, shape_of}
use Rattle.parse_trees.specs.declared.node.Node.{Node}
use Rattle.parse_trees.specs.declared.node_lists.NodeEntry.{NodeEntry}
use Rattle.parse_trees.specs.declared.node_lists.NodeEntry.TheVariants as listed

-- a lexeme, or a rule's number and how many children its node has
pub data Entry (L : Type 0) : Type 0 where
  term : L → Entry L
  nonterm : ℕ → ℕ → Entry L

abbrev pub entry_of : {S L : Type 0} → (S → ℕ) → NodeEntry S L → Entry L
entry_of number (listed.Term x) = term x
entry_of number (listed.Nonterm r n) = nonterm (number r.0) n

abbrev pub count : {L : Type 0} → Shapes L → ℕ
count nothing = 0
count (along s ss) = suc (count ss)

abbrev mutual
  -- each node before its children, these from right to left
  pub downward : {L : Type 0} → Shape L → List (Entry L)
  downward (lexeme x) = term x ∷ []
  downward (over r ss) = nonterm r (count ss) ∷ all_downward ss

  pub all_downward : {L : Type 0} → Shapes L → List (Entry L)
  all_downward nothing = []
  all_downward (along s ss) = all_downward ss ++ downward s

-- what nodes that wait come to, the next one first
abbrev pub waiting_entries : {S L : Type 0} → (S → ℕ) → List (Bor (Node L S)) → List (Entry L)
waiting_entries number [] = []
waiting_entries number (w ∷ ws) = downward (shape_of number w.now) ++ waiting_entries number ws

-- what the n topmost of these make, from the deepest on, before what is given, and the rest
abbrev pub grab : {L : Type 0} → List (Shape L) → ℕ → Shapes L → Option (Shapes L × List (Shape L))
grab ts zero acc = Some (acc, ts)
grab [] (suc n) acc = None
grab (t ∷ ts) (suc n) acc = grab ts n (along t acc)

-- a stack of shapes, whose top comes first, with an entry's on it
abbrev pub put_entry : {L : Type 0} → Entry L → List (Shape L) → Option (List (Shape L))
put_entry (term x) ts = Some (lexeme x ∷ ts)
put_entry (nonterm r n) ts = option_map (λ p. over r p.0 ∷ p.1) (grab ts n nothing)

-- nodes as such a stack: the last one is on top
abbrev pub shapes_on : {S L : Type 0} → (S → ℕ) → List (Node L S) → List (Shape L)
shapes_on number nodes = reverse (map (shape_of number) nodes)

module _ {L : Type 0} (eq : L → L → Bool) where
  abbrev mutual
    -- lexemes where lexemes are, and the same rules
    pub same_shape : Shape L → Shape L → Bool
    same_shape (lexeme x) (lexeme y) = eq x y
    same_shape (lexeme x) (over q ts) = false
    same_shape (over r ss) (lexeme y) = false
    same_shape (over r ss) (over q ts) = (r == q) && same_shapes ss ts

    pub same_shapes : Shapes L → Shapes L → Bool
    same_shapes nothing nothing = true
    same_shapes nothing (along t ts) = false
    same_shapes (along s ss) nothing = false
    same_shapes (along s ss) (along t ts) = same_shape s t && same_shapes ss ts

  abbrev pub same_entry : Entry L → Entry L → Bool
  same_entry (term x) (term y) = eq x y
  same_entry (term x) (nonterm q m) = false
  same_entry (nonterm r n) (term y) = false
  same_entry (nonterm r n) (nonterm q m) = (r == q) && (n == m)

  abbrev pub same_entries : List (Entry L) → List (Entry L) → Bool
  same_entries [] [] = true
  same_entries [] (y ∷ ys) = false
  same_entries (x ∷ xs) [] = false
  same_entries (x ∷ xs) (y ∷ ys) = same_entry x y && same_entries xs ys
