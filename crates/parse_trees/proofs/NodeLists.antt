-- Nodes as lists, and what is made of these again.
use Rattle.std.proofs.Common.{◌≡◌, ℕ, zero, suc, ◌+◌, ◌≤◌, ◌<◌, List, [], ◌∷◌, ◌++◌, length, take, drop, reverse, Option, None, Some, map, refl, sym, ap, ◌∙◌, arith, append_assoc, append-nil, length-append, Vec, Global, rules, get_or, length-drop}
use Rattle.std.specs.Prelude.{option_and_then, option_map, ◌==◌, ◌&&◌, Bool, true, false, IsSome, slice_get}
use Rattle.std.specs.Option.{option_map_or}
use Rattle.std.proofs.lemmas.Bool.{eqb-true, eq-eqb}
use Rattle.std.specs.Borrow.{Bor}
use Rattle.std.proofs.lemmas.List.{reverse-append, length-map, map-append, take_more, take-append-drop, take_all, drop_all}
use Rattle.parse_trees.proofs.ListsAt.{drop_read}
use Rattle.cfg_base.specs.declared.symbol.RIdx.{RIdx}
use Rattle.parse_trees.specs.NodeLists.{Entry, term, nonterm, count, downward, all_downward, waiting_entries, grab, put_entry, shapes_on, entry_of, same_shape, same_shapes, same_entry, same_entries}
use Rattle.parse_trees.specs.Shapes.{Shape, Shapes, lexeme, over, nothing, along, shapes_from, shape_of, shapes_of}
use Rattle.parse_trees.specs.declared.node.Node.{Node, the_lemmas}
use Rattle.parse_trees.specs.declared.node.Node.TheVariants.{Term, Nonterm}
use Rattle.parse_trees.specs.declared.node_lists.NodeEntry.{NodeEntry}
use Rattle.parse_trees.specs.declared.node_lists.NodeEntry.TheVariants as listed

mapped_push : {X Y : Type 0} (f : X → Y) (xs : List X) (x : X) → map f (xs ++ x ∷ []) ≡ map f xs ++ f x ∷ []
mapped_push f [] x = refl
mapped_push f (y ∷ xs) x = ap (λ l. f y ∷ l) (mapped_push f xs x)

module _ {L : Type 0} where
  abbrev pub rebuild : List (Entry L) → List (Shape L) → Option (List (Shape L))
  rebuild [] ts = Some ts
  rebuild (e ∷ es) ts = option_and_then (rebuild es) (put_entry e ts)

  -- shapes from left to right, put on a stack
  abbrev pub put_on : Shapes L → List (Shape L) → List (Shape L)
  put_on nothing ts = ts
  put_on (along s ss) ts = put_on ss (s ∷ ts)

  abbrev pub joined : Shapes L → Shapes L → Shapes L
  joined nothing qs = qs
  joined (along s ss) qs = along s (joined ss qs)

  joined_nothing : (ss : Shapes L) → joined ss nothing ≡ ss
  joined_nothing nothing = refl
  joined_nothing (along s ss) = ap (along s) (joined_nothing ss)

  grabbed : (ss : Shapes L) (ts : List (Shape L)) (n : ℕ) (acc : Shapes L) → grab (put_on ss ts) (count ss + n) acc ≡ grab ts n (joined ss acc)
  grabbed nothing ts n acc = ap (λ k. grab ts k acc) (omega arith)
  grabbed (along s ss) ts n acc =
      let same : suc (count ss) + n ≡ count ss + suc n = omega arith in
      ap (λ k. grab (put_on ss (s ∷ ts)) k acc) same ∙ grabbed ss (s ∷ ts) (suc n) acc

  all_grabbed : (ss : Shapes L) (ts : List (Shape L)) → grab (put_on ss ts) (count ss) nothing ≡ Some (ss, ts)
  all_grabbed ss ts =
      let same : count ss ≡ count ss + 0 = omega arith in
      ap (λ k. grab (put_on ss ts) k nothing) same ∙ grabbed ss ts 0 nothing ∙ ap (λ g. Some (g, ts)) (joined_nothing ss)

  mutual
    pub rebuild_one : (s : Shape L) (es : List (Entry L)) (ts : List (Shape L)) → rebuild (reverse (downward s) ++ es) ts ≡ rebuild es (s ∷ ts)
    rebuild_one (lexeme x) es ts = refl
    rebuild_one (over r ss) es ts =
        let root = nonterm r (count ss) in
        let turned : reverse (root ∷ all_downward ss) ++ es ≡ reverse (all_downward ss) ++ root ∷ es = ap (λ l. l ++ es) (reverse-append (root ∷ []) (all_downward ss)) ∙ append_assoc (reverse (all_downward ss)) (root ∷ []) es in
        ap (λ l. rebuild l ts) turned ∙ rebuild_all ss (root ∷ es) ts ∙ ap (λ o. option_and_then (rebuild es) (option_map (λ (p : Shapes L × List (Shape L)). over r p.0 ∷ p.1) o)) (all_grabbed ss ts)

    rebuild_all : (ss : Shapes L) (es : List (Entry L)) (ts : List (Shape L)) → rebuild (reverse (all_downward ss) ++ es) ts ≡ rebuild es (put_on ss ts)
    rebuild_all nothing es ts = refl
    rebuild_all (along s ss) es ts =
        let turned : reverse (all_downward ss ++ downward s) ++ es ≡ reverse (downward s) ++ (reverse (all_downward ss) ++ es) = ap (λ l. l ++ es) (reverse-append (all_downward ss) (downward s)) ∙ append_assoc (reverse (downward s)) (reverse (all_downward ss)) es in
        ap (λ l. rebuild l ts) turned ∙ rebuild_one s (reverse (all_downward ss) ++ es) ts ∙ rebuild_all ss es (s ∷ ts)

  pub whole_rebuilt : (s : Shape L) → rebuild (reverse (downward s)) [] ≡ Some (s ∷ [])
  whole_rebuilt s = ap (λ l. rebuild l []) (sym (append-nil (reverse (downward s)))) ∙ rebuild_one s [] []

  -- what the topmost entries make
  from_turned : (xs : List (Shape L)) (ts : List (Shape L)) → put_on (shapes_from xs) ts ≡ reverse xs ++ ts
  from_turned [] ts = refl
  from_turned (x ∷ xs) ts = from_turned xs (x ∷ ts) ∙ sym (append_assoc (reverse xs) (x ∷ []) ts) ∙ ap (λ l. l ++ ts) (sym (reverse-append (x ∷ []) xs))

  count_from : (xs : List (Shape L)) → count (shapes_from xs) ≡ length xs
  count_from [] = refl
  count_from (x ∷ xs) = ap suc (count_from xs)

  pub grabbed_from : (below xs : List (Shape L)) (n : ℕ) → n ≡ length xs → grab (reverse (below ++ xs)) n nothing ≡ Some (shapes_from xs, reverse below)
  grabbed_from below xs n e =
      ap (λ k. grab (reverse (below ++ xs)) k nothing) (e ∙ sym (count_from xs)) ∙
      ap (λ l. grab l (count (shapes_from xs)) nothing) (reverse-append below xs ∙ sym (from_turned xs (reverse below))) ∙ all_grabbed (shapes_from xs) (reverse below)

  -- a stack that is too low for what is taken
  pub grab_enough : (ts : List (Shape L)) (n : ℕ) (acc ss : Shapes L) (rest : List (Shape L)) → grab ts n acc ≡ Some (ss, rest) → n ≤ length ts
  grab_enough ts zero acc ss rest e = omega arith
  grab_enough [] (suc n) acc ss rest e = absurd cc
  grab_enough (t ∷ ts) (suc n) acc ss rest e = let h = grab_enough ts n (along t acc) ss rest e in omega (arith, h)

  downs_snoc : (xs : List (Shape L)) (s : Shape L) → all_downward (shapes_from (xs ++ s ∷ [])) ≡ downward s ++ all_downward (shapes_from xs)
  downs_snoc [] s = sym (append-nil (downward s))
  downs_snoc (x ∷ xs) s = ap (λ l. l ++ downward x) (downs_snoc xs s) ∙ append_assoc (downward s) (all_downward (shapes_from xs)) (downward x)

  -- what is not put on a stack that is too low
  pub some_grabbed : (ts : List (Shape L)) (r n : ℕ) → IsSome (put_entry (nonterm r n) ts) → (ss : Shapes L) × (rest : List (Shape L)) × (grab ts n nothing ≡ Some (ss, rest))
  some_grabbed ts r n h = by (grab ts n nothing) refl h
    where
      by : (o : Option (Shapes L × List (Shape L))) → grab ts n nothing ≡ o → IsSome (option_map (λ (p : Shapes L × List (Shape L)). over r p.0 ∷ p.1) o) → (ss : Shapes L) × (rest : List (Shape L)) × (grab ts n nothing ≡ Some (ss, rest))
      by None e h = absurd cc
      by (Some p) e h = (p.0, p.1, e)

  pub entry_put : (ts : List (Shape L)) (r n : ℕ) (ss : Shapes L) (rest new : List (Shape L)) → grab ts n nothing ≡ Some (ss, rest) → new ≡ over r ss ∷ rest → put_entry (nonterm r n) ts ≡ Some new
  entry_put ts r n ss rest new e is = ap (option_map (λ (p : Shapes L × List (Shape L)). over r p.0 ∷ p.1)) e ∙ ap Some (sym is)

  -- a step of what is put together
  pub can_put : (e : Entry L) (es : List (Entry L)) (ts us : List (Shape L)) → rebuild (e ∷ es) ts ≡ Some us → IsSome (put_entry e ts)
  can_put e es ts us h = by (put_entry e ts) h
    where
      by : (o : Option (List (Shape L))) → option_and_then (rebuild es) o ≡ Some us → IsSome o
      by None h = absurd cc
      by (Some x) h = refl

  pub after_put : (e : Entry L) (es : List (Entry L)) (ts ts' us : List (Shape L)) → rebuild (e ∷ es) ts ≡ Some us → put_entry e ts ≡ Some ts' → rebuild es ts' ≡ Some us
  after_put e es ts ts' us h is = sym (ap (option_and_then (rebuild es)) is) ∙ h

  module _ (eq : L → L → Bool) where
    and_assoc : (a b c : Bool) → ((a && b) && c) ≡ (a && (b && c))
    and_assoc true b c = refl
    and_assoc false b c = refl

    turned_and : (a b c : Bool) → (b && (a && c)) ≡ ((a && b) && c)
    turned_and true b c = refl
    turned_and false true c = refl
    turned_and false false c = refl

    second : (a b : Bool) → (a && b) ≡ true → b ≡ true
    second true b h = h
    second false b h = absurd cc

    same_count : (ss ts : Shapes L) → same_shapes eq ss ts ≡ true → count ss ≡ count ts
    same_count nothing nothing e = refl
    same_count nothing (along t ts) e = absurd cc
    same_count (along s ss) nothing e = absurd cc
    same_count (along s ss) (along t ts) e = ap suc (same_count ss ts (second (same_shape eq s t) (same_shapes eq ss ts) e))

    other_count : (ss ts : Shapes L) → (count ss == count ts) ≡ false → same_shapes eq ss ts ≡ false
    other_count ss ts e = by (same_shapes eq ss ts) refl
      where
        by : (b : Bool) → same_shapes eq ss ts ≡ b → b ≡ false
        by false h = refl
        by true h = let same = eq-eqb (count ss) (count ts) (same_count ss ts h) in cc

    by_counts : (a k b c rest : Bool) → (k ≡ true → rest ≡ (b && c)) → (k ≡ false → b ≡ false) → ((a && k) && rest) ≡ ((a && b) && c)
    by_counts true true b c rest f g = f refl
    by_counts true false b c rest f g = ap (λ z. z && c) (sym (g refl))
    by_counts false k b c rest f g = refl

    mutual
      same_one : (s t : Shape L) (xs ys : List (Entry L)) → same_entries eq (downward s ++ xs) (downward t ++ ys) ≡ (same_shape eq s t && same_entries eq xs ys)
      same_one (lexeme x) (lexeme y) xs ys = refl
      same_one (lexeme x) (over q ts) xs ys = refl
      same_one (over r ss) (lexeme y) xs ys = refl
      same_one (over r ss) (over q ts) xs ys =
          by_counts (r == q) (count ss == count ts) (same_shapes eq ss ts) (same_entries eq xs ys) (same_entries eq (all_downward ss ++ xs) (all_downward ts ++ ys)) (λ e. same_all ss ts xs ys (eqb-true (count ss) (count ts) e)) (other_count ss ts)

      same_all : (ss ts : Shapes L) (xs ys : List (Entry L)) → count ss ≡ count ts → same_entries eq (all_downward ss ++ xs) (all_downward ts ++ ys) ≡ (same_shapes eq ss ts && same_entries eq xs ys)
      same_all nothing nothing xs ys e = refl
      same_all nothing (along t ts) xs ys e = absurd (omega (arith, e))
      same_all (along s ss) nothing xs ys e = absurd (omega (arith, e))
      same_all (along s ss) (along t ts) xs ys e =
          ap (λ l. same_entries eq l ((all_downward ts ++ downward t) ++ ys)) (append_assoc (all_downward ss) (downward s) xs) ∙
          ap (same_entries eq (all_downward ss ++ (downward s ++ xs))) (append_assoc (all_downward ts) (downward t) ys) ∙
          same_all ss ts (downward s ++ xs) (downward t ++ ys) (omega (arith, e)) ∙ ap (λ z. same_shapes eq ss ts && z) (same_one s t xs ys) ∙ turned_and (same_shape eq s t) (same_shapes eq ss ts) (same_entries eq xs ys)

    and_true : (a : Bool) → (a && true) ≡ a
    and_true true = refl
    and_true false = refl

    pub whole_same : (s t : Shape L) → same_entries eq (downward s) (downward t) ≡ same_shape eq s t
    whole_same s t = ap (λ l. same_entries eq l (downward t)) (sym (append-nil (downward s))) ∙ ap (same_entries eq (downward s ++ [])) (sym (append-nil (downward t))) ∙ same_one s t [] [] ∙ and_true (same_shape eq s t)

    pub other_length : (xs ys : List (Entry L)) → (length xs ≡ length ys → ⊥) → same_entries eq xs ys ≡ false
    other_length [] [] h = absurd (h refl)
    other_length [] (y ∷ ys) h = refl
    other_length (x ∷ xs) [] h = refl
    other_length (x ∷ xs) (y ∷ ys) h = ap (λ z. same_entry eq x y && z) (other_length xs ys (λ e. h (ap suc e))) ∙ and_false (same_entry eq x y)
      where
        and_false : (a : Bool) → (a && false) ≡ false
        and_false true = refl
        and_false false = refl

module _ {S L : Type 0} (number : S → ℕ) where
  pub shape_of-Nonterm : (r : RIdx S) (nodes : Vec (Node L S) Global) → shape_of number (Nonterm r nodes) ≡ over (number r.0) (shapes_of number nodes.items)
  shape_of-Nonterm r nodes = search (rules, the_lemmas)

  pub shape_of-Term : (x : L) → shape_of number (Term x) ≡ lexeme x
  shape_of-Term x = search (rules, the_lemmas)

  -- one more node waits
  pub one_waits : (nodes : List (Node L S)) (k : ℕ) (n : Node L S) (w : Bor (Node L S)) (waited waiting waiting' : List (Bor (Node L S))) → k < length nodes → n ≡ get_or nodes k n → w.now ≡ n → waiting' ≡ waiting ++ w ∷ [] →
      waiting_entries number (reverse waiting) ≡ all_downward (shapes_of number (take k nodes)) ++ waiting_entries number (reverse waited) →
      waiting_entries number (reverse waiting') ≡ all_downward (shapes_of number (take (k + 1) nodes)) ++ waiting_entries number (reverse waited)
  one_waits nodes k n w waited waiting waiting' lt is same e h =
      let turned : reverse waiting' ≡ w ∷ reverse waiting = ap reverse e ∙ reverse-append waiting (w ∷ []) in
      let s = shape_of number n in
      let before = map (shape_of number) (take k nodes) in
      let more : map (shape_of number) (take (k + 1) nodes) ≡ before ++ s ∷ [] = ap (map (shape_of number)) (take_more nodes k n lt ∙ ap (λ m. take k nodes ++ m ∷ []) (sym is)) ∙ mapped_push (shape_of number) (take k nodes) n in
      let rest = waiting_entries number (reverse waited) in
      ap (waiting_entries number) turned ∙ ap (λ m. downward (shape_of number m) ++ waiting_entries number (reverse waiting)) same ∙ ap (λ l. downward s ++ l) h ∙ sym (append_assoc (downward s) (all_downward (shapes_from before)) rest) ∙
      ap (λ l. l ++ rest) (sym (ap (λ l. all_downward (shapes_from l)) more ∙ downs_snoc before s))

  -- a node is listed
  pub term_listed : (n : Node L S) (x : L) (found found' : List (NodeEntry S L)) (rest : List (Entry L)) → n ≡ Term x → found' ≡ found ++ listed.Term x ∷ [] →
      map (entry_of number) found' ++ rest ≡ map (entry_of number) found ++ (downward (shape_of number n) ++ rest)
  term_listed n x found found' rest is e =
      ap (λ l. map (entry_of number) l ++ rest) e ∙ ap (λ l. l ++ rest) (mapped_push (entry_of number) found (listed.Term x)) ∙ append_assoc (map (entry_of number) found) (term x ∷ []) rest ∙
      ap (λ s. map (entry_of number) found ++ (downward s ++ rest)) (sym (ap (shape_of number) is ∙ shape_of-Term x))

  pub nonterm_listed : (n : Node L S) (r : RIdx S) (nodes : Vec (Node L S) Global) (k : ℕ) (found found' : List (NodeEntry S L)) (waited waiting : List (Entry L)) → n ≡ Nonterm r nodes → k ≡ length nodes.items → found' ≡ found ++ listed.Nonterm r k ∷ [] →
      waiting ≡ all_downward (shapes_of number nodes.items) ++ waited → map (entry_of number) found' ++ waiting ≡ map (entry_of number) found ++ (downward (shape_of number n) ++ waited)
  nonterm_listed n r nodes k found found' waited waiting is long e put =
      let counted : k ≡ count (shapes_of number nodes.items) = long ∙ sym (length-map nodes.items (shape_of number)) ∙ sym (count_from (map (shape_of number) nodes.items)) in
      let seen : shape_of number n ≡ over (number r.0) (shapes_of number nodes.items) = ap (shape_of number) is ∙ shape_of-Nonterm r nodes in
      let below = all_downward (shapes_of number nodes.items) in
      ap (λ l. map (entry_of number) l ++ waiting) e ∙ ap (λ l. l ++ waiting) (mapped_push (entry_of number) found (listed.Nonterm r k)) ∙ append_assoc (map (entry_of number) found) (nonterm (number r.0) k ∷ []) waiting ∙
      ap (λ c. map (entry_of number) found ++ (nonterm (number r.0) c ∷ waiting)) counted ∙ ap (λ l. map (entry_of number) found ++ (nonterm (number r.0) (count (shapes_of number nodes.items)) ∷ l)) put ∙
      ap (λ s. map (entry_of number) found ++ (downward s ++ waited)) (sym seen)

  -- less is left to list
  pub less_waits : (all : List (Entry L)) (found found' : List (NodeEntry S L)) (waiting waiting' : List (Bor (Node L S))) → length found' ≡ length found + 1 →
      map (entry_of number) found ++ waiting_entries number (reverse waiting) ≡ all → map (entry_of number) found' ++ waiting_entries number (reverse waiting') ≡ all →
      length (waiting_entries number (reverse waiting')) < length (waiting_entries number (reverse waiting))
  less_waits all found found' waiting waiting' more was is =
      omega (arith, more, ap length was, ap length is, length-append (map (entry_of number) found) (waiting_entries number (reverse waiting)), length-append (map (entry_of number) found') (waiting_entries number (reverse waiting')), length-map found (entry_of number), length-map found' (entry_of number))

  -- the next one is listed
  pub next_listed : (all : List (Entry L)) (found found' : List (NodeEntry S L)) (waiting below waiting' : List (Bor (Node L S))) (w : Bor (Node L S)) → waiting ≡ below ++ w ∷ [] →
      map (entry_of number) found ++ waiting_entries number (reverse waiting) ≡ all →
      map (entry_of number) found' ++ waiting_entries number (reverse waiting') ≡ map (entry_of number) found ++ (downward (shape_of number w.now) ++ waiting_entries number (reverse below)) →
      map (entry_of number) found' ++ waiting_entries number (reverse waiting') ≡ all
  next_listed all found found' waiting below waiting' w e was is =
      let turned : reverse waiting ≡ w ∷ reverse below = ap reverse e ∙ reverse-append below (w ∷ []) in
      is ∙ sym (ap (λ l. map (entry_of number) found ++ waiting_entries number l) turned) ∙ was

  -- the last nodes become children
  pub last_joined : (made made' : List (Node L S)) (r : RIdx S) (nodes : Vec (Node L S) Global) (left n : ℕ) (ss : Shapes L) (rest : List (Shape L)) → left + n ≡ length made → nodes.items ≡ drop left made → made' ≡ take left made ++ Nonterm r nodes ∷ [] →
      grab (shapes_on number made) n nothing ≡ Some (ss, rest) → shapes_on number made' ≡ over (number r.0) ss ∷ rest
  last_joined made made' r nodes left n ss rest whole is_nodes is_made is =
      let f : Node L S → Shape L = shape_of number in
      let parted : map f made ≡ map f (take left made) ++ map f (drop left made) = ap (map f) (sym (take-append-drop left made)) ∙ map-append f (take left made) (drop left made) in
      let long : n ≡ length (map f (drop left made)) = omega (arith, whole, length-map (drop left made) f, length-drop left made) in
      let found = sym (ap (λ l. grab (reverse l) n nothing) parted ∙ grabbed_from (map f (take left made)) (map f (drop left made)) n long) ∙ is in
      let kids : shapes_from (map f (drop left made)) ≡ ss = ap (λ (o : Option (Shapes L × List (Shape L))). option_map_or (λ (p : Shapes L × List (Shape L)). p.0) o nothing) found in
      let others : reverse (map f (take left made)) ≡ rest = ap (λ (o : Option (Shapes L × List (Shape L))). option_map_or (λ (p : Shapes L × List (Shape L)). p.1) o []) found in
      ap (shapes_on number) is_made ∙ ap reverse (mapped_push f (take left made) (Nonterm r nodes)) ∙ reverse-append (map f (take left made)) (f (Nonterm r nodes) ∷ []) ∙
      ap (λ s. s ∷ reverse (map f (take left made))) (shape_of-Nonterm r nodes ∙ ap (λ ks. over (number r.0) (shapes_of number ks)) is_nodes ∙ ap (over (number r.0)) kids) ∙ ap (λ l. over (number r.0) ss ∷ l) others

  pub pushed_on : (made made' : List (Node L S)) (n : Node L S) → made' ≡ made ++ n ∷ [] → shapes_on number made' ≡ shape_of number n ∷ shapes_on number made
  pushed_on made made' n e = ap (shapes_on number) e ∙ ap reverse (mapped_push (shape_of number) made n) ∙ reverse-append (map (shape_of number) made) (shape_of number n ∷ [])

  -- the last node becomes an only child
  pub one_joined : (made below made' : List (Node L S)) (r : RIdx S) (child : Node L S) (nodes : Vec (Node L S) Global) (ss : Shapes L) (rest : List (Shape L)) → made ≡ below ++ child ∷ [] → nodes.items ≡ child ∷ [] → made' ≡ below ++ Nonterm r nodes ∷ [] →
      grab (shapes_on number made) 1 nothing ≡ Some (ss, rest) → shapes_on number made' ≡ over (number r.0) ss ∷ rest
  one_joined made below made' r child nodes ss rest is_made is_nodes is_new is =
      let found : Some (along (shape_of number child) nothing, shapes_on number below) ≡ Some (ss, rest) = sym (ap (λ l. grab l 1 nothing) (pushed_on below made child is_made)) ∙ is in
      let kids : along (shape_of number child) nothing ≡ ss = ap (λ (o : Option (Shapes L × List (Shape L))). option_map_or (λ (p : Shapes L × List (Shape L)). p.0) o nothing) found in
      let others : shapes_on number below ≡ rest = ap (λ (o : Option (Shapes L × List (Shape L))). option_map_or (λ (p : Shapes L × List (Shape L)). p.1) o []) found in
      pushed_on below made' (Nonterm r nodes) is_new ∙
      ap (λ s. s ∷ shapes_on number below) (shape_of-Nonterm r nodes ∙ ap (λ ks. over (number r.0) (shapes_of number ks)) is_nodes ∙ ap (over (number r.0)) kids) ∙ ap (λ l. over (number r.0) ss ∷ l) others

  -- the entry before those that were taken is next
  pub next_entry : (entries : List (NodeEntry S L)) (m : ℕ) (e : NodeEntry S L) → m < length entries → e ≡ get_or entries m e → reverse (map (entry_of number) (take (m + 1) entries)) ≡ entry_of number e ∷ reverse (map (entry_of number) (take m entries))
  next_entry entries m e lt is =
      ap (λ l. reverse (map (entry_of number) l)) (take_more entries m e lt ∙ ap (λ x. take m entries ++ x ∷ []) (sym is)) ∙ ap reverse (mapped_push (entry_of number) (take m entries) e) ∙ reverse-append (map (entry_of number) (take m entries)) (entry_of number e ∷ [])

  pub one_left : (made below : List (Node L S)) (n : Node L S) (s : Shape L) → made ≡ below ++ n ∷ [] → shapes_on number made ≡ s ∷ [] → shape_of number n ≡ s
  one_left made below n s e is = let h = sym (pushed_on below made n e) ∙ is in let first : Some (shape_of number n) ≡ Some s = ap (λ l. slice_get l 0) h in cc

  pub none_is_left : (made : List (Node L S)) (s : Shape L) → made ≡ [] → shapes_on number made ≡ s ∷ [] → ⊥
  none_is_left made s e is = let h : [] ≡ s ∷ [] = sym (ap (shapes_on number) e) ∙ is in cc

  pub term_put : (made made' : List (Node L S)) (x : L) → made' ≡ made ++ Term x ∷ [] → put_entry (term x) (shapes_on number made) ≡ Some (shapes_on number made')
  term_put made made' x e = ap Some (sym (pushed_on made made' (Term x) e ∙ ap (λ s. s ∷ shapes_on number made) (shape_of-Term x)))

  pub rebuild_begins : (entries : List (NodeEntry S L)) (made : List (Node L S)) (k : ℕ) (s : Shape L) → length entries ≤ k → made ≡ [] → map (entry_of number) entries ≡ downward s → rebuild (reverse (map (entry_of number) (take k entries))) (shapes_on number made) ≡ Some (s ∷ [])
  rebuild_begins entries made k s whole none e =
      ap (λ l. rebuild (reverse (map (entry_of number) l)) (shapes_on number made)) (take_all k entries whole) ∙ ap (λ l. rebuild (reverse l) (shapes_on number made)) e ∙ ap (λ l. rebuild (reverse (downward s)) (shapes_on number l)) none ∙ whole_rebuilt s

  pub rebuild_next : (entries : List (NodeEntry S L)) (m k : ℕ) (e : NodeEntry S L) (ts us : List (Shape L)) → k ≡ m + 1 → m < length entries → e ≡ get_or entries m e → rebuild (reverse (map (entry_of number) (take k entries))) ts ≡ Some us →
      rebuild (entry_of number e ∷ reverse (map (entry_of number) (take m entries))) ts ≡ Some us
  rebuild_next entries m k e ts us same lt is h = ap (λ l. rebuild l ts) (sym (next_entry entries m e lt is)) ∙ ap (λ j. rebuild (reverse (map (entry_of number) (take j entries))) ts) (sym same) ∙ h

  pub rebuild_ends : (entries : List (NodeEntry S L)) (k : ℕ) (ts us : List (Shape L)) → k ≡ 0 → rebuild (reverse (map (entry_of number) (take k entries))) ts ≡ Some us → ts ≡ us
  rebuild_ends entries k ts us z h = let e : Some ts ≡ Some us = sym (ap (λ j. rebuild (reverse (map (entry_of number) (take j entries))) ts) z) ∙ h in cc

  -- lists differ where their entries do
  pub same_step : (eq : L → L → Bool) (xs ys : List (NodeEntry S L)) (k : ℕ) (x y : NodeEntry S L) → k < length xs → k < length ys → x ≡ get_or xs k x → y ≡ get_or ys k y →
      same_entries eq (map (entry_of number) (drop k xs)) (map (entry_of number) (drop k ys)) ≡ (same_entry eq (entry_of number x) (entry_of number y) && same_entries eq (map (entry_of number) (drop (k + 1) xs)) (map (entry_of number) (drop (k + 1) ys)))
  same_step eq xs ys k x y lt lu is it =
      ap (λ l. same_entries eq (map (entry_of number) l) (map (entry_of number) (drop k ys))) (drop_read xs k x lt is) ∙ ap (λ l. same_entries eq (map (entry_of number) (x ∷ drop (k + 1) xs)) (map (entry_of number) l)) (drop_read ys k y lu it)

  pub same_end : (eq : L → L → Bool) (xs ys : List (NodeEntry S L)) (k : ℕ) → length xs ≤ k → length ys ≤ k → same_entries eq (map (entry_of number) (drop k xs)) (map (entry_of number) (drop k ys)) ≡ true
  same_end eq xs ys k le lf = ap (λ l. same_entries eq (map (entry_of number) l) (map (entry_of number) (drop k ys))) (drop_all k xs le) ∙ ap (λ l. same_entries eq [] (map (entry_of number) l)) (drop_all k ys lf)
