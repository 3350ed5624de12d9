-- The lines of nodes that wait.
use Rattle.std.proofs.Common.{◌≡◌, ℕ, suc, ◌+◌, ◌≤◌, ◌<◌, List, [], ◌∷◌, ◌++◌, length, drop, get_or, reverse, refl, sym, ap, ◌∙◌, subst, arith, append_assoc, length-append, replicate, drop-cons, rules, Vec, Global}
use Rattle.std.specs.Prelude.{slice_range}
use Rattle.std.proofs.lemmas.List.{reverse-append, length-replicate}
use Rattle.cfg_numbered.specs.Value.{GrammarValue}
use Rattle.parse_trees.specs.Lex.{Lex}
use Rattle.cfg_base.specs.declared.symbol.RIdx.{RIdx}
use Rattle.parse_trees.specs.declared.node.Node.{Node, the_lemmas}
use Rattle.parse_trees.specs.declared.node.Node.TheVariants.{Nonterm}
use Rattle.parse_trees.specs.declared.node.Waiting.{Waiting}
use Rattle.parse_trees.specs.Shapes.{over, rule_line, lexeme_line, rule_text, token_text, shape_of, shapes_of, tree_text, trees_text, waiting_text, CanShow, CanShowAll, CanShowWaiting}

module _ {L S : Type 0} (lex : L → Lex) (number : S → ℕ) where
  -- the nodes were put on those that waited, the first one on top
  pub record Put (depth : ℕ) (nodes : List (Node L S)) (waited waiting : List (Waiting L S)) : Type 0 where
    pub text : (g : GrammarValue) (input : List ℕ) → waiting_text g lex input number (reverse waiting) ≡ trees_text g lex input depth (shapes_of number nodes) ++ waiting_text g lex input number (reverse waited)
    pub shown : (g : GrammarValue) (input : List ℕ) (bound : ℕ) → depth ≤ bound → CanShowAll g lex input (shapes_of number nodes) → CanShowWaiting g lex input number bound (reverse waited) → CanShowWaiting g lex input number bound (reverse waiting)

  pub none_put : (depth : ℕ) (nodes : List (Node L S)) (waited : List (Waiting L S)) → nodes ≡ [] → Put depth nodes waited waited
  none_put depth nodes waited e = subst (λ ns. Put depth ns waited waited) (sym e) (record { text = λ g input. refl; shown = λ g input bound fits all w. w })

  pub one_put : (depth m : ℕ) (nodes : List (Node L S)) (waited waiting waiting' : List (Waiting L S)) (w : Waiting L S) → Put depth (drop (suc m) nodes) waited waiting → m < length nodes → w.node.now ≡ get_or nodes m w.node.now → w.depth ≡ depth →
      waiting' ≡ waiting ++ w ∷ [] → Put depth (drop m nodes) waited waiting'
  one_put depth m nodes waited waiting waiting' w put within is deep e =
      let next : drop m nodes ≡ w.node.now ∷ drop (suc m) nodes = drop-cons nodes m w.node.now within ∙ ap (λ n. n ∷ drop (suc m) nodes) (sym is) in
      let turned : reverse waiting' ≡ w ∷ reverse waiting = ap reverse e ∙ reverse-append waiting (w ∷ []) in
      subst (λ ns. Put depth ns waited waiting') (sym next) (record {
        text = λ g input. ap (waiting_text g lex input number) turned ∙ ap (λ t. tree_text g lex input w.depth (shape_of number w.node.now) ++ t) (put.text g input) ∙
            sym (append_assoc (tree_text g lex input w.depth (shape_of number w.node.now)) (trees_text g lex input depth (shapes_of number (drop (suc m) nodes))) (waiting_text g lex input number (reverse waited))) ∙
            ap (λ d. (tree_text g lex input d (shape_of number w.node.now) ++ trees_text g lex input depth (shapes_of number (drop (suc m) nodes))) ++ waiting_text g lex input number (reverse waited)) deep;
        shown = λ g input bound fits all ws. subst (CanShowWaiting g lex input number bound) (sym turned) (omega (arith, deep, fits), all.0, put.shown g input bound fits all.1 ws);
      })

  pub shape_of-Nonterm : (r : RIdx S) (nodes : Vec (Node L S) Global) → shape_of number (Nonterm r nodes) ≡ over (number r.0) (shapes_of number nodes.items)
  shape_of-Nonterm r nodes = search (rules, the_lemmas)

  module _ (g : GrammarValue) (input : List ℕ) where
    pub deeper_shown : (a b : ℕ) (ws : List (Waiting L S)) → a ≤ b → CanShowWaiting g lex input number a ws → CanShowWaiting g lex input number b ws
    deeper_shown a b [] le h = tt
    deeper_shown a b (w ∷ ws) le h = let d = h.0 in (omega (arith, d, le), h.1, deeper_shown a b ws le h.2)

    -- a rule's line stands, and the nodes below it wait
    pub rule_shown : (text text' : List ℕ) (depth : ℕ) (n : Node L S) (r : RIdx S) (nodes : Vec (Node L S) Global) (waited waiting : List (Waiting L S)) → n ≡ Nonterm r nodes → text' ≡ text ++ rule_line g depth (number r.0) →
        waiting_text g lex input number (reverse waiting) ≡ trees_text g lex input (depth + 1) (shapes_of number nodes.items) ++ waiting_text g lex input number (reverse waited) →
        text' ++ waiting_text g lex input number (reverse waiting) ≡ text ++ (tree_text g lex input depth (shape_of number n) ++ waiting_text g lex input number (reverse waited))
    rule_shown text text' depth n r nodes waited waiting is line put =
        let line_of = rule_line g depth (number r.0) in
        let below = trees_text g lex input (depth + 1) (shapes_of number nodes.items) in
        let rest = waiting_text g lex input number (reverse waited) in
        let seen : tree_text g lex input depth (shape_of number n) ≡ line_of ++ below = ap (λ m. tree_text g lex input depth (shape_of number m)) is ∙ ap (tree_text g lex input depth) (shape_of-Nonterm r nodes) in
        ap (λ t. t ++ waiting_text g lex input number (reverse waiting)) line ∙ ap (λ w. (text ++ line_of) ++ w) put ∙ append_assoc text line_of (below ++ rest) ∙ ap (λ t. text ++ t) (sym (append_assoc line_of below rest)) ∙ ap (λ t. text ++ (t ++ rest)) (sym seen)

    pub all_shown : (n : Node L S) (r : RIdx S) (nodes : Vec (Node L S) Global) → n ≡ Nonterm r nodes → CanShow g lex input (shape_of number n) → CanShowAll g lex input (shapes_of number nodes.items)
    all_shown n r nodes is h =
        let seen : shape_of number n ≡ over (number r.0) (shapes_of number nodes.items) = ap (shape_of number) is ∙ shape_of-Nonterm r nodes in
        (subst (CanShow g lex input) seen h).1

    pub rule_line_long : (depth r : ℕ) → depth < length (rule_line g depth r)
    unfolding rule_line
    rule_line_long depth r = omega (arith, length-append (replicate depth 32 ++ rule_text g r) (10 ∷ []), length-append (replicate depth 32) (rule_text g r), length-replicate {A = ℕ} depth 32)

    pub lexeme_line_long : (depth : ℕ) (x : L) → depth < length (lexeme_line g lex input depth x)
    unfolding lexeme_line
    lexeme_line_long depth x =
        let part = slice_range input (lex x).places.start (lex x).places.end in
        let name = token_text g (lex x).token in
        omega (arith, length-append (((replicate depth 32 ++ name) ++ 32 ∷ []) ++ part) (10 ∷ []), length-append ((replicate depth 32 ++ name) ++ 32 ∷ []) part, length-append (replicate depth 32 ++ name) (32 ∷ []), length-append (replicate depth 32) name, length-replicate {A = ℕ} depth 32)

    -- less is left to show
    pub less_left : (text text' : List ℕ) (waiting waiting' waiting'' : List (Waiting L S)) (w : Waiting L S) → waiting ≡ waiting' ++ w ∷ [] → length text < length text' →
        text' ++ waiting_text g lex input number (reverse waiting'') ≡ text ++ (tree_text g lex input w.depth (shape_of number w.node.now) ++ waiting_text g lex input number (reverse waiting')) →
        length (waiting_text g lex input number (reverse waiting'')) < length (waiting_text g lex input number (reverse waiting))
    less_left text text' waiting waiting' waiting'' w e more is =
        let turned : reverse waiting ≡ w ∷ reverse waiting' = ap reverse e ∙ reverse-append waiting' (w ∷ []) in
        let next = tree_text g lex input w.depth (shape_of number w.node.now) ++ waiting_text g lex input number (reverse waiting') in
        let same : length (waiting_text g lex input number (reverse waiting)) ≡ length next = ap (λ l. length (waiting_text g lex input number l)) turned in
        let whole = ap length is in
        omega (arith, same, more, whole, length-append text' (waiting_text g lex input number (reverse waiting'')), length-append text next)
