-- The lines of an outline, by the lexemes that are its leaves, are those of its tree's shape.
use Rattle.std.proofs.Common.{◌≡◌, ℕ, zero, suc, ◌+◌, ◌<◌, List, [], ◌∷◌, ◌++◌, length, drop, Option, None, Some, refl, sym, ap, ◌∙◌, subst, arith, append_assoc, append-nil, length-append}
use Rattle.std.specs.Prelude.{slice_get}
use Rattle.std.specs.List.{flat_map}
use Rattle.std.proofs.lemmas.Grind.{flat_map-append}
use Rattle.cfg_theory.specs.Grammar.{head_of}
use Rattle.cfg_theory.specs.Tree.{Tree, leaf, node, Forest, none, before, yield, yields}
use Rattle.cfg_theory.proofs.Lists.{get_from_drop}
use Rattle.cfg_numbered.specs.Value.{GrammarValue}
use Rattle.parse_trees.specs.Lex.{Lex}
use Rattle.parse_trees.specs.FlatLines.{CanShowTree, CanShowForest}
use Rattle.parse_trees.specs.OutlineLines.{leaf_line, symbol_visit_line, CanShowLeaf, CanShowSymbol, CanShowSymbols}
use Rattle.parse_trees.specs.Outlines.{SymbolVisit, at_leaf, at_prod, leaves, leaves_in, symbols, symbols_in}
use Rattle.parse_trees.specs.Shapes.{rule_line, shape, shapes, tree_text, trees_text}
use Rattle.parse_trees.proofs.FlatWalks.{drop_past}

module _ {L : Type 0} where
  mutual
    pub yield_length : (t : Tree L) → length (yield t) ≡ leaves t
    yield_length (leaf x) = refl
    yield_length (node p f) = yields_length f

    yields_length : (f : Forest L) → length (yields f) ≡ leaves_in f
    yields_length none = refl
    yields_length (before t f) = let h = yield_length t in let r = yields_length f in omega (arith, h, r, length-append (yield t) (yields f))

  module _ (g : GrammarValue) (lex : L → Lex) (input : List ℕ) (lexemes : List L) where
    mutual
      -- where the lexemes from number k on begin with the tree's
      pub tree_lines : (k d : ℕ) (t : Tree L) (behind : List L) → drop k lexemes ≡ yield t ++ behind → flat_map (symbol_visit_line g lex input lexemes) (symbols k d t) ≡ tree_text g lex input d (shape g.grammar t)
      tree_lines k d (leaf x) behind is = append-nil (leaf_line g lex input d (slice_get lexemes k)) ∙ ap (leaf_line g lex input d) (get_from_drop lexemes k x behind is).0
      tree_lines k d (node p f) behind is = ap (λ l. rule_line g d (head_of g.grammar p) ++ l) (forest_lines k (d + 1) f behind is)

      forest_lines : (k d : ℕ) (f : Forest L) (behind : List L) → drop k lexemes ≡ yields f ++ behind → flat_map (symbol_visit_line g lex input lexemes) (symbols_in k d f) ≡ trees_text g lex input d (shapes g.grammar f)
      forest_lines k d none behind is = refl
      forest_lines k d (before t f) behind is =
          let first : drop k lexemes ≡ yield t ++ (yields f ++ behind) = is ∙ append_assoc (yield t) (yields f) behind in
          let others : drop (k + leaves t) lexemes ≡ yields f ++ behind = ap (λ j. drop (k + j) lexemes) (sym (yield_length t)) ∙ drop_past lexemes (yield t) (yields f ++ behind) k first in
          flat_map-append (symbol_visit_line g lex input lexemes) (symbols k d t) (symbols_in (k + leaves t) d f) ∙
          ap (λ l. l ++ flat_map (symbol_visit_line g lex input lexemes) (symbols_in (k + leaves t) d f)) (tree_lines k d t (yields f ++ behind) first) ∙
          ap (λ l. tree_text g lex input d (shape g.grammar t) ++ l) (forest_lines (k + leaves t) d f behind others)

    -- all its lexemes
    pub all_lines : (t : Tree L) → yield t ≡ lexemes → flat_map (symbol_visit_line g lex input lexemes) (symbols 0 0 t) ≡ tree_text g lex input 0 (shape g.grammar t)
    all_lines t is = tree_lines 0 0 t [] (sym is ∙ sym (append-nil (yield t)))

    -- a leaf that can be shown is a lexeme
    pub some_leaf : (o : Option L) → CanShowLeaf g lex input o → (x : L) × (o ≡ Some x)
    some_leaf None h = elim h [ ]
    some_leaf (Some x) h = (x, refl)

    -- what holds of each visit of two lists holds of each of both
    joined : (us vs : List SymbolVisit) → CanShowSymbols g lex input lexemes us → CanShowSymbols g lex input lexemes vs → CanShowSymbols g lex input lexemes (us ++ vs)
    joined [] vs a b = b
    joined (u ∷ us) vs a b = λ j v e. by (joined us vs (λ i w h. a (suc i) w h) b) j v e
      where
        by : CanShowSymbols g lex input lexemes (us ++ vs) → (j : ℕ) (v : SymbolVisit) → slice_get (u ∷ (us ++ vs)) j ≡ Some v → CanShowSymbol g lex input lexemes v.symbol
        by rest zero v e = a zero v e
        by rest (suc j) v e = rest j v e

    first_symbol : (u : SymbolVisit) (vs : List SymbolVisit) → CanShowSymbol g lex input lexemes u.symbol → CanShowSymbols g lex input lexemes vs → CanShowSymbols g lex input lexemes (u ∷ vs)
    first_symbol u vs a b = λ j v e. by j v e
      where
        by : (j : ℕ) (v : SymbolVisit) → slice_get (u ∷ vs) j ≡ Some v → CanShowSymbol g lex input lexemes v.symbol
        by zero v e = let same : u ≡ v = cc in subst (λ (w : SymbolVisit). CanShowSymbol g lex input lexemes w.symbol) same a
        by (suc j) v e = b j v e

    mutual
      tree_symbols : (k d : ℕ) (t : Tree L) (behind : List L) → drop k lexemes ≡ yield t ++ behind → CanShowTree g lex input t → CanShowSymbols g lex input lexemes (symbols k d t)
      tree_symbols k d (leaf x) behind is h = first_symbol (record { symbol = at_leaf k; depth = d }) [] (subst (CanShowLeaf g lex input) (sym (get_from_drop lexemes k x behind is).0) h) (λ j v e. cc)
      tree_symbols k d (node p f) behind is h = first_symbol (record { symbol = at_prod p; depth = d }) (symbols_in k (d + 1) f) h.0 (forest_symbols k (d + 1) f behind is h.1)

      forest_symbols : (k d : ℕ) (f : Forest L) (behind : List L) → drop k lexemes ≡ yields f ++ behind → CanShowForest g lex input f → CanShowSymbols g lex input lexemes (symbols_in k d f)
      forest_symbols k d none behind is h = λ j v e. cc
      forest_symbols k d (before t f) behind is h =
          let first : drop k lexemes ≡ yield t ++ (yields f ++ behind) = is ∙ append_assoc (yield t) (yields f) behind in
          let others : drop (k + leaves t) lexemes ≡ yields f ++ behind = ap (λ j. drop (k + j) lexemes) (sym (yield_length t)) ∙ drop_past lexemes (yield t) (yields f ++ behind) k first in
          joined (symbols k d t) (symbols_in (k + leaves t) d f) (tree_symbols k d t (yields f ++ behind) first h.0) (forest_symbols (k + leaves t) d f behind others h.1)

    -- each node of a tree of all lexemes can be shown
    pub all_symbols : (t : Tree L) → yield t ≡ lexemes → CanShowTree g lex input t → CanShowSymbols g lex input lexemes (symbols 0 0 t)
    all_symbols t is h = tree_symbols 0 0 t [] (sym is ∙ sym (append-nil (yield t))) h
