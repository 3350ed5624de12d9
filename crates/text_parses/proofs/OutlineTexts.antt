-- The text of an outline is that of its tree.
use Rattle.std.proofs.Common.{◌≡◌, ℕ, ◌+◌, ◌<◌, ◌≤◌, List, Result, [], ◌∷◌, ◌++◌, length, map, drop, Option, None, Some, refl, sym, ap, ap₂, ◌∙◌, subst, arith, append_assoc, append-nil}
use Rattle.std.specs.Prelude.{slice_get, true, IfSome}
use Rattle.std.specs.Io.KnownBytes.{Appends}
use Rattle.std.specs.List.{AllByRecursion}
use Rattle.std.proofs.lemmas.List.{length-map}
use Rattle.byte_streams.specs.Sink.{IsOutBut}
use Rattle.cfg_numbered.specs.Value.{GrammarValue}
use Rattle.cfg_theory.specs.Fold.{Span, no_span}
use Rattle.cfg_theory.specs.Tree.{Tree, leaf, node, Forest, none, before, yield, yields}
use Rattle.cfg_theory.proofs.Lists.{get_from_drop}
use Rattle.lrlex.specs.declared.lex_error.LRLexError.{LRLexError}
use Rattle.lrpar.specs.Checked.{ParserValue}
use Rattle.lrpar.specs.OutlineParses.{HasOutline}
use Rattle.lrpar.specs.declared.parse_error.ParseError.{ParseError}
use Rattle.parse_trees.specs.FlatLines.{CanShowTree, CanShowForest}
use Rattle.parse_trees.specs.FlatTrees.{IsFlat, Piece, StandsAt, StandAt, flat, preorder, preorders, size, sizes}
use Rattle.parse_trees.specs.OutlineLines.{CanShowLeaf, CanShowSymbol}
use Rattle.parse_trees.specs.Lex.{span_by}
use Rattle.parse_trees.specs.Lexemes.{AreItems}
use Rattle.parse_trees.specs.Outlines.{IsLeft, IsOutline, OutlineValue, SymbolVisit, erased, leaves, leaves_in, symbols, symbols_in, unplaced}
use Rattle.parse_trees.specs.Shapes.{shape, tree_text}
use Rattle.parse_trees.specs.declared.flat.Visit.{Visit}
use Rattle.parse_trees.specs.declared.outline.OutlineNode.{OutlineNode}
use Rattle.parse_trees.proofs.FlatLines.{leaf_at, node_at, whole_at}
use Rattle.parse_trees.proofs.FlatWalks.{drop_past, flat_length, children_at, first_at, others_at}
use Rattle.parse_trees.proofs.OnlyTree.{only_tree}
use Rattle.parse_trees.proofs.OutlineLines.{yield_length}
use Rattle.parse_trees.proofs.OutlineWalks.{symbols_length}
use Rattle.parser_kit.proofs.Outlined.{flat_parsed, outlined}
use Rattle.parser_kit.specs.KitParses.{IsKitParse}
use Rattle.text_parses.specs.Answers.{Answers, AnswersIn, WritesTree}
use Rattle.text_parses.specs.OutlineTexts.{IsShown, IsWalked, flat_tree, leaf_head, symbol_head, symbols_sexp}
use Rattle.text_parses.specs.Parses.{Asked, IsFaultless, Offers, TextLexeme, inserted, itself, lexeme_lex, title_of}
use Rattle.text_parses.specs.declared.form.Form.{Form}
use Rattle.text_parses.specs.declared.form.Form.TheVariants as forms
use Rattle.text_parses.proofs.OutBut.{all_waits, last_waits, next_waits}
use Rattle.text_parses.specs.Quoted.{closed_from, piece_head, sexp_from, space_at}

-- an outline has as many nodes as its walk
pub outline_length : {L : Type 0} (t : Tree L) (v : OutlineValue) → IsOutline t v → length (symbols 0 0 t) ≡ length v.marks
outline_length t v is = omega (arith, symbols_length 0 0 t, flat_length unplaced no_span t, ap length is.flat.pieces_are, ap length is.are, length-map is.pieces erased)

both : {X : Type 0} (P : X → Type 0) (xs ys : List X) → AllByRecursion P xs → AllByRecursion P ys → AllByRecursion P (xs ++ ys)
both P [] ys a b = b
both P (x ∷ xs) ys a b = (a.0, both P xs ys a.1 b)

module _ (g : GrammarValue) (input : List ℕ) (lexemes : List TextLexeme) where
  abbrev pub CanShowVisit : SymbolVisit → Type 0
  CanShowVisit v = CanShowSymbol g lexeme_lex input lexemes v.symbol

  -- the lexemes of the others come after those of the first tree
  others_behind : (k : ℕ) (t : Tree TextLexeme) (f : Forest TextLexeme) (behind : List TextLexeme) → drop k lexemes ≡ yields (before t f) ++ behind → drop (k + leaves t) lexemes ≡ yields f ++ behind
  others_behind k t f behind is =
      ap (λ j. drop (k + j) lexemes) (sym (yield_length t)) ∙ drop_past lexemes (yield t) (yields f ++ behind) k (is ∙ append_assoc (yield t) (yields f) behind)

  mutual
    can_show : (k d : ℕ) (t : Tree TextLexeme) (behind : List TextLexeme) → drop k lexemes ≡ yield t ++ behind → CanShowTree g lexeme_lex input t → AllByRecursion CanShowVisit (symbols k d t)
    can_show k d (leaf x) behind is can = (subst (CanShowLeaf g lexeme_lex input) (sym (get_from_drop lexemes k x behind is).0) can, tt)
    can_show k d (node p f) behind is can = (can.0, can_show_all k (d + 1) f behind is can.1)

    can_show_all : (k d : ℕ) (f : Forest TextLexeme) (behind : List TextLexeme) → drop k lexemes ≡ yields f ++ behind → CanShowForest g lexeme_lex input f → AllByRecursion CanShowVisit (symbols_in k d f)
    can_show_all k d none behind is can = tt
    can_show_all k d (before t f) behind is can =
        both CanShowVisit (symbols k d t) (symbols_in (k + leaves t) d f) (can_show k d t (yields f ++ behind) (is ∙ append_assoc (yield t) (yields f) behind) can.0)
        (can_show_all (k + leaves t) d f behind (others_behind k t f behind is) can.1)

  pub can_show_whole : (t : Tree TextLexeme) → yield t ≡ lexemes → CanShowTree g lexeme_lex input t → AllByRecursion CanShowVisit (symbols 0 0 t)
  can_show_whole t is can = can_show 0 0 t [] (sym is ∙ sym (append-nil (yield t))) can

  -- a node's beginning, behind which the others follow
  abbrev headed : Option ℕ → ℕ → List ℕ → List ℕ → List ℕ
  headed last d head others = ((closed_from last d ++ space_at d) ++ head) ++ others

  module _ (at : TextLexeme → Span) (pieces : List (Piece TextLexeme)) where
    mutual
      tree_sexp : (j k d : ℕ) (t : Tree TextLexeme) (behind : List TextLexeme) (last : Option ℕ) (vs : List Visit) (ss : List SymbolVisit) → StandsAt at pieces j t → drop k lexemes ≡ yield t ++ behind →
          ((later : Option ℕ) → symbols_sexp g input lexemes later ss ≡ sexp_from g input pieces later vs) → symbols_sexp g input lexemes last (symbols k d t ++ ss) ≡ sexp_from g input pieces last (preorder j d t ++ vs)
      tree_sexp j k d (leaf x) behind last vs ss s is more =
          let head = ap (leaf_head g input) (get_from_drop lexemes k x behind is).0 ∙ sym (ap (piece_head g input) (leaf_at at pieces j x s)) in
          ap₂ (headed last d) head (more (Some d))
      tree_sexp j k d (node p f) behind last vs ss s is more =
          let n = node_at at pieces j p f s in
          ap₂ (headed last d) (sym (ap (piece_head g input) n.2)) (forest_sexp j k (d + 1) f behind (Some d) vs ss (children_at at pieces j (node p f) s) is more)

      forest_sexp : (j k d : ℕ) (f : Forest TextLexeme) (behind : List TextLexeme) (last : Option ℕ) (vs : List Visit) (ss : List SymbolVisit) → StandAt at pieces j f → drop k lexemes ≡ yields f ++ behind →
          ((later : Option ℕ) → symbols_sexp g input lexemes later ss ≡ sexp_from g input pieces later vs) → symbols_sexp g input lexemes last (symbols_in k d f ++ ss) ≡ sexp_from g input pieces last (preorders j d f ++ vs)
      forest_sexp j k d none behind last vs ss s is more = more last
      forest_sexp j k d (before t f) behind last vs ss s is more =
          ap (symbols_sexp g input lexemes last) (append_assoc (symbols k d t) (symbols_in (k + leaves t) d f) ss) ∙
          tree_sexp j k d t (yields f ++ behind) last (preorders (j + size t) d f ++ vs) (symbols_in (k + leaves t) d f ++ ss) (first_at at pieces j t f s) (is ∙ append_assoc (yield t) (yields f) behind)
          (λ later. forest_sexp (j + size t) (k + leaves t) d f behind later vs ss (others_at at pieces j t f s) (others_behind k t f behind is) more) ∙
          sym (ap (sexp_from g input pieces last) (append_assoc (preorder j d t) (preorders (j + size t) d f) vs))

  pub whole_sexp : (at : TextLexeme → Span) (t : Tree TextLexeme) → yield t ≡ lexemes → symbols_sexp g input lexemes None (symbols 0 0 t) ≡ sexp_from g input (flat at no_span t) None (preorder 0 0 t)
  whole_sexp at t is =
      let pieces = flat at no_span t in
      let whole = whole_at at pieces t (record { pieces_are = refl }) in
      ap (symbols_sexp g input lexemes None) (sym (append-nil (symbols 0 0 t))) ∙
      tree_sexp at pieces 0 0 0 t [] None [] [] whole (sym is ∙ sym (append-nil (yield t))) (λ later. refl) ∙
      ap (sexp_from g input pieces None) (append-nil (preorder 0 0 t))

-- ---- a walk on the way

-- `done` nodes of `count` were visited, and these are left
pub record WalksOn (nodes : List (OutlineNode ℕ)) (waiting : List Visit) (seen count done : ℕ) (rest : List SymbolVisit) : Type 0 where
  pub left : IsLeft TextLexeme itself nodes waiting seen rest
  pub count_is : done + length rest ≡ count

-- all is out but for what waits and the text of what is left, which can be shown
pub record IsOutTo (can : SymbolVisit → Type 0) (text_of : List SymbolVisit → List ℕ) (a b : Option (List ℕ)) (whole waits : List ℕ) (rest : List SymbolVisit) : Type 0 where
  pub made : List ℕ
  pub out : IsOutBut a b made waits
  pub whole_is : made ++ text_of rest ≡ whole
  pub can_show : AllByRecursion can rest

pub begins : (nodes : List (OutlineNode ℕ)) (waiting : List Visit) (seen count : ℕ) (t : Tree TextLexeme) (v : OutlineValue) → IsOutline t v → count ≡ length v.marks → IsLeft TextLexeme itself nodes waiting seen (symbols 0 0 t) → WalksOn nodes waiting seen count 0 (symbols 0 0 t)
begins nodes waiting seen count t v is count_is left = record { left = left; count_is = omega (arith, outline_length t v is, count_is) }

pub nothing_out : (can : SymbolVisit → Type 0) (text_of : List SymbolVisit → List ℕ) (a : Option (List ℕ)) (text : List ℕ) (rest : List SymbolVisit) → AllByRecursion can rest → IsOutTo can text_of a a (text ++ text_of rest) text rest
nothing_out can text_of a text rest shows = record { made = text; out = all_waits a text; whole_is = refl; can_show = shows }

-- a step returns a node, whose text is added to what waits, of which a part goes out
pub steps : (nodes nodes' : List (OutlineNode ℕ)) (waiting waiting' : List Visit) (seen seen' count done : ℕ) (rest others : List SymbolVisit) (v : SymbolVisit) → WalksOn nodes waiting seen count done rest → rest ≡ v ∷ others → IsLeft TextLexeme itself nodes' waiting' seen' others → WalksOn nodes' waiting' seen' count (done + 1) others
steps nodes nodes' waiting waiting' seen seen' count done rest others v on is left = let long = ap length is in record { left = left; count_is = omega (arith, on.count_is, long) }

pub goes_out : (can : SymbolVisit → Type 0) (text_of text_of' : List SymbolVisit → List ℕ) (a b c : Option (List ℕ)) (whole waits more left head : List ℕ) (rest others : List SymbolVisit) (v : SymbolVisit) → IsOutTo can text_of a b whole waits rest → rest ≡ v ∷ others →
    text_of (v ∷ others) ≡ head ++ text_of' others → more ≡ waits ++ head → IsOutBut b c more left → IsOutTo can text_of' a c whole left others
goes_out can text_of text_of' a b c whole waits more left head rest others v o is text_is more_is p = record {
  made = o.made ++ head;
  out = next_waits a b c o.made waits head more left o.out more_is p;
  whole_is = append_assoc o.made head (text_of' others) ∙ ap (λ l. o.made ++ l) (sym text_is) ∙ ap (λ l. o.made ++ text_of l) (sym is) ∙ o.whole_is;
  can_show = (subst (AllByRecursion can) is o.can_show).1;
}

-- the first of what is left can be shown
pub first_shows : (can : SymbolVisit → Type 0) (rest others : List SymbolVisit) (v : SymbolVisit) → AllByRecursion can rest → rest ≡ v ∷ others → can v
first_shows can rest others v all is = (subst (AllByRecursion can) is all).0

-- nothing is left where all were visited, and something where not all were
pub none_left : (nodes : List (OutlineNode ℕ)) (waiting : List Visit) (seen count done : ℕ) (rest : List SymbolVisit) → WalksOn nodes waiting seen count done rest → count ≤ done → rest ≡ []
none_left nodes waiting seen count done [] on all = refl
none_left nodes waiting seen count done (v ∷ rest) on all = absurd (omega (arith, on.count_is, all))

pub not_done : (nodes : List (OutlineNode ℕ)) (waiting : List Visit) (seen count done : ℕ) (rest : List SymbolVisit) → WalksOn nodes waiting seen count done rest → rest ≡ [] → done < count → ⊥
not_done nodes waiting seen count done rest on is more = let long = ap length is in omega (arith, on.count_is, long, more)

-- then the last part is added
pub all_out : (can : SymbolVisit → Type 0) (text_of : List SymbolVisit → List ℕ) (a b : Option (List ℕ)) (whole waits more : List ℕ) (rest : List SymbolVisit) → IsOutTo can text_of a b whole waits rest → rest ≡ [] → more ≡ waits ++ text_of [] → IsOutBut a b whole more
all_out can text_of a b whole waits more rest o is more_is = last_waits a b o.made waits (text_of []) more whole o.out more_is (ap (λ l. o.made ++ text_of l) (sym is) ∙ o.whole_is)

-- a text behind which three others are put
pub three_added : (waits a b c first second third : List ℕ) → first ≡ waits ++ a → second ≡ first ++ b → third ≡ second ++ c → third ≡ waits ++ ((a ++ b) ++ c)
three_added waits a b c first second third f s t =
    t ∙ ap (λ l. l ++ c) (s ∙ ap (λ l. l ++ b) f) ∙ append_assoc (waits ++ a) b c ∙ append_assoc waits a (b ++ c) ∙ ap (λ l. waits ++ l) (sym (append_assoc a b c))

-- ---- what is written of a tree

module _ (g : GrammarValue) (input : List ℕ) (items : List (Result TextLexeme LRLexError)) (v : OutlineValue) (a : Asked) (known known' : Option (List ℕ)) (title : List ℕ) (input_is : input ≡ a.text) (title_is : title ≡ title_of a.line a.named a.path)
    (t : Tree TextLexeme) (is : IsOutline t v) (its : AreItems items (yield t)) where
  -- a tree with the same flat one is this tree
  only : (u : Tree TextLexeme) → IsFlat (span_by lexeme_lex) u (flat_tree t).pieces → t ≡ u
  only u flat_is = only_tree (span_by lexeme_lex) t u (flat_tree t).pieces (record { pieces_are = refl }) flat_is

  is_shown : (u : Tree TextLexeme) → t ≡ u → CanShowTree g lexeme_lex a.text u → IsShown g input items v t
  is_shown u same can = record { leaves = its; outline = is; can = subst (λ r. CanShowTree g lexeme_lex r t) (sym input_is) (subst (CanShowTree g lexeme_lex a.text) (sym same) can) }

  pub lines_written : (IsShown g input items v t → Appends known known' (title ++ tree_text g lexeme_lex input 0 (shape g.grammar t))) → WritesTree forms.Tree g a (flat_tree t) known known'
  lines_written writes = λ u flat_is can.
      let same = only u flat_is in
      let Of : Tree TextLexeme → Type 0 = λ r. Appends known known' (title_of a.line a.named a.path ++ tree_text g lexeme_lex a.text 0 (shape g.grammar r)) in
      let In : List ℕ → Type 0 = λ r. Appends known known' (title ++ tree_text g lexeme_lex r 0 (shape g.grammar t)) in
      let Below : List ℕ → Type 0 = λ r. Appends known known' (r ++ tree_text g lexeme_lex a.text 0 (shape g.grammar t)) in
      subst Of same (subst Below title_is (subst In input_is (writes (is_shown u same can))))

  pub sexp_written : (IsShown g input items v t → Appends known known' (title ++ sexp_from g input (flat (span_by lexeme_lex) no_span t) None (preorder 0 0 t))) → WritesTree forms.Sexp g a (flat_tree t) known known'
  sexp_written writes = λ u flat_is can.
      let same = only u flat_is in
      let pieces = flat (span_by lexeme_lex) no_span t in
      let Of : Tree TextLexeme → Type 0 = λ r. Appends known known' (title_of a.line a.named a.path ++ sexp_from g a.text pieces None (preorder 0 0 r)) in
      let In : List ℕ → Type 0 = λ r. Appends known known' (title ++ sexp_from g r pieces None (preorder 0 0 t)) in
      let Below : List ℕ → Type 0 = λ r. Appends known known' (r ++ sexp_from g a.text pieces None (preorder 0 0 t)) in
      subst Of same (subst Below title_is (subst In input_is (writes (is_shown u same can))))

-- ---- the parse

pub faultless : (d : ParserValue) (items : List (Result TextLexeme LRLexError)) (edits : ℕ) (o : Option OutlineValue) (errors : List (ParseError TextLexeme ℕ)) → errors ≡ [] →
    IsKitParse itself lexeme_lex inserted d (Offers edits) items (HasOutline o) errors → IfSome o (IsFaultless d items edits)
faultless d items edits None errors nil k = tt
faultless d items edits (Some v) errors nil k =
    let h = outlined itself lexeme_lex inserted d (Offers edits) items v errors nil k in
    record { tree = h.0; parse = h.1; outline = h.2; leaves = h.3 }

written : (d : ParserValue) (items : List (Result TextLexeme LRLexError)) (a : Asked) (known known' : Option (List ℕ)) (v : OutlineValue) (form : Form) → a.form ≡ form → (f : IsFaultless d items a.edits v) →
    WritesTree form d.grammar a (flat_tree f.tree) known known' → Answers d items a known known' true
written d items a known known' v form is f writes =
    let Writes : Form → Type 0 = λ g. WritesTree g d.grammar a (flat_tree f.tree) known known' in
    Answers.parsed (flat_tree f.tree) (flat_parsed itself lexeme_lex inserted d (Offers a.edits) items (span_by lexeme_lex) f.tree [] f.parse) (subst Writes (sym is) writes)

-- what is written of the tree is the answer
pub answered : (form : Form) (d : ParserValue) (items : List (Result TextLexeme LRLexError)) (a : Asked) (known known' : Option (List ℕ)) (v : OutlineValue) → IsWalked form → a.form ≡ form → (f : IsFaultless d items a.edits v) →
    WritesTree form d.grammar a (flat_tree f.tree) known known' → AnswersIn form d items a known known' true
answered forms.Tree d items a known known' v walked is f writes = written d items a known known' v forms.Tree is f writes
answered forms.Sexp d items a known known' v walked is f writes = written d items a known known' v forms.Sexp is f writes
answered forms.Dot d items a known known' v walked is f writes = absurd walked
answered forms.Json d items a known known' v walked is f writes = absurd walked
answered forms.Quiet d items a known known' v walked is f writes = absurd walked
