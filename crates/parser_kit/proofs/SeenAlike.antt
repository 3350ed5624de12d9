-- Kits of one text, each over lexemes of its own type, parse alike.
use Rattle.std.proofs.Common.{◌≡◌, ◌≤◌, ◌-◌, ℕ, Bool, true, false, List, [], ◌∷◌, length, map, Option, Some, None, Result, Ok, refl, sym, ap, ◌∙◌, subst, arith}
use Rattle.std.specs.Prelude.{if◌then◌else◌, min, nat_lt, option_map}
use Rattle.std.specs.List.{AllByRecursion}
use Rattle.std.proofs.lemmas.Bool.{ltb-false}
use Rattle.cfg_read.specs.declared.yacc.YaccKind.{YaccKind}
use Rattle.cfg_theory.specs.Grammar.{Grammar, end_token}
use Rattle.cfg_theory.specs.Tree.{Tree}
use Rattle.cfgrammar.specs.FromAst.{as_told, too_many}
use Rattle.cfgrammar.specs.declared.yacc.from_ast.TooMany.TheVariants as told
use Rattle.lr_theory.specs.Repair.{Edit}
use Rattle.lrpar.specs.Checked.{ParserValue}
use Rattle.lrpar.specs.ParseLaws.{ParsesAreOne}
use Rattle.lrpar.specs.Told.{as_told as told_among, told_of}
use Rattle.lrpar.specs.declared.parse_error.ParseError.{ParseError}
use Rattle.parse_trees.specs.Lex.{Lex, lex_at}
use Rattle.parse_trees.specs.Lexemes.{lexemes_of}
use Rattle.parser_kit.specs.Kit.{IsKitOf, KitValue}
use Rattle.parser_kit.specs.KitParses.{IsKitParse}
use Rattle.parser_kit.specs.SeenLexemes.{InsertsWithin, ParseSeenAlike, seen_told, seen_tree}
use Rattle.parser_kit.proofs.ParsedAlike.{same_parsed}
use Rattle.parser_kit.proofs.SeenParses.{all_told, as_is, made_up, parsed_seen, seen_error}
use Rattle.state_table.specs.Tables.{automaton_of}

-- ---- the end token fits

no_more : {X : Type 0} (b : Bool) (x : X) (o : Option X) → (if b then Some x else o) ≡ None → (b ≡ false) × (o ≡ None)
no_more true x o e = absurd (some e)
  where
    some : Some x ≡ None → ⊥
    some e = cc
no_more false x o e = (refl, e)

end_fits : (top : ℕ) (G : Grammar) → too_many top G ≡ None → end_token G ≤ top
end_fits top G e =
    let a = no_more (nat_lt top G.rules) (told.TooManyRules (as_told G.rules)) _ e in
    let b = no_more (nat_lt top (length G.productions)) (told.TooManyProds (as_told (length G.productions))) _ a.1 in
    let c = no_more (nat_lt top G.tokens) (told.TooManyTokens (as_told G.tokens)) _ b.1 in
    omega (arith, ltb-false top G.tokens c.0)

-- ---- the lexemes of a list

lexemes_are : {L E : Type 0} (items : List (Result L E)) (xs : List L) → items ≡ map Ok xs → lexemes_of items ≡ xs
lexemes_are {L} {E} items xs e = ap lexemes_of e ∙ back xs
  where
    back : (ys : List L) → lexemes_of {L = L} {E = E} (map Ok ys) ≡ ys
    back [] = refl
    back (y ∷ ys) = ap (λ l. y ∷ l) (back ys)

-- ---- two parses

module _ {V : Type 0} (law : ParsesAreOne Lex V) (top : ℕ) (lists : ℕ → ℕ → Lex → List (List Edit)) (fit : (state index : ℕ) (x : Lex) → AllByRecursion (AllByRecursion (InsertsWithin top)) (lists state index x)) where
  abbrev Handed : {L : Type 0} → (L → Lex) → ℕ → ℕ → L → List (List Edit) → Type 0
  Handed lex state index lexeme offered = offered ≡ lists state index (lex lexeme)

  module _ {S U L M E F : Type 0} (number : S → ℕ) (other_number : U → ℕ) (lex : L → Lex) (other_lex : M → Lex) (faulty : ℕ → ℕ → ℕ → L) (other_faulty : ℕ → ℕ → ℕ → M)
      (made : (token start len : ℕ) → token ≤ top → lex (faulty token start len) ≡ lex_at token start len true)
      (other_made : (token start len : ℕ) → token ≤ top → other_lex (other_faulty token start len) ≡ lex_at token start len true)
      (items : List (Result L E)) (other_items : List (Result M F)) (same : map lex (lexemes_of items) ≡ map other_lex (lexemes_of other_items))
      (tree : Option (Tree L)) (other : Option (Tree M)) (errors : List (ParseError L S)) (others : List (ParseError M U)) (d : ParserValue) (fits : end_token d.grammar.grammar ≤ top)
      (p : IsKitParse number lex faulty d (Handed lex) items (λ t. t ≡ tree) errors) where
    abbrev Same : Type 0
    Same = (map (seen_told lex) (map (told_of number) errors) ≡ map (seen_told other_lex) (map (told_of other_number) others)) × (option_map (seen_tree lex) tree ≡ option_map (seen_tree other_lex) other)

    -- with one table
    same_seen : IsKitParse other_number other_lex other_faulty d (Handed other_lex) other_items (λ t. t ≡ other) others → Same
    same_seen q =
        let G = d.grammar.grammar in
        let a = automaton_of d.graph d.table in
        let lexemes : map lex p.lexemes ≡ map other_lex q.lexemes =
        (ap (map lex) (sym (lexemes_are items p.lexemes p.are_items)) ∙ same ∙ ap (map other_lex) (lexemes_are other_items q.lexemes q.are_items)) in
        let one = parsed_seen lex top faulty made G a fits lists fit p.lexemes tree p.found p.exact.parse.parsed in
        let two = parsed_seen other_lex top other_faulty other_made G a fits lists fit q.lexemes other q.found q.exact.parse.parsed in
        let both = same_parsed law as_is made_up lists G a (map lex p.lexemes) (map other_lex q.lexemes) (option_map (seen_tree lex) tree) (option_map (seen_tree other_lex) other)
        (map (seen_error lex) p.found) (map (seen_error other_lex) q.found) lexemes one two in (
          ap (map (seen_told lex)) p.told ∙ all_told lex p.lexemes p.found ∙ ap (λ l. map (told_among l) (map (seen_error lex) p.found)) lexemes ∙
              ap (map (told_among (map other_lex q.lexemes))) both.0 ∙ sym (all_told other_lex q.lexemes q.found) ∙ sym (ap (map (seen_told other_lex)) q.told),
          both.1,
        )

    seen_alike : (e : ParserValue) → d ≡ e → IsKitParse other_number other_lex other_faulty e (Handed other_lex) other_items (λ t. t ≡ other) others → Same
    seen_alike e kits q =
        let P : ParserValue → Type 0 = λ x. IsKitParse other_number other_lex other_faulty x (Handed other_lex) other_items (λ t. t ≡ other) others in
        same_seen (subst P (sym kits) q)

-- ---- two kits of a text

-- the lexemes that both make up of a token that fits both
module _ {V : Type 0} (law : ParsesAreOne Lex V) {S U L M : Type 0} (number : S → ℕ) (other_number : U → ℕ) (lex : L → Lex) (other_lex : M → Lex) (faulty : ℕ → ℕ → ℕ → L) (other_faulty : ℕ → ℕ → ℕ → M) (max other_max : ℕ)
    (made : (token start len : ℕ) → token ≤ max → lex (faulty token start len) ≡ lex_at token start len true)
    (other_made : (token start len : ℕ) → token ≤ other_max → other_lex (other_faulty token start len) ≡ lex_at token start len true) where
  pub kits_seen_alike : (E F : Type 0) (cap : ℕ) (kind : YaccKind) (text : List ℕ) (k l : KitValue) → IsKitOf max kind text cap k → IsKitOf other_max kind text cap l → k ≡ l →
      ParseSeenAlike number other_number lex other_lex E F faulty other_faulty (min max other_max) k.parser l.parser
  kits_seen_alike E F cap kind text k l x y kits = λ lists items other_items tree other_tree errors others fit same p q.
      let top = min max other_max in
      let end : end_token k.parser.grammar.grammar ≤ max = end_fits max k.parser.grammar.grammar (ap (λ g. too_many max g.grammar) x.grammar ∙ x.fits) in
      let parsers : k.parser ≡ l.parser = ap (λ (v : KitValue). v.parser) kits in
      let other_end : end_token l.parser.grammar.grammar ≤ other_max = end_fits other_max l.parser.grammar.grammar (ap (λ g. too_many other_max g.grammar) y.grammar ∙ y.fits) in
      let ends : end_token k.parser.grammar.grammar ≡ end_token l.parser.grammar.grammar = ap (λ (v : ParserValue). end_token v.grammar.grammar) parsers in
      let fits : end_token k.parser.grammar.grammar ≤ top = omega (arith, end, other_end, ends) in
      seen_alike law top lists fit number other_number lex other_lex faulty other_faulty (λ t s n le. made t s n (omega (arith, le))) (λ t s n le. other_made t s n (omega (arith, le)))
      items other_items same tree other_tree errors others k.parser fits p l.parser parsers q
