-- Derivations by productions that are opened in front.
use Rattle.std.specs.Prelude.{ℕ, List, [], ◌∷◌, ◌++◌, cond, drop, eqb, length, ltb}
use Rattle.std.specs.List.{flat_map}
use Rattle.cfg_base.specs.declared.symbol.PIdx.{PIdx}
use Rattle.cfg_base.specs.declared.symbol.SIdx.{SIdx}
use Rattle.cfg_theory.specs.Grammar.{Grammar, Sym, body_of}
use Rattle.cfg_numbered.specs.Value.{GrammarValue}
use Rattle.grammar_names.specs.Names.{symbols_text}

-- the forms behind one, each with the next production in the place of the first symbol, up to a production whose dot isn't in
-- front; and then the start's symbols, where such a form has more of them
abbrev pub forms_to : Grammar → List Sym → List (PIdx ℕ × SIdx ℕ) → List (List Sym)
forms_to G a [] = []
forms_to G a (e ∷ es) =
    let b = body_of G e.0.0 ++ drop 1 a in
    b ∷ cond (eqb e.1.0 0) (forms_to G b es) (cond (ltb 1 (length b)) (body_of G G.start ∷ []) [])

-- ` ⇒ X Y`
abbrev pub arrow : GrammarValue → List Sym → List ℕ
arrow v form = (32 ∷ 226 ∷ 135 ∷ 146 ∷ []) ++ symbols_text v form

-- the start's symbols, and the forms by the productions behind the start production
abbrev pub derivation_text : GrammarValue → List (PIdx ℕ × SIdx ℕ) → List ℕ
derivation_text v spine = symbols_text v (body_of v.grammar v.grammar.start) ++ flat_map (arrow v) (forms_to v.grammar (body_of v.grammar v.grammar.start) (drop 1 spine))
