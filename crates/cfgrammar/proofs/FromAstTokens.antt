-- Names of symbols in the lists of rules and tokens, and the precedences of tokens.
use Rattle.std.proofs.Common.{◌≡◌, ℕ, Bool, true, false, cond, List, [], ◌∷◌, length, map, fold, get_or, slice_get, Option, Some, None, option_map, All, Contains, if◌then◌else◌, sym, ap, ◌∙◌, subst}
use Rattle.std.specs.List.{position}
use Rattle.std.specs.Str.{bytes_eq}
use Rattle.std.proofs.lemmas.Bool.{lt-ltb}
use Rattle.std.proofs.lemmas.List.{length-map}
use Rattle.std.proofs.lemmas.List.Elements.{All-head, All-tail}
use Rattle.std.proofs.lemmas.List.Quantifiers.{position-Some}
use Rattle.std.proofs.lemmas.Option.{slice_get-get_or, slice_get-map}
use Rattle.std.proofs.lemmas.Slice.Eq.{bytes_eq-Decides}
use Rattle.cfg_base.specs.declared.precedence.Precedence.{Precedence}
use Rattle.cfg_read.specs.SyntaxTexts.{WordText}
use Rattle.cfg_read.specs.Asts.{Ast, SymbolAst}
use Rattle.cfg_read.specs.WellFormedAst.{names_of_rules, names_of_tokens, NamesOne}
use Rattle.cfgrammar.specs.FromAst.{index_in, precedence_of, later_token, last_token}
use Rattle.cfgrammar.proofs.FromAstNames.{index_in_within, same_some}

-- a name of a list is found
pub found_name : (names : List (List ℕ)) (name : List ℕ) → Contains names name → position (bytes_eq name) names ≡ Some (index_in names name)
found_name names name h =
    let n = index_in names name in
    ap (λ (b : Bool). cond b (Some n) None) (lt-ltb n (length names) (index_in_within names name h))

pub name_there : (names : List (List ℕ)) (name : List ℕ) → Contains names name → slice_get names (index_in names name) ≡ Some name
name_there names name h =
    let n = index_in names name in
    let at = position-Some (bytes_eq name) names n name (found_name names name h) in
    slice_get-get_or names n name at.0 ∙ ap Some (sym ((bytes_eq-Decides name (get_or names n name)).0 at.1))

-- the last token of a production is one of the tree
module _ (ast : Ast) (name : List ℕ) where
  last_from : (found : Option (List ℕ)) (ss : List SymbolAst) → (found ≡ Some name → Contains (names_of_tokens ast) name) → All (NamesOne ast) ss → fold later_token found ss ≡ Some name → Contains (names_of_tokens ast) name
  last_from found [] given all h = given h
  last_from found (s ∷ ss) given all h = last_from (later_token found s) ss (step s.is_token (All-head (NamesOne ast) s ss all)) (All-tail (NamesOne ast) s ss all) h
    where
      step : (b : Bool) → Contains (if b then names_of_tokens ast else names_of_rules ast) s.word.text → (if b then Some s.word.text else found) ≡ Some name → Contains (names_of_tokens ast) name
      step true k e = subst (Contains (names_of_tokens ast)) (same_some s.word.text name e) k
      step false k e = given e

  none_is : None ≡ Some name → Contains (names_of_tokens ast) name
  none_is e = absurd (none_some e)
    where
      none_some : None ≡ Some name → ⊥
      none_some e = cc

  pub last_known : (ss : List SymbolAst) → All (NamesOne ast) ss → last_token ss ≡ Some name → Contains (names_of_tokens ast) name
  last_known ss all h = last_from None ss none_is all h

-- the precedences of the tokens are as many as these, and the one at the number of a token is its own
pub levels_count : (ast : Ast) (ls : List (Option Precedence)) → ls ≡ map (precedence_of ast) (names_of_tokens ast) → length ls ≡ length ast.tokens
levels_count ast ls told = ap length told ∙ length-map (names_of_tokens ast) (precedence_of ast) ∙ length-map ast.tokens (λ (w : WordText). w.text)

same_precedence : (x y : Option Precedence) → Some x ≡ Some y → x ≡ y
same_precedence x y e = cc

pub level_at : (ast : Ast) (ls : List (Option Precedence)) (n : ℕ) (p : Option Precedence) (name : List ℕ) → ls ≡ map (precedence_of ast) (names_of_tokens ast) → slice_get ls n ≡ Some p → slice_get (names_of_tokens ast) n ≡ Some name → p ≡ precedence_of ast name
level_at ast ls n p name told at is = same_precedence p (precedence_of ast name) (
    sym at
    ∙ ap (λ l. slice_get l n) told
    ∙ slice_get-map (precedence_of ast) (names_of_tokens ast) n
    ∙ ap (option_map (precedence_of ast)) is
    )
