-- Least sentences come through without errors, since they are sentences.
use Rattle.std.proofs.Common.{◌≡◌, ℕ, zero, List, [], ◌∷◌, map, Option, Result, Ok, Err, IfOk, sym, subst}
use Rattle.std.specs.Prelude.{Vec}
use Rattle.std.specs.declared.alloc.Global.{Global}
use Rattle.cfg_theory.specs.Cost.{IsCheapest}
use Rattle.cfg_theory.specs.Derivation.{DerivesTokens, IsSentence}
use Rattle.cfg_theory.specs.Grammar.{Grammar, Sym, rule, start_symbol}
use Rattle.cfg_theory.specs.Tree.{Tree}
use Rattle.parse_trees.specs.Lex.{Lex, token_by}
use Rattle.parse_trees.specs.Lexemes.{AreItems}
use Rattle.parser_kit.specs.KitParses.{ItemsFollowSentences}

module _ {L E X V F : Type 0} (lex : L → Lex) {G : Grammar} {items : List (Result L E)} (gives : Option V → Option (Tree L) → Type 0) where
  pub least_come : (r : Result (Result (Option V × Vec X Global) E) F) → IfOk r (λ s. IfOk s (λ p. ItemsFollowSentences lex G items (gives p.0) p.1.items)) →
      (A : ℕ) (cost : ℕ → ℕ) (lexemes : List L) → start_symbol G ≡ rule A → AreItems items lexemes → IsCheapest G cost A (map (token_by lex) lexemes) → IfOk r (λ s. IfOk s (λ p. p.1.items ≡ []))
  least_come (Ok (Ok p)) h A cost lexemes start are least =
      let P : Sym → Type 0 = λ x. IsSentence G x (map (token_by lex) lexemes) in
      (h lexemes are).sentences.1 (subst P (sym start) least.has)
  least_come (Ok (Err e)) h A cost lexemes start are least = tt
  least_come (Err e) h A cost lexemes start are least = tt

  -- and of the rule 0, if what it derives are sentences
  pub least_of_start_come : ((w : List ℕ) → DerivesTokens G (rule zero ∷ []) w → IsSentence G (start_symbol G) w) → (r : Result (Result (Option V × Vec X Global) E) F) → IfOk r (λ s. IfOk s (λ p. ItemsFollowSentences lex G items (gives p.0) p.1.items)) →
      (cost : ℕ → ℕ) (lexemes : List L) → AreItems items lexemes → IsCheapest G cost zero (map (token_by lex) lexemes) → IfOk r (λ s. IfOk s (λ p. p.1.items ≡ []))
  least_of_start_come up (Ok (Ok p)) h cost lexemes are least = (h lexemes are).sentences.1 (up (map (token_by lex) lexemes) least.has)
  least_of_start_come up (Ok (Err e)) h cost lexemes are least = tt
  least_of_start_come up (Err e) h cost lexemes are least = tt
