-- Rows of names, and their parts from a depth on.
use Rattle.std.proofs.Common.{◌≡◌, ℕ, zero, suc, ◌+◌, ◌-◌, ◌<◌, ◌≤◌, List, [], ◌∷◌, ◌++◌, drop, length, replicate, refl, sym, ap, ◌∙◌, append_assoc, arith}
use Rattle.std.proofs.lemmas.List.{replicate-append-replicate}
use Rattle.cfg_numbered.specs.Value.{GrammarValue, IsRuleNamed}
use Rattle.parse_trees.specs.Shapes.{lexeme_line, rule_line, rule_text, text_or_none, token_text}
use Rattle.word_lines.specs.NodeRows.{IsNamed, IsRuleRow, behind_spaces}
use Rattle.word_lines.specs.Lexing.{lex_of}
use Rattle.word_lines.specs.declared.lexeme.WordLexeme.{WordLexeme}

pub rule_row : (g : GrammarValue) (r : ℕ) (name row : List ℕ) → IsRuleNamed g r name → row ≡ behind_spaces name 10 → IsRuleRow g r row
rule_row g r name row named e = e ∙ ap (λ n. behind_spaces n 10) (sym (ap text_or_none named.at))

-- spaces in front are left out
fewer : (m n k : ℕ) (tail : List ℕ) → n ≡ m + k → drop m (replicate n 32 ++ tail) ≡ replicate k 32 ++ tail
fewer zero n k tail e = let same : n ≡ k = omega (arith, e) in ap (λ j. replicate j 32 ++ tail) same
fewer (suc m) zero k tail e = absurd (omega (arith, e))
fewer (suc m) (suc n) k tail e = fewer m n k tail (omega (arith, e))

spaces_long : (n : ℕ) (rest : List ℕ) → n ≤ length (replicate n 32 ++ rest)
spaces_long zero rest = omega arith
spaces_long (suc n) rest = let h = spaces_long n rest in omega (arith, h)

-- a row has at least the spaces
pub row_long : (name : List ℕ) (last : ℕ) → 64 ≤ length (behind_spaces name last)
row_long name last =
    let e = ap (λ (l : List ℕ). length l) (append_assoc (replicate 64 32) name (last ∷ [])) in
    let h = spaces_long 64 (name ++ last ∷ []) in
    omega (arith, e, h)

module _ (name : List ℕ) (last depth : ℕ) where
  pub row_part : depth ≤ 64 → drop (64 - depth) (behind_spaces name last) ≡ (replicate depth 32 ++ name) ++ last ∷ []
  row_part le =
      ap (drop (64 - depth)) (append_assoc (replicate 64 32) name (last ∷ [])) ∙ fewer (64 - depth) 64 depth (name ++ last ∷ []) (omega (arith, le)) ∙ sym (append_assoc (replicate depth 32) name (last ∷ []))

  -- more spaces before a row
  pub row_behind : 64 ≤ depth → replicate (depth - 64) 32 ++ behind_spaces name last ≡ (replicate depth 32 ++ name) ++ last ∷ []
  row_behind le =
      let more = replicate (depth - 64) 32 in
      let sum : (depth - 64) + 64 ≡ depth = omega (arith, le) in
      let spaces : more ++ replicate 64 32 ≡ replicate depth 32 = replicate-append-replicate (depth - 64) 64 32 ∙ ap (λ k. replicate k 32) sum in
      sym (append_assoc more (replicate 64 32 ++ name) (last ∷ [])) ∙ ap (λ l. l ++ last ∷ []) (sym (append_assoc more (replicate 64 32) name) ∙ ap (λ l. l ++ name) spaces)

pub is_rule_line : (g : GrammarValue) (depth r : ℕ) → (replicate depth 32 ++ rule_text g r) ++ 10 ∷ [] ≡ rule_line g depth r
unfolding rule_line
is_rule_line g depth r = refl

-- a token's row, if the lexeme is there by its name
pub is_lexeme_line : {S : Type 0} (number : S → ℕ) (g : GrammarValue) (line : List ℕ) (depth : ℕ) (x : WordLexeme S) → IsNamed number g line x →
    (replicate depth 32 ++ (token_text g (number x.token) ++ 32 ∷ token_text g (number x.token))) ++ 10 ∷ [] ≡ lexeme_line g (lex_of number) line depth x
unfolding lexeme_line
is_lexeme_line number g line depth x named =
    let name = token_text g (number x.token) in
    ap (λ l. l ++ 10 ∷ []) (sym (append_assoc (replicate depth 32) name (32 ∷ name)) ∙ sym (append_assoc (replicate depth 32 ++ name) (32 ∷ []) name) ∙ ap (λ l. ((replicate depth 32 ++ name) ++ 32 ∷ []) ++ l) (sym named))
