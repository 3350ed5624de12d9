-- What lies where a token of a kind stands.
use Rattle.std.proofs.Common.{◌≡◌, ℕ, ◌+◌, ◌<◌, ◌≤◌, true, List, length, None, subst, refl, arith}
use Rattle.cfg_base.specs.Text.{FitsWord}
use Rattle.cfg_read.specs.declared.yacc.parser.scan.TokenKind.{TokenKind}
use Rattle.cfg_read.specs.declared.yacc.parser.scan.TokenKind.TheVariants as tokens
use Rattle.cfg_read.specs.SyntaxErrors.{token_fault}
use Rattle.cfg_read.specs.Scanning.{FitsQuoted, FitsToken, is_part, ends_alternative}

-- it lies within the text
pub part_within : (text : List ℕ) (a : ℕ) (m : TokenKind) → is_part m ≡ true → FitsToken text a m → a < length text
part_within text a (tokens.Name b) h f = let w : FitsWord text a b = f in let more : a < b = w.more in let within : b ≤ length text = w.within in omega arith
part_within text a (tokens.Quoted b) h f = let w : FitsQuoted text a b = f in let order : a + 1 ≤ b = w.inner.order in let within : b < length text = w.within in omega arith
part_within text a tokens.Percent h f = f.0
part_within text a tokens.Brace h f = f.0
part_within text a _ h f = absurd cc

pub end_within : (text : List ℕ) (a : ℕ) (m : TokenKind) → ends_alternative m ≡ true → FitsToken text a m → a < length text
end_within text a tokens.Bar h f = f
end_within text a tokens.Semicolon h f = f
end_within text a _ h f = absurd cc

-- the same of a token whose kind is known
pub of_kind : (text : List ℕ) (a : ℕ) (m k : TokenKind) → m ≡ k → FitsToken text a m → FitsToken text a k
of_kind text a m k e f = subst (FitsToken text a) e f

-- a part that is neither a word with `%` nor an action is a token
pub part_token : (m : TokenKind) → is_part m ≡ true → (m ≡ tokens.Percent → ⊥) → (m ≡ tokens.Brace → ⊥) → token_fault m ≡ None
part_token (tokens.Name b) h p q = refl
part_token (tokens.Quoted b) h p q = refl
part_token tokens.Percent h p q = absurd (p refl)
part_token tokens.Brace h p q = absurd (q refl)
part_token _ h p q = absurd cc
