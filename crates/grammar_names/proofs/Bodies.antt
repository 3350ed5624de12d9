-- Symbols of productions, and those behind a dot.
use Rattle.std.proofs.Common.{◌≡◌, ℕ, ◌<◌, ◌≤◌, ◌↔◌, List, [], length, map, drop, Bool, true, false, inl, inr, sym, ap, ◌∙◌}
use Rattle.std.specs.Prelude.{IsTrue}
use Rattle.std.proofs.lemmas.Bool.{cases_lt}
use Rattle.std.proofs.lemmas.List.{drop-map, get_or_past}
use Rattle.cfg_theory.specs.Grammar.{Grammar, body_of}

differ : false ≡ true → ⊥
differ e = cc

past : (G : Grammar) (p : ℕ) → length G.productions ≤ p → body_of G p ≡ []
unfolding body_of
past G p le = ap (λ r. r.body) (get_or_past G.productions p (record { head = 0; body = [] }) le)

-- a production that the grammar doesn't have has no symbols
pub no_body : (G : Grammar) (p : ℕ) (has : Bool) → (IsTrue has ↔ p < length G.productions) → has ≡ false → [] ≡ body_of G p
no_body G p has iff lacks = elim (cases_lt p (length G.productions)) [ inl less ↦ absurd (differ (sym lacks ∙ iff.1 less)) | inr le ↦ sym (past G p le) ]

pub map_drop : {X Y : Type 0} (f : X → Y) (n : ℕ) (xs : List X) → map f (drop n xs) ≡ drop n (map f xs)
map_drop f n xs = sym (drop-map f n xs)
