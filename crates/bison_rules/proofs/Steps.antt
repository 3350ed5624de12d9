-- What the first byte of a text gives, whatever the piece is that begins with it.
use Rattle.std.proofs.Common.{ℕ, ◌≡◌, ◌<◌, ◌≤◌, ◌-◌, Bool, true, false, ◌&&◌, ◌||◌, if◌then◌else◌, nat_lt, List, [], ◌∷◌, ◌++◌, option_to_list, ap, ◌∙◌, sym, lt-ltb, le-ltb}
use Rattle.bison_rules.specs.Pieces.{Token, Piece, gives_section, piece_of, tokens_from}

-- a byte of the piece before gives nothing
pub inside : (n : ℕ) (r : Bool) (b : ℕ) (xs bs : List ℕ) → xs ≡ b ∷ bs → 0 < n → tokens_from n r xs ≡ tokens_from (n - 1) r bs
inside n r b xs bs e h =
    ap (tokens_from n r) e ∙ ap (λ (t : Bool). if t then tokens_from (n - 1) r bs else (if r && gives_section (piece_of b bs).token then [] else option_to_list (piece_of b bs).token ++ tokens_from (piece_of b bs).size (r || gives_section (piece_of b bs).token) bs)) (lt-ltb 0 n h)

-- a piece, of which this is known, where it ends the rules or not
abbrev given : Bool → Piece → List ℕ → Bool → List Token
given r p bs t = if t then [] else option_to_list p.token ++ tokens_from p.size (r || gives_section p.token) bs

begins : (n : ℕ) (r : Bool) (b : ℕ) (xs bs : List ℕ) (p : Piece) → xs ≡ b ∷ bs → n ≤ 0 → piece_of b bs ≡ p → tokens_from n r xs ≡ given r p bs (r && gives_section p.token)
begins n r b xs bs p e h k =
    ap (tokens_from n r) e
    ∙ ap (λ (t : Bool). if t then tokens_from (n - 1) r bs else (if r && gives_section (piece_of b bs).token then [] else option_to_list (piece_of b bs).token ++ tokens_from (piece_of b bs).size (r || gives_section (piece_of b bs).token) bs)) (le-ltb 0 n h)
    ∙ ap (λ (u : Piece). given r u bs (r && gives_section u.token)) k

pub ends : (n : ℕ) (r : Bool) (b : ℕ) (xs bs : List ℕ) (p : Piece) → xs ≡ b ∷ bs → n ≤ 0 → piece_of b bs ≡ p → (r && gives_section p.token) ≡ true → tokens_from n r xs ≡ []
ends n r b xs bs p e h k t = begins n r b xs bs p e h k ∙ ap (given r p bs) t

pub goes_on : (n : ℕ) (r : Bool) (b : ℕ) (xs bs : List ℕ) (p : Piece) → xs ≡ b ∷ bs → n ≤ 0 → piece_of b bs ≡ p → (r && gives_section p.token) ≡ false → tokens_from n r xs ≡ option_to_list p.token ++ tokens_from p.size (r || gives_section p.token) bs
goes_on n r b xs bs p e h k t = begins n r b xs bs p e h k ∙ ap (given r p bs) t
