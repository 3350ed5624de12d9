-- Walks over the items of a set.
use Rattle.std.proofs.Common.{◌≡◌, ℕ, ◌+◌, ◌<◌, ◌≤◌, Bool, List, [], ◌∷◌, length, get_or, drop, sym, ap, ◌∙◌, arith}
use Rattle.std.proofs.lemmas.List.{drop_all, drop_more}
use Rattle.lr_theory.specs.Itemset.{Entry, ItemSet}

abbrev entry : ℕ → ℕ → List Bool → Entry
entry p d bits = record { production = p; dot = d; lookaheads = bits }

-- the first entry of what is left, by its parts
pub next_entry : (s : ItemSet) (k : ℕ) (e : Entry) (p d : ℕ) (bits : List Bool) → k < length s → p ≡ (get_or s k e).production → d ≡ (get_or s k e).dot → bits ≡ (get_or s k e).lookaheads →
    drop k s ≡ record { production = p; dot = d; lookaheads = bits } ∷ drop (k + 1) s
next_entry s k e p d bits lt ep ed eb =
    let x = get_or s k e in
    drop_more s k e lt ∙ sym (ap (λ y. y ∷ drop (k + 1) s) (ap (λ q. entry q d bits) ep ∙ ap (λ q. entry x.production q bits) ed ∙ ap (λ q. entry x.production x.dot q) eb))

pub none_left : (s : ItemSet) (k : ℕ) → k ≡ length s → drop k s ≡ []
none_left s k e = let le : length s ≤ k = omega (arith, e) in drop_all k s le
