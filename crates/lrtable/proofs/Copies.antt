-- Sets of tokens that are copied one after another over those of a list.
use Rattle.std.proofs.Common.{◌≡◌, ℕ, ◌+◌, ◌<◌, Bool, List, [], ◌∷◌, ◌++◌, length, set, take, sym, ap, ◌∙◌, arith, length-append}
use Rattle.std.proofs.lemmas.Grind.{take-set_at}
use Rattle.std.proofs.lemmas.List.{map-append, take_all}
use Rattle.vob.specs.Packed.{Contents}
use Rattle.state_table.specs.Meeting.{rows_in}

-- over one that is there
pub copied_over : (xs : List Contents) (k n : ℕ) (v : Contents) (bits : List Bool) → n ≡ k + 1 → k < length xs → v.bits ≡ bits → rows_in (take n (set xs k v)) ≡ rows_in (take k xs) ++ bits ∷ []
copied_over xs k n v bits e lt is = ap rows_in (take-set_at xs k n v e lt) ∙ (map-append (λ (w : Contents). w.bits) (take k xs) (v ∷ []) ∙ ap (λ b. rows_in (take k xs) ++ b ∷ []) is)

-- behind the last
pub copied_behind : (xs : List Contents) (k n : ℕ) (v : Contents) (bits : List Bool) → n ≡ k + 1 → k ≡ length xs → v.bits ≡ bits → rows_in (take n (xs ++ v ∷ [])) ≡ rows_in (take k xs) ++ bits ∷ []
copied_behind xs k n v bits e at is =
    let long = length-append xs (v ∷ []) in
    ap rows_in (take_all n (xs ++ v ∷ []) (omega (arith, e, at, long)))
    ∙ (map-append (λ (w : Contents). w.bits) xs (v ∷ []) ∙ (ap (λ b. rows_in xs ++ b ∷ []) is ∙ ap (λ l. rows_in l ++ bits ∷ []) (sym (take_all k xs (omega (arith, at))))))

-- the first of a list, as many as were copied
pub first_copies : (own seen looks : List Contents) (n : ℕ) → seen ≡ own → n ≡ length looks → rows_in (take (length looks) own) ≡ rows_in looks → rows_in (take n seen) ≡ rows_in looks
first_copies own seen looks n s e h = ap (λ (l : List Contents). rows_in (take n l)) s ∙ (ap (λ m. rows_in (take m own)) e ∙ h)
