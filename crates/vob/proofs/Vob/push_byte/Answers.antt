use Rattle.std.proofs.Common.{◌≡◌, ℕ, Bool, false, List, [], ◌∷◌, ◌++◌, get_or, refl, ap, ◌∙◌}
use Rattle.std.proofs.Common.{reverse}
use Rattle.vob.specs.Digits.{digits}
use Rattle.vob.proofs.Vob.push_byte.Goals as goal

turned : (n : ℕ) → get_or (digits 8 n) 7 false ∷ get_or (digits 8 n) 6 false ∷ get_or (digits 8 n) 5 false ∷ get_or (digits 8 n) 4 false ∷ get_or (digits 8 n) 3 false ∷ get_or (digits 8 n) 2 false ∷ get_or (digits 8 n) 1 false ∷ get_or (digits 8 n) 0 false ∷ [] ≡ reverse (digits 8 n)
unfolding digits
turned n = refl

pub returns-clause-bits : goal.returns-clause-bits
returns-clause-bits g c =
    let n = c.args.byte in
    let listed : c.as_slice.result.now ≡ get_or (digits 8 n) 7 false ∷ get_or (digits 8 n) 6 false ∷ get_or (digits 8 n) 5 false ∷ get_or (digits 8 n) 4 false ∷ get_or (digits 8 n) 3 false ∷ get_or (digits 8 n) 2 false ∷ get_or (digits 8 n) 1 false ∷ get_or (digits 8 n) 0 false ∷ [] = cc in
    c.fill_from_slice.ensures.bits ∙ ap (λ (xs : List Bool). c.args.self.now.bits ++ xs) (listed ∙ turned n)
