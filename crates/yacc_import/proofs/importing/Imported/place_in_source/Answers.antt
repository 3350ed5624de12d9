use Rattle.std.proofs.Common.{ℕ, zero, suc, ◌≡◌, ◌<◌, ◌≤◌, ◌∙◌, List, [], ◌∷◌, length, get_or, refl, ap, sym, arith}
use Rattle.yacc_import.specs.declared.marks.Mark.{Mark}
use Rattle.yacc_import.specs.Changes.{place_of}
use Rattle.yacc_import.proofs.importing.Imported.place_in_source.Goals as goal

place_of-within : (xs : List Mark) (len i : ℕ) (d : Mark) → i < length xs → place_of xs len i ≡ (get_or xs i d).place
place_of-within [] len i d h = absurd (let f : ⊥ = omega (arith, h) in f)
place_of-within (m ∷ ms) len zero d h = refl
place_of-within (m ∷ ms) len (suc i) d h = place_of-within ms len i d (omega (arith, h))

place_of-past : (xs : List Mark) (len i : ℕ) → length xs ≤ i → place_of xs len i ≡ len
place_of-past [] len i h = refl
place_of-past (m ∷ ms) len zero h = absurd (let f : ⊥ = omega (arith, h) in f)
place_of-past (m ∷ ms) len (suc i) h = place_of-past ms len i (omega (arith, h))

pub returns-in-Some : goal.returns-in-Some
returns-in-Some c =
    let xs = c.args.self.now.marks.items in
    let m = c.in-Some.mark.now in
    let size = ap length c.deref.ensures.value in
    let h : c.args.at < length xs = omega (arith, c.in-Some.ensures.lookup.3.0, size) in
    ap (λ (x : Mark). x.place) (c.in-Some.ensures.lookup.1 ∙ ap (λ l. get_or l c.args.at m) c.deref.ensures.value)
    ∙ sym (place_of-within xs c.args.self.now.source_len c.args.at m h)

pub returns-in-None : goal.returns-in-None
returns-in-None c =
    let xs = c.args.self.now.marks.items in
    let size = ap length c.deref.ensures.value in
    let h : length xs ≤ c.args.at = omega (arith, c.in-None.ensures.lookup.3, size) in
    sym (place_of-past xs c.args.self.now.source_len c.args.at h)
