use Rattle.std.proofs.Common.{◌≡◌, ◌&&◌, Bool, List, [], ◌∷◌, map, refl, ap, ◌∙◌}
use Rattle.std.specs.Cmp.Lexicographic.{pointwise}
use Rattle.std.specs.List.{AllZip}
use Rattle.state_table.specs.declared.stidx.StIdx.{StIdx}
use Rattle.lrpar.proofs.parse_error.error_is_its_parts.Goals as goal

same_tests : {X : Type 0} (e f : X → X → Bool) → ((x y : X) → e x y ≡ f x y) → e ≡ f
same_tests e f h = λ i x y. h x y i

clones_map : {X Y : Type 0} (R : X → X → Type 0) (f : X → Y) → ((x y : X) → R x y → f y ≡ f x) → (xs ys : List X) → AllZip R xs ys → map f ys ≡ map f xs
clones_map R f same [] [] h = refl
clones_map R f same [] (y ∷ ys) h = absurd h
clones_map R f same (x ∷ xs) [] h = absurd h
clones_map R f same (x ∷ xs) (y ∷ ys) h = ap (λ l. l ∷ map f ys) (same x y h.0) ∙ ap (λ l. f x ∷ l) (clones_map R f same xs ys h.1)

clones_same : {X : Type 0} (R : X → X → Type 0) → ((x y : X) → R x y → y ≡ x) → (xs ys : List X) → AllZip R xs ys → ys ≡ xs
clones_same R same [] [] h = refl
clones_same R same [] (y ∷ ys) h = absurd h
clones_same R same (x ∷ xs) [] h = absurd h
clones_same R same (x ∷ xs) (y ∷ ys) h = ap (λ z. z ∷ ys) (same x y h.0) ∙ ap (λ l. x ∷ l) (clones_same R same xs ys h.1)

same_index : {S : Type 0} (p q : StIdx S) → q.0 ≡ p.0 → q ≡ p
same_index {S} p q e =
    let of : S → StIdx S = λ n. record { 0 = n } in
    ap of e

pub returns-clause-equal : goal.returns-clause-equal
returns-clause-equal g c = λ a b.
    let same = same_tests _ _ c.repair_is_its_kind_and_part.ensures.equal in
    ap (λ e. g.S.PartialEq.eq a.stidx.0 b.stidx.0 && (g.L.PartialEq.eq a.lexeme b.lexeme && pointwise (λ r s. pointwise e r.items s.items) a.repairs.items b.repairs.items)) same

pub returns-clause-clone : goal.returns-clause-clone
returns-clause-clone g c = λ lexemes numbers a b h.
    let one = c.repair_is_its_kind_and_part.ensures.clone lexemes numbers in (
      same_index a.stidx b.stidx (numbers a.stidx.0 b.stidx.0 h.0),
      lexemes a.lexeme b.lexeme h.1.0,
      clones_map _ (λ r. r.items) (λ v w k. clones_same _ one v.items w.items k.0) a.repairs.items b.repairs.items h.1.1.0,
    )
