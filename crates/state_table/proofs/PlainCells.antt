-- Cells in which one thing alone may stand.
use Rattle.std.proofs.Common.{◌≡◌, ℕ, inl, inr, Bool, true, false, ◌&&◌, nat_eq, List, [], ◌∷◌, Option, refl, ap, ◌∙◌}
use Rattle.cfg_theory.specs.Grammar.{Grammar, end_token}
use Rattle.lr_theory.specs.Automaton.{Action}
use Rattle.table_theory.specs.Cells.{Precedences, cell_by, pairs_at, shifts_at}
use Rattle.state_table.specs.CellRows.{IsPlain, OfProduction, OfToken, PartsValue, cells_by, pairs_on, reductions_on, shifts_on}
use Rattle.state_table.specs.Rows.{at_of}

plain_by : (rs : List ℕ) (edge : Option ℕ) (a : Action) (x : OfToken) (y : OfProduction) → IsPlain rs edge a → cell_by false rs edge x y ≡ a
plain_by rs edge a x y (inl (k, r, e, is)) = ap (λ (l : List ℕ). cell_by false l edge x y) r ∙ (ap (λ (o : Option ℕ). cell_by false [] o x y) e ∙ (let f : Action.shift k ≡ a = cc in f))
plain_by rs edge a x y (inr (p, r, e, is)) = ap (λ (l : List ℕ). cell_by false l edge x y) r ∙ (ap (λ (o : Option ℕ). cell_by false (p ∷ []) o x y) e ∙ (let f : Action.reduce p ≡ a = cc in f))

pairs_by : (s t : ℕ) (rs : List ℕ) (edge : Option ℕ) (a : Action) → IsPlain rs edge a → pairs_at s t rs ≡ []
pairs_by s t rs edge a (inl (k, r, e, is)) = ap (pairs_at s t) r
pairs_by s t rs edge a (inr (p, r, e, is)) = ap (pairs_at s t) r

shifts_by : (s t : ℕ) (rs : List ℕ) (edge : Option ℕ) (a : Action) (x : OfToken) (y : OfProduction) → IsPlain rs edge a → shifts_at s t rs edge x y ≡ []
shifts_by s t rs edge a x y (inl (k, r, e, is)) = ap (λ (l : List ℕ). shifts_at s t l edge x y) r
shifts_by s t rs edge a x y (inr (p, r, e, is)) = ap (λ (l : List ℕ). shifts_at s t l edge x y) r ∙ ap (λ (o : Option ℕ). shifts_at s t (p ∷ []) o x y) e

and_false : (b : Bool) → (b && false) ≡ false
and_false true = refl
and_false false = refl

-- the cell of a token, and what is listed of it
module _ (x : PartsValue) (t : ℕ) (edge : Option ℕ) (a : Action) (at : edge ≡ at_of x.shifts t) (plain : IsPlain (reductions_on x.reductions t) edge a) where
  pub plain_cell : (G : Grammar) (precedences : Precedences) → x.accepts ≡ false → a ≡ cells_by G precedences x t
  plain_cell G precedences quiet =
      let u = precedences.of_token t in
      let v = precedences.of_production in
      let rs = reductions_on x.reductions t in
      let e : (nat_eq t (end_token G) && x.accepts) ≡ false = ap (λ (b : Bool). nat_eq t (end_token G) && b) quiet ∙ and_false (nat_eq t (end_token G)) in
      let f : cells_by G precedences x t ≡ cell_by false rs edge u v = ap (λ (b : Bool). cell_by b rs (at_of x.shifts t) u v) e ∙ (let h : at_of x.shifts t ≡ edge = cc in ap (λ (o : Option ℕ). cell_by false rs o u v) h) in
      let g = plain_by rs edge a u v plain in
      cc

  pub plain_pairs : (s : ℕ) → pairs_on s x t ≡ []
  plain_pairs s = pairs_by s t (reductions_on x.reductions t) edge a plain

  pub plain_shifts : (precedences : Precedences) (s : ℕ) → shifts_on precedences s x t ≡ []
  plain_shifts precedences s =
      let u = precedences.of_token t in
      let v = precedences.of_production in
      let rs = reductions_on x.reductions t in
      let h : at_of x.shifts t ≡ edge = cc in
      ap (λ (o : Option ℕ). shifts_at s t rs o u v) h ∙ shifts_by s t rs edge a u v plain
