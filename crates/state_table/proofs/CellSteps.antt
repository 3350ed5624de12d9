-- Cells and listed shift/reduces go by the first reduction.
use Rattle.std.proofs.Common.{◌≡◌, ℕ, Bool, true, false, ◌&&◌, nat_eq, List, [], ◌∷◌, Option, Some, None, refl, sym, ap, ◌∙◌}
use Rattle.cfg_theory.specs.Grammar.{Grammar, end_token}
use Rattle.lr_theory.specs.Automaton.{Action}
use Rattle.table_theory.specs.Cells.{Precedences, cell_by, shifts_at}
use Rattle.state_table.specs.Rows.{at_of}
use Rattle.state_table.specs.CellRows.{OfToken, OfProduction, PartsValue, reductions_on, first_of, cell_from, shifts_from, cells_by, shifts_on}

pub cell_by_first : (accepts : Bool) (reductions : List ℕ) (edge : Option ℕ) (a : OfToken) (b : OfProduction) → cell_by accepts reductions edge a b ≡ cell_from accepts (first_of reductions) edge a b
cell_by_first true rs edge a b = refl
cell_by_first false [] None a b = refl
cell_by_first false [] (Some k) a b = refl
cell_by_first false (p ∷ rs) None a b = refl
cell_by_first false (p ∷ rs) (Some k) a b = refl

pub listed_by_first : (s t : ℕ) (reductions : List ℕ) (edge : Option ℕ) (a : OfToken) (b : OfProduction) → shifts_at s t reductions edge a b ≡ shifts_from s t (first_of reductions) edge a b
listed_by_first s t [] edge a b = refl
listed_by_first s t (p ∷ rs) None a b = refl
listed_by_first s t (p ∷ rs) (Some k) a b = refl

-- the cell of a token
pub token_cell : (G : Grammar) (precedences : Precedences) (x : PartsValue) (t : ℕ) (accepts : Bool) (first edge : Option ℕ) (cell : Action) →
    accepts ≡ (nat_eq t (end_token G) && x.accepts) → first ≡ first_of (reductions_on x.reductions t) → edge ≡ at_of x.shifts t →
    cell ≡ cell_from accepts first edge (precedences.of_token t) precedences.of_production → cell ≡ cells_by G precedences x t
token_cell G precedences x t accepts first edge cell ea ef ee ec =
    let a = precedences.of_token t in
    let b = precedences.of_production in
    let ended = nat_eq t (end_token G) && x.accepts in
    let rs = reductions_on x.reductions t in
    ec ∙ (ap (λ (h : Bool). cell_from h first edge a b) ea ∙ (ap (λ (o : Option ℕ). cell_from ended o edge a b) ef ∙ (ap (λ (o : Option ℕ). cell_from ended (first_of rs) o a b) ee ∙ sym (cell_by_first ended rs (at_of x.shifts t) a b))))

-- its shift/reduce
pub token_shift : (precedences : Precedences) (x : PartsValue) (s t : ℕ) (first edge : Option ℕ) →
    first ≡ first_of (reductions_on x.reductions t) → edge ≡ at_of x.shifts t → shifts_from s t first edge (precedences.of_token t) precedences.of_production ≡ shifts_on precedences s x t
token_shift precedences x s t first edge ef ee =
    let a = precedences.of_token t in
    let b = precedences.of_production in
    let rs = reductions_on x.reductions t in
    ap (λ (o : Option ℕ). shifts_from s t o edge a b) ef ∙ (ap (λ (o : Option ℕ). shifts_from s t (first_of rs) o a b) ee ∙ sym (listed_by_first s t rs (at_of x.shifts t) a b))
