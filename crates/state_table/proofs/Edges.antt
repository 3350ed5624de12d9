-- The edges of a state graph: looking one up, and counting them.
use Rattle.std.proofs.Common.{◌≡◌, ℕ, ◌+◌, ◌<◌, true, false, cond, List, [], length, get_or, map, take, drop, min, Some, sym, ap, ◌∙◌, arith}
use Rattle.std.specs.List.{sum_by}
use Rattle.std.proofs.lemmas.List.{at_drop_more, get_or-map, get_or_default, length-map}
use Rattle.std.proofs.lemmas.List.Sums.{sum_by_more}
use Rattle.cfg_base.specs.declared.symbol.Symbol.{Symbol}
use Rattle.cfg_theory.specs.Grammar.{Sym}
use Rattle.lr_theory.specs.Building.{same_symbol}
use Rattle.state_table.specs.declared.stidx.StIdx.{StIdx}
use Rattle.state_table.specs.GraphViews.{edge_seen, edges_seen}
use Rattle.state_table.specs.Graphs.{target_in}

module _ {E : Type 0} (f : E → Sym × ℕ) (xs : List E) (i : ℕ) (y : E) (X : Sym) (lt : i < length xs) (passed : target_in (drop i (map f xs)) X ≡ target_in (map f xs) X) where
  first : target_in (drop i (map f xs)) X ≡ cond (same_symbol X (f (get_or xs i y)).0) (Some (f (get_or xs i y)).1) (target_in (drop (i + 1) (map f xs)) X)
  first =
      let n = length-map xs f in
      at_drop_more (λ (l : List (Sym × ℕ)). target_in l X) (map f xs) i (f y) (omega (arith, lt, n)) ∙
      ap (λ (e : Sym × ℕ). cond (same_symbol X e.0) (Some e.1) (target_in (drop (i + 1) (map f xs)) X)) (get_or-map f xs i y (f y) lt)

  pub found_here : (z : E) → same_symbol X (f (get_or xs i y)).0 ≡ true → Some (f (get_or xs i z)).1 ≡ target_in (map f xs) X
  found_here z e =
      ap (λ (x : E). Some (f x).1) (get_or_default xs i z y lt) ∙ sym (ap (λ b. cond b (Some (f (get_or xs i y)).1) (target_in (drop (i + 1) (map f xs)) X)) e) ∙ sym first ∙ passed

  pub found_later : same_symbol X (f (get_or xs i y)).0 ≡ false → target_in (drop (i + 1) (map f xs)) X ≡ target_in (map f xs) X
  found_later e = sym (ap (λ b. cond b (Some (f (get_or xs i y)).1) (target_in (drop (i + 1) (map f xs)) X)) e) ∙ sym first ∙ passed

-- the edges of one state more, counted up to a greatest number
pub count_more : {X : Type 0} (f : X → List (Sym × ℕ)) (xs : List X) (lists : List (List (Sym × ℕ))) (i n top count next : ℕ) (x : X) → lists ≡ map f xs → i < length xs → x ≡ get_or xs i x → n ≡ length (f x) → count ≡ min (sum_by length (take i lists)) top → next ≡ min (count + n) top →
    next ≡ min (sum_by length (take (i + 1) lists)) top
count_more f xs lists i n top count next x e lt read len was now =
    let m = ap length e ∙ length-map xs f in
    let at = ap (λ (l : List (List (Sym × ℕ))). get_or l i []) e ∙ get_or-map f xs i x [] lt ∙ ap f (sym read) in
    let more = sum_by_more length lists i [] (omega (arith, lt, m)) ∙ ap (λ (l : List (Sym × ℕ)). sum_by length (take i lists) + length l) at in
    omega (arith, more, len, was, now)

pub edges_length : {S : Type 0} (number : S → ℕ) (es : List (Symbol S × StIdx S)) → length (edges_seen number es) ≡ length es
edges_length number es = length-map es (edge_seen number)
