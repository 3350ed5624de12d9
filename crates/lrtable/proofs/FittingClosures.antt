-- Closures and goto sets that fit a grammar.
use Rattle.std.proofs.Common.{ℕ, ◌<◌, ◌≤◌, length, arith}
use Rattle.cfg_theory.specs.Grammar.{Grammar, body_of, Sym}
use Rattle.lr_theory.specs.Itemset.{Lookaheads, ItemSet, HasItem, FitsGrammar, Closure, Is, Items, Goto, HasLook, ClosureLook}
use Rattle.state_table.specs.ItemRows.{Core, IsCoreOf, map_of}
use Rattle.state_table.proofs.Fitting.{fits_by}
use Rattle.lrtable.proofs.Exact.{dot_within}
use Rattle.lrtable.proofs.Stepping.{next_in_range}

-- the closure of a set that fits, and its goto sets
pub closure_fits : (G : Grammar) (s : ItemSet) (L : Lookaheads) (c : Core) → IsCoreOf G.tokens c → FitsGrammar G s → Is (map_of c) (Closure G (HasItem s)) L → FitsGrammar G (map_of c)
closure_fits G s L c good fits is = fits_by G c good (λ p d h. in_range ((is.items p d).1 h)) (λ p d h. below ((is.items p d).1 h))
  where
    in_range : {p d : ℕ} → Closure G (HasItem s) p d → p < length G.productions
    in_range (Closure.given {p} {d} i) = fits.productions p d i
    in_range (Closure.opened h n o) = o.in_range

    below : {p d : ℕ} → Closure G (HasItem s) p d → d ≤ length (body_of G p)
    below (Closure.given {p} {d} i) = fits.dots p d i
    below (Closure.opened h n o) = omega arith

pub moved_fits : (G : Grammar) (I : Items) (X : Sym) (L : Lookaheads) (c : Core) → IsCoreOf G.tokens c → Is (map_of c) (Goto G I X) L → FitsGrammar G (map_of c)
moved_fits G I X L c good is = fits_by G c good (λ p d h. in_range ((is.items p d).1 h)) (λ p d h. below ((is.items p d).1 h))
  where
    in_range : {p d : ℕ} → Goto G I X p d → p < length G.productions
    in_range (Goto.moved {p} {d} i n) = next_in_range G p d X n

    below : {p d : ℕ} → Goto G I X p d → d ≤ length (body_of G p)
    below (Goto.moved {p} {d} i n) = let lt = dot_within G p d X n in omega (arith, lt)

pub closure_fits_core : (G : Grammar) (c d : Core) → IsCoreOf G.tokens d → FitsGrammar G (map_of c) → Is (map_of d) (Closure G (HasItem (map_of c))) (ClosureLook G (HasItem (map_of c)) (HasLook (map_of c))) → FitsGrammar G (map_of d)
closure_fits_core G c d good fits is = closure_fits G (map_of c) (ClosureLook G (HasItem (map_of c)) (HasLook (map_of c))) d good fits is
