-- A number that falls at each turn of the loop that takes a tree apart: twice the nodes in hand, twice those that wait in
-- each vector above, and one for each of these.
use Rattle.std.proofs.Common.{◌≡◌, ◌<◌, ◌+◌, ℕ, suc, List, [], ◌∷◌, ◌++◌, rules, arith, refl, ap, Vec, Global}
use Rattle.std.specs.Prelude.{map}
use Rattle.cfg_base.specs.declared.symbol.RIdx.{RIdx}
use Rattle.parse_trees.specs.declared.node.Node.{Node, fold-Node, the_lemmas}
use Rattle.parse_trees.specs.declared.node.Node.TheOpen.{Node-F}
use Rattle.parse_trees.specs.declared.node.Node.TheVariants.{Nonterm}

-- the nodes below a tree's root, and the number for them, were they those of a vector above
pub record Load : Type 0 where
  pub below : ℕ
  pub left : ℕ

abbrev pub total : List Load → ℕ
total [] = 0
total (w ∷ ws) = suc (w.below + total ws)

-- the last one of a vector above is the way up
abbrev pub left_from : Load → List Load → ℕ
left_from w [] = suc w.left
left_from w (v ∷ vs) = suc (suc (w.below + w.below)) + left_from v vs

abbrev pub left_in : List Load → ℕ
left_in [] = 0
left_in (w ∷ ws) = left_from w ws

total-push : (ws : List Load) (w : Load) → total (ws ++ w ∷ []) ≡ suc (total ws + w.below)
total-push [] w = omega arith
total-push (v ∷ ws) w = omega (arith, total-push ws w)

from-push : (v : Load) (ws : List Load) (w : Load) → left_from v (ws ++ w ∷ []) ≡ (total (v ∷ ws) + total (v ∷ ws)) + suc w.left
from-push v [] w = omega arith
from-push v (u ∷ us) w = omega (arith, from-push u us w)

left-push : (ws : List Load) (w : Load) → left_in (ws ++ w ∷ []) ≡ (total ws + total ws) + suc w.left
left-push [] w = omega arith
left-push (v ∷ ws) w = from-push v ws w

pop-loads : (ws above : List Load) (w : Load) → (total ws + total ws) + left_in above < (total (ws ++ w ∷ []) + total (ws ++ w ∷ [])) + left_in above
pop-loads ws above w = omega (arith, total-push ws w)

down-loads : (ws vs above : List Load) → (total vs + total vs) + left_in above < (total (ws ++ record { below = total vs; left = left_in vs } ∷ []) + total (ws ++ record { below = total vs; left = left_in vs } ∷ [])) + left_in above
down-loads ws vs above = omega (arith, total-push ws (record { below = total vs; left = left_in vs }))

hang-loads : (ws vs above : List Load) → (total vs + total vs) + left_in (ws ++ record { below = total above; left = left_in above } ∷ []) < (total (ws ++ record { below = total vs; left = left_in vs } ∷ []) + total (ws ++ record { below = total vs; left = left_in vs } ∷ [])) + left_in above
hang-loads ws vs above = omega (arith, total-push ws (record { below = total vs; left = left_in vs }), left-push ws (record { below = total above; left = left_in above }))

rise-loads : (n : ℕ) (ws above : List Load) → (total ws + total ws) + left_in above < (n + n) + left_in (ws ++ record { below = total above; left = left_in above } ∷ [])
rise-loads n ws above = omega (arith, left-push ws (record { below = total above; left = left_in above }))

end-loads : (n : ℕ) (ws : List Load) (w : Load) → (total ws + total ws) + 0 < (n + n) + left_in (ws ++ w ∷ [])
end-loads n ws w = omega (arith, left-push ws w)

module _ {L S : Type 0} where
  abbrev pub load_step : Node-F L S Load → Load
  load_step (Node-F.Term x) = record { below = 0; left = 0 }
  load_step (Node-F.Nonterm r nodes) = record { below = total nodes.items; left = left_in nodes.items }

  abbrev pub load : Node L S → Load
  load = fold-Node L S Load load_step

  abbrev pub loads : List (Node L S) → List Load
  loads nodes = map load nodes

  abbrev pub left_of : List (Node L S) → List (Node L S) → ℕ
  left_of nodes above = (total (loads nodes) + total (loads nodes)) + left_in (loads above)

  pub load-Nonterm : (r : RIdx S) (nodes : Vec (Node L S) Global) → load (Nonterm r nodes) ≡ record { below = total (loads nodes.items); left = left_in (loads nodes.items) }
  load-Nonterm r nodes = search (rules, the_lemmas)

  loads-push : (xs : List (Node L S)) (x : Node L S) → loads (xs ++ x ∷ []) ≡ loads xs ++ load x ∷ []
  loads-push [] x = refl
  loads-push (y ∷ xs) x = ap (λ ws. load y ∷ ws) (loads-push xs x)

  -- a node leaves at the end
  pub pop-less : (xs ys above : List (Node L S)) (x : Node L S) → ys ≡ xs ++ x ∷ [] → left_of xs above < left_of ys above
  pop-less xs ys above x is = rw (is, loads-push xs x) (pop-loads (loads xs) (loads above) (load x))

  -- the last node's vector comes in hand
  pub down-less : (xs ys above : List (Node L S)) (x : Node L S) (r : RIdx S) (below : Vec (Node L S) Global) → x ≡ Nonterm r below → ys ≡ xs ++ x ∷ [] → left_of below.items above < left_of ys above
  down-less xs ys above x r below is_x is_ys = rw (is_ys, loads-push xs x, is_x, load-Nonterm r below) (down-loads (loads xs) (loads below.items) (loads above))

  -- and those that wait beside it go above
  pub hang-less : (xs ys zs : List (Node L S)) (x : Node L S) (r r' : RIdx S) (below above : Vec (Node L S) Global) → x ≡ Nonterm r below → ys ≡ xs ++ x ∷ [] → zs ≡ xs ++ Nonterm r' above ∷ [] → left_of below.items zs < left_of ys above.items
  hang-less xs ys zs x r r' below above is_x is_ys is_zs =
      rw (is_ys, is_zs, loads-push xs x, loads-push xs (Nonterm r' above), is_x, load-Nonterm r below, load-Nonterm r' above) (hang-loads (loads xs) (loads below.items) (loads above.items))

  -- the vector above comes in hand
  pub rise-less : (old xs ys : List (Node L S)) (link : Node L S) (r : RIdx S) (above : Vec (Node L S) Global) → link ≡ Nonterm r above → ys ≡ xs ++ link ∷ [] → left_of xs above.items < left_of old ys
  rise-less old xs ys link r above is_link is_ys = rw (is_ys, loads-push xs link, is_link, load-Nonterm r above) (rise-loads (total (loads old)) (loads xs) (loads above.items))

  -- and is the last one
  pub end-less : (old xs ys zs : List (Node L S)) (link : Node L S) → ys ≡ xs ++ link ∷ [] → zs ≡ [] → left_of xs zs < left_of old ys
  end-less old xs ys zs link is_ys is_zs = rw (is_ys, is_zs, loads-push xs link) (end-loads (total (loads old)) (loads xs) (load link))
