use Rattle.std.proofs.Common.{◌≡◌, ℕ, suc, ◌+◌, ◌-◌, ◌<◌, false, List, [], ◌∷◌, ◌++◌, append_assoc, sym, ap, ◌∙◌, arith}
use Rattle.cfg_sets.specs.Orders.{stops_below}
use Rattle.cfg_sets.specs.declared.orders.Stop.{Stop}
use Rattle.cfg_sets.proofs.orders.push_rules.Goals as goal

one_more : (xs zs : List Stop) (rules number : ℕ) → number < rules → xs ++ stops_below (rules - number) ≡ zs →
    (xs ++ record { rule = rules - 1 - number; is_behind = false } ∷ []) ++ stops_below (rules - (number + 1)) ≡ zs
one_more xs zs rules number lt e =
    let stop : Stop = record { rule = rules - 1 - number; is_behind = false } in
    let here : rules - number ≡ suc (rules - 1 - number) = omega (arith, lt) in
    let next : rules - (number + 1) ≡ rules - 1 - number = omega arith in
    let split = ap stops_below here ∙ ap (λ n. stop ∷ stops_below n) (sym next) in
    append_assoc xs (stop ∷ []) (stops_below (rules - (number + 1))) ∙ ap (λ l. xs ++ l) (sym split) ∙ e

pub rules-preserved : goal.rules-preserved
rules-preserved c =
    let more = one_more c.rules.stack.items _ c.args.rules c.rules.number c.rules-test.true c.rules.invariant in
    ap (λ l. l ++ stops_below (c.args.rules - (c.rules.number + 1))) c.in_ok-push.ensures.items ∙ more
