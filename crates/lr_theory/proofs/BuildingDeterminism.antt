-- The moments of the building are determined, up to how the maps are kept.
use Rattle.std.proofs.Common.{◌≡◌, ℕ, ◌<◌, ◌≤◌, false, List, [], ◌∷◌, ◌++◌, length, get_or, sym, ap, ◌∙◌, subst, arith, length-set, length-append}
use Rattle.cfg_theory.specs.Grammar.{Sym, Grammar, WellFormed}
use Rattle.lr_theory.specs.Itemset.{Items, Lookaheads, ItemSet}
use Rattle.lr_theory.specs.Graph.{IsState, core_of}
use Rattle.lr_theory.specs.Building.{Building, Place, Handled, symbols, IsTodo, taken, Step, Reached, Underway, Built}
use Rattle.lr_theory.specs.BuildingDeterminism.{SameBuilding, steps_made, MomentsAreUnique}
use Rattle.lr_theory.proofs.Building.{reached_sound, within}
use Rattle.lr_theory.proofs.Unique.{Same, step_same, handled_alike}
use Rattle.lr_theory.proofs.UniqueGraph.{Steps, from_start, begins_same}

same_building : (b c : Building) → Same b c → SameBuilding b c
same_building b c h = record {
  graph = record { start = h.start; count = h.count; items = λ s state. (h.sets s state).items; looks = λ s state. (h.sets s state).looks; edges = λ s X state. h.edge s X };
  todo = h.todo;
}

-- states are never lost
abbrev states : Building → ℕ
states b = length b.graph.cores

place_more : (b : Building) (s : ℕ) (X : Sym) (I : Items) (M : Lookaheads) (c : Building) → Place b s X I M c → states b ≤ states c
place_more b s X I M c (Place.kept k joins has) = omega arith
place_more b s X I M c (Place.grown k p d t union joins new old is) = omega (arith, length-set b.graph.cores k union)
place_more b s X I M c (Place.added new out is) = omega (arith, length-append b.graph.cores (new ∷ []))

handled_more : (G : Grammar) (s : ℕ) (core : ItemSet) {Xs : List Sym} {b c : Building} → Handled G s core Xs b c → states b ≤ states c
handled_more G s core Handled.done = omega arith
handled_more G s core (Handled.absent none rest) = handled_more G s core rest
handled_more G s core (Handled.placed {X} {Xs} {b} {c} p d item next place rest) = omega (arith, place_more b s X _ _ c place, handled_more G s core rest)

steps_more : (G : Grammar) {b c : Building} → Steps G b c → states b ≤ states c
steps_more G Steps.none = omega arith
steps_more G (Steps.more step steps) = omega (arith, handled_more G step.state _ step.handled, steps_more G steps)

-- handling some symbols and then others
handled_parts : (G : Grammar) (s : ℕ) (core : ItemSet) (Xs Ys : List Sym) {b c : Building} → Handled G s core (Xs ++ Ys) b c → (m : Building) × Handled G s core Xs b m × Handled G s core Ys m c
handled_parts G s core [] Ys {b} h = (b, Handled.done, h)
handled_parts G s core (X ∷ Xs) Ys (Handled.absent none rest) = let (m, x, y) = handled_parts G s core Xs Ys rest in (m, Handled.absent none x, y)
handled_parts G s core (X ∷ Xs) Ys (Handled.placed p d item next place rest) = let (m, x, y) = handled_parts G s core Xs Ys rest in (m, Handled.placed p d item next place x, y)

module _ (G : Grammar) (good : WellFormed G) where
  state_of : (b : Building) → Reached G b → (s : ℕ) → IsTodo b s → IsState b.graph s
  state_of b r s todo = within G good b (reached_sound G good r) s todo

  reached_same : {b c : Building} (x : Reached G b) (y : Reached G c) → steps_made x ≡ steps_made y → Same b c
  reached_same {b} {c} (Reached.begin h) (Reached.begin k) e = begins_same G b c h k
  reached_same (Reached.begin h) (Reached.step y t) e = absurd (omega (arith, e))
  reached_same (Reached.step x s) (Reached.begin k) e = absurd (omega (arith, e))
  reached_same (Reached.step {b} {c} x s) (Reached.step {b = b'} {c = c'} y t) e =
      step_same G b b' c c' (reached_same x y (let k : steps_made x ≡ steps_made y = omega (arith, e) in k)) s t (state_of b x s.state s.todo)

  underway_same : {b c : Building} (x : Underway G b) (y : Underway G c) → steps_made x.reached ≡ steps_made y.reached → x.handled_symbols ≡ y.handled_symbols → Same b c
  underway_same {b} {c} x y e f = handled_alike G x.before y.before (reached_same x.reached y.reached e) x.state y.state x.todo x.first y.todo y.first b c x.handled_symbols
      (state_of x.before x.reached x.state x.todo) x.handled (subst (λ Xs. Handled G y.state (core_of y.before.graph y.state) Xs (taken y.before y.state) c) (sym f) y.handled)

  -- steps to an end go on where others did
  steps_fit : {b c b' c' : Building} → Steps G b c → Steps G b' c' → Same b b' → Reached G b → ((s : ℕ) → IsTodo c' s → ⊥) → states c ≤ states c'
  steps_fit Steps.none steps' same r end = omega (arith, same.count, steps_more G steps')
  steps_fit (Steps.more step steps) Steps.none same r end = absurd (end step.state (ap (λ todo. get_or todo step.state false) (sym same.todo) ∙ step.todo))
  steps_fit (Steps.more {b} {c} step steps) (Steps.more {b = b'} {c = c'} step' steps') same r end =
      steps_fit steps steps' (step_same G b b' c c' same step step' (state_of b r step.state step.todo)) (Reached.step r step) end

  handled_fits : {b c b' d : Building} (s : ℕ) (Xs Ys : List Sym) → Xs ++ Ys ≡ symbols G → IsTodo b s → ((r : ℕ) → r < s → IsTodo b r → ⊥) → Handled G s (core_of b.graph s) Xs (taken b s) c →
      (step : Step G b' d) → Same b b' → Reached G b → states c ≤ states d
  handled_fits {b} {c} {b'} {d} s Xs Ys e todo first handled step same r =
      let (m, x, y) = handled_parts G step.state (core_of b'.graph step.state) Xs Ys (subst (λ Zs. Handled G step.state (core_of b'.graph step.state) Zs (taken b' step.state) d) (sym e) step.handled) in
      let alike = handled_alike G b b' same s step.state todo first step.todo step.first c m Xs (state_of b r s todo) handled x in
      omega (arith, alike.count, handled_more G step.state _ y)

  underway_fits : {b c b' c' : Building} (s : ℕ) (Xs Ys : List Sym) {d : Building} → Xs ++ Ys ≡ symbols G → IsTodo c s → ((r : ℕ) → r < s → IsTodo c r → ⊥) → Handled G s (core_of c.graph s) Xs (taken c s) d →
      Steps G b c → Steps G b' c' → Same b b' → Reached G b → ((s : ℕ) → IsTodo c' s → ⊥) → states d ≤ states c'
  underway_fits s Xs Ys e todo first handled Steps.none Steps.none same r end = absurd (end s (ap (λ todo. get_or todo s false) (sym same.todo) ∙ todo))
  underway_fits {b} s Xs Ys e todo first handled Steps.none (Steps.more step steps) same r end = omega (arith, handled_fits s Xs Ys e todo first handled step same r, steps_more G steps)
  underway_fits s Xs Ys e todo first handled (Steps.more step steps) Steps.none same r end = absurd (end step.state (ap (λ todo. get_or todo step.state false) (sym same.todo) ∙ step.todo))
  underway_fits s Xs Ys e todo first handled (Steps.more {b} {c} step steps) (Steps.more {b = b'} {c = c'} step' steps') same r end =
      underway_fits s Xs Ys e todo first handled steps steps' (step_same G b b' c c' same step step' (state_of b r step.state step.todo)) (Reached.step r step) end

  most_reached : (b c : Building) → Built G b → Reached G c → states c ≤ states b
  most_reached b c built x =
      let (i, h, steps) = from_start G x in
      let (j, k, steps') = from_start G built.reached in
      steps_fit steps steps' (begins_same G i j h k) (Reached.begin h) built.nothing_left

  most_underway : (b c : Building) → Built G b → Underway G c → states c ≤ states b
  most_underway b c built u =
      let (i, h, steps) = from_start G u.reached in
      let (j, k, steps') = from_start G built.reached in
      underway_fits u.state u.handled_symbols u.symbols_left u.in_order u.todo u.first u.handled steps steps' (begins_same G i j h k) (Reached.begin h) built.nothing_left

pub moments_are_unique : MomentsAreUnique
moments_are_unique = record {
  reached = λ G b c good x y e. same_building b c (reached_same G good x y e);
  underway = λ G b c good x y e f. same_building b c (underway_same G good x y e f);
  most_reached = λ G b c good built x. most_reached G good b c built x;
  most_underway = λ G b c good built x. most_underway G good b c built x;
}
