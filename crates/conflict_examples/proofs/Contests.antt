-- Examples are contests.
use Rattle.std.proofs.Common.{◌≢◌, ℕ, inl, inr, List, [], length, refl, subst}
use Rattle.cfg_theory.specs.Grammar.{Sym, token, Grammar, body_of, end_token, IsNext, IsEnd}
use Rattle.cfg_theory.specs.Derivation.{Derives, IsFirstBefore}
use Rattle.lr_theory.specs.Canonical.{Present, Look, Act, shift, reduce, accept, Allows}
use Rattle.conflict_examples.specs.Spines.{around, AreForms, Begins, Shown, ShowsAct, forms_of, SomeSpine, SomeSpineBefore, ExamplesAreContests, StepsMakeForms}
use Rattle.conflict_examples.proofs.Items.{present_spine, look_spine, stands_present, stands_look}
use Rattle.conflict_examples.proofs.StepLists.{steps_derive, steps_forms, first_steps}

module _ (G : Grammar) where
  begun_first : (t : ℕ) {a c : List Sym} → Derives G a c → Begins G t c → IsFirstBefore G a (end_token G) t
  begun_first t d (Begins.opens rest) = inl (rest, d)
  begun_first t d (Begins.ends e) = inr (d, e)

  shown_allows : (w : List Sym) (t : ℕ) (x : Shown) (a : Act) → ShowsAct G w t x a → Allows G (Present G w) (Look G w) t a
  shown_allows w t x shift (ShowsAct.shifts i s n e) = (i.production, i.dot, stands_present G s, n)
  shown_allows w t x (reduce p) (ShowsAct.reduces i c s differ e f b) = (differ, subst (λ d. Look G w i.production d t) e (stands_look G t s (begun_first t (steps_derive G f) b)))
  shown_allows w t x accept (ShowsAct.accepts i s start dot e none) =
      (e, subst (λ d. Present G w G.start d) dot (subst (λ p. Present G w p i.dot) start (stands_present G s)))

  reduced : (w : List Sym) (t p : ℕ) → p ≢ G.start → SomeSpineBefore G w p (length (body_of G p)) t → (x : Shown) × ShowsAct G w t x (reduce p)
  reduced w t p differ (spine, s, f) =
      let (steps, last, are, b) = first_steps G t (around G spine) f in
      (record { spine = spine; steps = steps }, ShowsAct.reduces (record { production = p; dot = length (body_of G p) }) last s differ refl are b)

  shifted : (w : List Sym) (t p d : ℕ) → SomeSpine G w p d → IsNext G p d (token t) → (x : Shown) × ShowsAct G w t x shift
  shifted w t p d (spine, s) n = (record { spine = spine; steps = [] }, ShowsAct.shifts (record { production = p; dot = d }) s n refl)

  accepted : (w : List Sym) (t : ℕ) → IsEnd G t → SomeSpine G w G.start (length (body_of G G.start)) → (x : Shown) × ShowsAct G w t x accept
  accepted w t e (spine, s) = (record { spine = spine; steps = [] }, ShowsAct.accepts (record { production = G.start; dot = length (body_of G G.start) }) s refl refl e refl)

  allowed_shown : (w : List Sym) (t : ℕ) (a : Act) → Allows G (Present G w) (Look G w) t a → (x : Shown) × ShowsAct G w t x a
  allowed_shown w t shift (p, d, h, n) = shifted w t p d (present_spine G h) n
  allowed_shown w t (reduce p) (differ, l) = reduced w t p differ (look_spine G l)
  allowed_shown w t accept (e, h) = accepted w t e (present_spine G h)

pub examples_are_contests : ExamplesAreContests
examples_are_contests = record {
  contest = λ G x a b h. record { differ = h.differ; one = shown_allows G x.string x.token x.first a h.one; other = shown_allows G x.string x.token x.second b h.other };
  shown = λ G w t a b h.
      let (x, f) = allowed_shown G w t a h.one in
      let (y, g) = allowed_shown G w t b h.other in
      (record { string = w; token = t; first = x; second = y }, refl, refl, record { differ = h.differ; one = f; other = g });
}

shown_forms : (G : Grammar) (w : List Sym) (t p : ℕ) (x : Shown) → ShowsAct G w t x (reduce p) → (last : List Sym) × AreForms G (around G x.spine) (forms_of G x) last × Begins G t last
shown_forms G w t p x (ShowsAct.reduces i last s differ e f b) = (last, steps_forms G f, b)

pub steps_make_forms : StepsMakeForms
steps_make_forms = record { forms = shown_forms }
