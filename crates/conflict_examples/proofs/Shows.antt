-- What is shown of an action, from what is open.
use Rattle.std.proofs.Common.{◌≡◌, ◌≢◌, ℕ, List, [], ◌∷◌, ◌++◌, length, map, reverse, sym, ap, ◌∙◌, subst}
use Rattle.cfg_theory.specs.Grammar.{Sym, token, Grammar, body_of, IsNext, IsEnd}
use Rattle.lr_theory.specs.Canonical.{shift, reduce, accept}
use Rattle.conflict_examples.specs.Spines.{Item, IsSpine, before_dots, around, AreSteps, Shown, Stands, ShowsAct}
use Rattle.conflict_examples.specs.Opening.{IsOpened, AreStepsTo}
use Rattle.conflict_examples.proofs.SymbolLists.{last_turned}
use Rattle.conflict_examples.proofs.Openings.{Kept}

module _ (G : Grammar) where
  stands_open : (i : Item) (js spine : List Item) (w others : List Sym) → IsOpened G (i ∷ js) w others → spine ≡ i ∷ js → Stands G w spine i
  stands_open i js spine w others o e = record { others = js; innermost = e; is_spine = subst (IsSpine G) (sym e) o.is_spine; string = ap (before_dots G) e ∙ o.string }

  pub shows_shift : (t : ℕ) (i : Item) (js : List Item) (w others : List Sym) (x : Shown) → IsOpened G (i ∷ js) w others → x.spine ≡ i ∷ js → x.steps ≡ [] → IsNext G i.production i.dot (token t) → ShowsAct G w t x shift
  shows_shift t i js w others x o e none n = ShowsAct.shifts i (stands_open i js x.spine w others o e) n none

  pub shows_accept : (t : ℕ) (i : Item) (js : List Item) (w others : List Sym) (x : Shown) → IsOpened G (i ∷ js) w others → x.spine ≡ i ∷ js → x.steps ≡ [] → i.production ≡ G.start →
      i.dot ≡ length (body_of G G.start) → IsEnd G t → ShowsAct G w t x accept
  shows_accept t i js w others x o e none start dot end = ShowsAct.accepts i (stands_open i js x.spine w others o e) start dot end none

  pub shows_reduce : (t p : ℕ) (i : Item) (js : List Item) (w others : List Sym) (x : Shown) → IsOpened G (i ∷ js) w others → x.spine ≡ i ∷ js → i.production ≡ p → p ≢ G.start →
      i.dot ≡ length (body_of G p) → AreStepsTo G t others x.steps → ShowsAct G w t x (reduce p)
  shows_reduce t p i js w others x o e same differ dot f =
      subst (λ q. ShowsAct G w t x (reduce q)) same
      (ShowsAct.reduces i f.last (stands_open i js x.spine w others o e) (λ s. differ (sym same ∙ s)) (dot ∙ ap (λ q. length (body_of G q)) (sym same))
      (subst (λ a. AreSteps G a x.steps f.last) (sym (ap (around G) e ∙ o.rest)) f.steps_are) f.begins)

module _ {A B : Type 0} (f : A → Item) (h : B → Sym) (G : Grammar) (t : ℕ) (x : A) (outer items spine : List A) (w symbols rest : List B) (steps : List ℕ)
    (last : items ≡ outer ++ x ∷ []) (kept : Kept f h G items w rest) (same : spine ≡ items) (string : symbols ≡ w) where
  abbrev pub Seen : Shown
  Seen = record { spine = reverse (map f spine); steps = steps }

  seen_open : IsOpened G (f x ∷ reverse (map f outer)) (reverse (map h symbols)) (reverse (map h rest))
  seen_open =
      subst (λ l. IsOpened G (f x ∷ reverse (map f outer)) (reverse (map h l)) (reverse (map h rest))) (sym string)
      (subst (λ l. IsOpened G l (reverse (map h w)) (reverse (map h rest))) (last_turned f outer items x last) kept)

  seen_spine : reverse (map f spine) ≡ f x ∷ reverse (map f outer)
  seen_spine = ap (λ l. reverse (map f l)) same ∙ last_turned f outer items x last

  pub kept_shift : steps ≡ [] → IsNext G (f x).production (f x).dot (token t) → ShowsAct G (reverse (map h symbols)) t Seen shift
  kept_shift none n = shows_shift G t (f x) (reverse (map f outer)) (reverse (map h symbols)) (reverse (map h rest)) Seen seen_open seen_spine none n

  pub kept_accept : steps ≡ [] → (f x).production ≡ G.start → (f x).dot ≡ length (body_of G G.start) → IsEnd G t → ShowsAct G (reverse (map h symbols)) t Seen accept
  kept_accept none start dot end = shows_accept G t (f x) (reverse (map f outer)) (reverse (map h symbols)) (reverse (map h rest)) Seen seen_open seen_spine none start dot end

  pub kept_reduce : (p : ℕ) → (f x).production ≡ p → p ≢ G.start → (f x).dot ≡ length (body_of G p) → AreStepsTo G t (reverse (map h rest)) steps → ShowsAct G (reverse (map h symbols)) t Seen (reduce p)
  kept_reduce p is differ dot a = shows_reduce G t p (f x) (reverse (map f outer)) (reverse (map h symbols)) (reverse (map h rest)) Seen seen_open seen_spine is differ dot a
