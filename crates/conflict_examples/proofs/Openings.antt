-- Spines, one production after the other.
use Rattle.std.proofs.Common.{◌≡◌, ℕ, zero, suc, ◌≤◌, List, [], ◌∷◌, ◌++◌, length, map, take, drop, reverse, refl, sym, ap, ◌∙◌, subst, append_assoc, append-nil}
use Rattle.std.proofs.lemmas.List.{map-append, take-map, drop-map, length-map, reverse-append, reverse-reverse}
use Rattle.cfg_theory.specs.Grammar.{Sym, rule, Grammar, body_of, IsOf, IsNext}
use Rattle.lr_theory.specs.Canonical.{from_dot}
use Rattle.conflict_examples.specs.Spines.{Item, IsSpine, back_over, before_dots}
use Rattle.conflict_examples.specs.Opening.{IsOpened}
use Rattle.conflict_examples.proofs.SymbolLists.{last_turned}

back_is : (n : ℕ) (a w : List Sym) → back_over n a w ≡ reverse (take n a) ++ w
back_is zero a w = refl
back_is (suc n) [] w = refl
back_is (suc n) (X ∷ a) w = back_is n a (X ∷ w) ∙ sym (ap (λ l. l ++ w) (reverse-append (X ∷ []) (take n a)) ∙ append_assoc (reverse (take n a)) (X ∷ []) w)

module _ (G : Grammar) where
  pub start_opened : (i : Item) (spine : List Item) (symbols others : List Sym) → i.production ≡ G.start → i.dot ≤ length (body_of G i.production) → spine ≡ i ∷ [] → others ≡ [] →
      symbols ≡ take i.dot (body_of G i.production) → IsOpened G spine (reverse symbols) others
  start_opened i spine symbols others e h one rest read = subst (λ js. IsOpened G js (reverse symbols) others) (sym one) (record {
    is_spine = IsSpine.start e h;
    string = back_is i.dot (body_of G i.production) [] ∙ append-nil (reverse (take i.dot (body_of G i.production))) ∙ sym (ap reverse read);
    rest = sym rest;
  })

  pub opened_more : (i j : Item) (js spine : List Item) (w front others now : List Sym) → IsOpened G (j ∷ js) (reverse w) others → spine ≡ i ∷ j ∷ js →
      (A : ℕ) × IsNext G j.production j.dot (rule A) × IsOf G i.production A → i.dot ≤ length (body_of G i.production) →
      front ≡ w ++ take i.dot (body_of G i.production) → now ≡ from_dot G j.production (suc j.dot) ++ others → IsOpened G spine (reverse front) now
  opened_more i j js spine w front others now was e (A, n, o) h read rest = subst (λ is. IsOpened G is (reverse front) now) (sym e) (record {
    is_spine = IsSpine.within A was.is_spine n o h;
    string = back_is i.dot (body_of G i.production) (before_dots G (j ∷ js)) ∙ ap (λ v. reverse (take i.dot (body_of G i.production)) ++ v) was.string ∙ sym (ap reverse read ∙ reverse-append w (take i.dot (body_of G i.production)));
    rest = ap (λ v. from_dot G j.production (suc j.dot) ++ v) was.rest ∙ sym rest;
  })

module _ {A B : Type 0} (f : A → Item) (h : B → Sym) (G : Grammar) where
  -- as the code keeps them
  abbrev pub Kept : List A → List B → List B → Type 0
  Kept items symbols rest = IsOpened G (reverse (map f items)) (reverse (map h symbols)) (reverse (map h rest))

  two_more : (outer items now : List A) (x i : A) → items ≡ outer ++ x ∷ [] → now ≡ items ++ i ∷ [] → reverse (map f now) ≡ f i ∷ f x ∷ reverse (map f outer)
  two_more outer items now x i e m = last_turned f items now i m ∙ ap (λ l. f i ∷ l) (last_turned f outer items x e)

  within : (i : Item) (body : List B) → map h body ≡ body_of G i.production → i.dot ≤ length body → i.dot ≤ length (body_of G i.production)
  within i body m le = subst (λ k. i.dot ≤ k) (sym (length-map body h) ∙ ap length m) le

  taken : (d : ℕ) (body : List B) (b : List Sym) → map h body ≡ b → map h (take d body) ≡ take d b
  taken d body b m = sym (take-map h d body) ∙ ap (take d) m

  pub start_kept : (x : A) (none items : List A) (symbols rest body : List B) → (f x).production ≡ G.start → map h body ≡ body_of G (f x).production → (f x).dot ≤ length body →
      none ≡ [] → items ≡ none ++ x ∷ [] → rest ≡ [] → symbols ≡ take (f x).dot body → Kept items symbols rest
  start_kept x none items symbols rest body e m le n one r t =
      start_opened G (f x) (reverse (map f items)) (map h symbols) (reverse (map h rest)) e (within (f x) body m le) (last_turned f none items x one ∙ ap (λ l. f x ∷ reverse (map f l)) n) (ap (λ l. reverse (map h l)) r)
      (ap (map h) t ∙ taken (f x).dot body (body_of G (f x).production) m)

  pub more_kept : (i x : A) (outer items now : List A) (w front rest after body back : List B) → items ≡ outer ++ x ∷ [] → Kept items w rest → now ≡ items ++ i ∷ [] →
      (n : ℕ) × IsNext G (f x).production (f x).dot (rule n) × IsOf G (f i).production n → map h body ≡ body_of G (f i).production → (f i).dot ≤ length body → front ≡ w ++ take (f i).dot body →
      map h after ≡ map h rest ++ reverse (map h back) → map h back ≡ from_dot G (f x).production (suc (f x).dot) → Kept now front after
  more_kept i x outer items now w front rest after body back e was m stands b le t r k =
      let next = from_dot G (f x).production (suc (f x).dot) in
      let ends = reverse (map h rest) in
      let inside : IsOpened G (f x ∷ reverse (map f outer)) (reverse (map h w)) ends = subst (λ l. IsOpened G l (reverse (map h w)) ends) (last_turned f outer items x e) was in
      let read : map h front ≡ map h w ++ take (f i).dot (body_of G (f i).production) =
      ap (map h) t ∙ map-append h w (take (f i).dot body) ∙ ap (λ l. map h w ++ l) (taken (f i).dot body (body_of G (f i).production) b) in
      let left : reverse (map h after) ≡ next ++ ends =
      ap reverse r ∙ reverse-append (map h rest) (reverse (map h back)) ∙ ap (λ l. l ++ ends) (reverse-reverse (map h back) ∙ k) in
      opened_more G (f i) (f x) (reverse (map f outer)) (reverse (map f now)) (map h w) (map h front) ends (reverse (map h after)) inside (two_more outer items now x i e m) stands (within (f i) body b le) read left

  pub behind_is : (body back : List B) (d p : ℕ) → map h body ≡ body_of G p → back ≡ drop d body → map h back ≡ from_dot G p d
  behind_is body back d p m e = ap (map h) e ∙ sym (drop-map h d body) ∙ ap (drop d) m
