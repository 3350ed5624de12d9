-- Rounds, a production at a time.
use Rattle.std.proofs.Common.{◌≡◌, ℕ, ◌-◌, ◌+◌, ◌<◌, List, [], ◌∷◌, ◌++◌, Some, length, map, get_or, take, append_assoc, sym, ap, ◌∙◌, subst, refl}
use Rattle.std.specs.Prelude.{option_map, slice_get}
use Rattle.std.proofs.lemmas.List.{length-map, map_more}
use Rattle.std.proofs.lemmas.Option.{slice_get-map}
use Rattle.cfg_theory.specs.Grammar.{Grammar}
use Rattle.cfg_base.specs.declared.symbol.PIdx.{PIdx}
use Rattle.refused_tables.specs.Cycles.{Continue, Continues}

-- the last of p and others
abbrev pub last_of : ℕ → List ℕ → ℕ
last_of p [] = p
last_of p (q ∷ qs) = last_of q qs

-- one more behind those that continue each other
pub continue_more : (G : Grammar) (p : ℕ) (qs : List ℕ) (q : ℕ) → Continue G p qs → q < length G.productions → Continues G (last_of p qs) q → Continue G p (qs ++ q ∷ [])
continue_more G p [] q all lt one = (lt, one, tt)
continue_more G p (x ∷ xs) q all lt one = (all.0, all.1, continue_more G x xs q all.2 lt one)

pub last_more : (p : ℕ) (qs : List ℕ) (q : ℕ) → last_of p (qs ++ q ∷ []) ≡ q
last_more p [] q = refl
last_more p (x ∷ xs) q = last_more x xs q

-- one more production
pub round_step : (G : Grammar) (p : ℕ) (xs : List (PIdx ℕ)) (i b : ℕ) (d : PIdx ℕ) → i < length xs → Continue G p (map (λ (q : PIdx ℕ). q.0) (take i xs)) → b ≡ last_of p (map (λ (q : PIdx ℕ). q.0) (take i xs)) →
    (get_or xs i d).0 < length G.productions → Continues G b (get_or xs i d).0 → Continue G p (map (λ (q : PIdx ℕ). q.0) (take (i + 1) xs)) × ((get_or xs i d).0 ≡ last_of p (map (λ (q : PIdx ℕ). q.0) (take (i + 1) xs)))
round_step G p xs i b d lt all e within one =
    let more = map_more (λ (q : PIdx ℕ). q.0) xs i d lt in
    let seen = map (λ (q : PIdx ℕ). q.0) (take i xs) in
    let q = (get_or xs i d).0 in
    (subst (Continue G p) (sym more) (continue_more G p seen q all within (subst (λ n. Continues G n q) e one)), sym (last_more p seen q) ∙ ap (last_of p) (sym more))

-- the last item of a list, as it is seen
pub last_seen : {X Y : Type 0} (f : X → Y) (xs : List X) (x : X) → slice_get xs (length xs - 1) ≡ Some x → slice_get (map f xs) (length (map f xs) - 1) ≡ Some (f x)
last_seen f xs x at = ap (λ n. slice_get (map f xs) (n - 1)) (length-map xs f) ∙ slice_get-map f xs (length xs - 1) ∙ ap (option_map f) at

-- a text that was continued four times
pub chained : (o a b d e n₁ n₂ n₃ n₄ : List ℕ) → n₁ ≡ o ++ a → n₂ ≡ n₁ ++ b → n₃ ≡ n₂ ++ d → n₄ ≡ n₃ ++ e → n₄ ≡ o ++ (a ++ b ++ d ++ e)
chained o a b d e n₁ n₂ n₃ n₄ e₁ e₂ e₃ e₄ =
    e₄ ∙ ap (λ (l : List ℕ). l ++ e) (e₃ ∙ ap (λ (l : List ℕ). l ++ d) (e₂ ∙ ap (λ (l : List ℕ). l ++ b) e₁))
    ∙ (ap (λ (l : List ℕ). (l ++ d) ++ e) (append_assoc o a b) ∙ ap (λ (l : List ℕ). l ++ e) (append_assoc o (a ++ b) d) ∙ append_assoc o (a ++ b ++ d) e)
