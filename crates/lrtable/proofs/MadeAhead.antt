-- What follows the symbols behind dots, made from a production's end on.
use Rattle.std.proofs.Common.{◌≡◌, ℕ, zero, suc, ◌↔◌, Bool, List, [], ◌∷◌, ◌++◌, length, inl, inr, sym, ap, ◌∙◌, subst}
use Rattle.std.specs.Prelude.{IsTrue}
use Rattle.std.specs.List.{Contains}
use Rattle.std.proofs.lemmas.List.Elements.{Contains-push_cases}
use Rattle.cfg_theory.specs.Grammar.{Sym, rule, Grammar, IsNext, body_of}
use Rattle.cfg_theory.specs.First.{AllOf}
use Rattle.cfg_theory.proofs.Lists.{drop_from_get}
use Rattle.lr_theory.specs.Canonical.{from_dot}
use Rattle.vob.specs.Sets.{is_set}
use Rattle.cfg_sets.specs.Firsts.{FirstSets, HasEpsilon, HasFirst, AreFirsts, FirstBefore, FirstsOf}
use Rattle.lrtable.specs.Closes.{IsRest}
use Rattle.lrtable.specs.declared.tails.Tail.{Tail}
use Rattle.lrtable.proofs.Exact.{exact, rest_is}

-- from what follows a nullable rule to what follows the symbol before it
pub one_before : (G : Grammar) (s : FirstSets) (p d A : ℕ) (old new : List Bool) (nullable : Bool) → AreFirsts G s → IsNext G p (suc d) (rule A) → HasEpsilon s A → IsRest G p (suc d) old nullable →
    length new ≡ s.tokens → ((t : ℕ) → IsTrue (is_set new t) ↔ FirstBefore s (rule A) (λ u. IsTrue (is_set old u)) t) → IsRest G p d new nullable
one_before G s p d A old new nullable k next skips r wide bits =
    let x = exact G s k in
    let behind = from_dot G p (suc (suc d)) in
    let list : from_dot G p (suc d) ≡ rule A ∷ behind = drop_from_get (body_of G p) (suc d) (rule A) next.at in
    let begins : (t : ℕ) → IsTrue (is_set new t) ↔ FirstsOf s (rule A ∷ behind) t = λ t. (
      λ h. elim ((bits t).0 h) [ inl y ↦ inl y | inr z ↦ inr (z.0, (x.list_first behind t).1 ((r.first t).0 z.1)) ],
      λ h. (bits t).1 (elim h [ inl y ↦ inl y | inr z ↦ inr (z.0, (r.first t).1 ((x.list_first behind t).0 z.1)) ]),
    ) in
    rest_is G s k p d new nullable wide
    (subst (λ l. IsTrue nullable ↔ AllOf (HasEpsilon s) l) (sym list) (λ h. (skips, (x.list_nullable behind).1 (r.nullable.0 h)), λ h. r.nullable.1 ((x.list_nullable behind).0 h.1)))
    (subst (λ l. (t : ℕ) → IsTrue (is_set new t) ↔ FirstsOf s l t) (sym list) begins)

-- one more was made
pub one_more : (G : Grammar) (old new : List Tail) (e : Tail) → new ≡ old ++ e ∷ [] → ((x : Tail) → Contains old x → IsRest G x.production x.dot x.rest.first.bits x.rest.nullable) → IsRest G e.production e.dot e.rest.first.bits e.rest.nullable →
    (x : Tail) → Contains new x → IsRest G x.production x.dot x.rest.first.bits x.rest.nullable
one_more G old new e is h one x c = elim (Contains-push_cases old e x (subst (λ l. Contains l x) is c)) [
  | inl y ↦ h x y
  | inr q ↦ subst (λ (y : Tail). IsRest G y.production y.dot y.rest.first.bits y.rest.nullable) q one
]
