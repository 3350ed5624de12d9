-- What a rule brings to itself before its fronts are followed.
use Rattle.std.proofs.Common.{◌≡◌, ℕ, ◌<◌, ◌≤◌, inl, inr, Bool, true, false, List, [], ◌∷◌, ◌++◌, length, get_or, refl, sym, ap, ◌∙◌, subst, arith, length-set}
use Rattle.std.specs.Prelude.{IsTrue}
use Rattle.std.specs.List.{Contains}
use Rattle.std.proofs.lemmas.Bool.{cases_eq}
use Rattle.std.proofs.lemmas.List.Elements.{Contains-push}
use Rattle.table_theory.proofs.CellLists.{contains_head, contains_nil, contains_cases}
use Rattle.vob.specs.Sets.{is_set, joined_to, HasAllOf}
use Rattle.vob.specs.Passes.{PassStep}
use Rattle.vob.proofs.Bits.{join}
use Rattle.lrtable.specs.Opening.{Front, RuleSets, IsOpen, OpenedLook, room, GainsOwn, IsClosedAt, Underway}
use Rattle.lrtable.proofs.OpenLaws.{no_change, sizes_on, grows_on}
use Rattle.lrtable.proofs.OpenSteps.{joined_in}

pub own_none : (es : List Front) (A : ℕ) (s : RuleSets) → GainsOwn es A s s
own_none es A s = record { sizes = no_change s; opened = refl; looks = λ B t h. h; only = λ B t h. inl h; fewer = omega arith }

pub own_on : (es : List Front) (e : Front) (A : ℕ) (a b c : RuleSets) → Contains es e → GainsOwn es A a b → GainsOwn (e ∷ []) A b c → GainsOwn es A a c
own_on es e A a b c m h k = record {
  sizes = sizes_on a b c h.sizes k.sizes;
  opened = k.opened ∙ h.opened;
  looks = λ B t x. k.looks B t (h.looks B t x);
  only = λ B t x. elim (k.only B t x) [ inl y ↦ h.only B t y | inr y ↦ inr (y.0, (e, m, one y.1.0 y.1.1 y.1.2, first t y.1.0 y.1.1 y.1.3)) ];
  fewer = let p = h.fewer in let q = k.fewer in omega (arith, p, q);
}
  where
    is : (f : Front) → Contains (e ∷ []) f → e ≡ f
    is f x = elim (contains_cases e f [] x) [ inl q ↦ q | inr y ↦ absurd (contains_nil f y) ]

    one : (f : Front) → Contains (e ∷ []) f → f.rule ≡ A → e.rule ≡ A
    one f x q = ap (λ g. g.rule) (is f x) ∙ q

    first : (t : ℕ) (f : Front) → Contains (e ∷ []) f → IsTrue (is_set f.first t) → IsTrue (is_set e.first t)
    first t f x h = subst (λ g. IsTrue (is_set g.first t)) (sym (is f x)) h

pass_room : (C : RuleSets → Type 0) (a b : RuleSets) (x : Bool) → PassStep room C a b x → room b ≤ room a
pass_room C a b true s = let q = s.fewer refl in omega (arith, q)
pass_room C a b false s = let q = ap room (s.still refl) in omega (arith, q)

pub own_joined : (e : Front) (A : ℕ) (a b : RuleSets) (x : Bool) → e.rule ≡ A → A < length a.rows → length e.first ≡ a.tokens → length (get_or a.rows A []) ≡ a.tokens → b.tokens ≡ a.tokens → b.rows ≡ joined_to a.rows A e.first → b.opened ≡ a.opened →
    PassStep room (λ s. HasAllOf A e.first s.rows) a b x → GainsOwn (e ∷ []) A a b
own_joined e A a b x q lt wide was tokens rows opened steps =
    let j = λ (B t : ℕ). joined_in a.rows A e.first B t lt (was ∙ sym wide) in
    record {
      sizes = record { tokens = tokens; opened = ap length opened; rows = ap length rows ∙ length-set a.rows A (join (get_or a.rows A []) e.first) };
      opened = opened;
      looks = λ B t h. subst (λ l. IsTrue (is_set (get_or l B []) t)) (sym rows) ((j B t).1 (inl h));
      only = λ B t h. elim ((j B t).0 (subst (λ l. IsTrue (is_set (get_or l B []) t)) rows h)) [ inl y ↦ inl y | inr y ↦ inr (y.0, (e, contains_head e [], q, y.1)) ];
      fewer = pass_room (λ s. HasAllOf A e.first s.rows) a b x steps;
    }

-- it is still to be taken, and the closing has come as far as it had
pub own_taken : (fronts : List (List Front)) (from old new : RuleSets) (A : ℕ) (waiting : List ℕ) → Underway fronts from old (waiting ++ A ∷ []) → GainsOwn (get_or fronts A []) A old new → Underway fronts from new (waiting ++ A ∷ [])
own_taken fronts from old new A waiting h k = record {
  sizes = sizes_on from old new h.sizes k.sizes;
  grows = grows_on from old new h.grows (record { rules = λ B x. now_open B x; looks = k.looks });
  sound_rules = λ B x. h.sound_rules B (was_open B x);
  sound_looks = λ B t x. elim (k.only B t x) [ inl y ↦ h.sound_looks B t y | inr y ↦ OpenedLook.first y.1.0 (h.sound_rules A (h.are_open A (Contains-push waiting A))) y.1.1 (y.1.2 ∙ y.0) y.1.3 ];
  in_range = λ B x. let lt = h.in_range B x in let n = k.sizes.opened in omega (arith, lt, n);
  are_open = λ B x. now_open B (h.are_open B x);
  closed = λ B x. elim (h.closed B (was_open B x)) [
    | inl y ↦ inl y
    | inr y ↦ elim (cases_eq A B) [ inl q ↦ inl (subst (Contains (waiting ++ A ∷ [])) q (Contains-push waiting A)) | inr ne ↦ inr (closed_on B ne y) ]
  ];
}
  where
    now_open : (B : ℕ) → IsOpen old B → IsOpen new B
    now_open B x = subst (λ l. IsTrue (is_set l B)) (sym k.opened) x

    was_open : (B : ℕ) → IsOpen new B → IsOpen old B
    was_open B x = subst (λ l. IsTrue (is_set l B)) k.opened x

    closed_on : (B : ℕ) → (A ≡ B → ⊥) → IsClosedAt fronts old B → IsClosedAt fronts new B
    closed_on B ne y = record {
      opened = λ e m. now_open e.rule (y.opened e m);
      first = λ e t m x. k.looks e.rule t (y.first e t m x);
      passed = λ e t m n x. k.looks e.rule t (y.passed e t m n (elim (k.only B t x) [ inl z ↦ z | inr z ↦ absurd (ne z.0) ]));
    }
