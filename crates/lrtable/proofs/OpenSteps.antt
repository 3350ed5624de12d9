-- Steps of an opening.
use Rattle.std.proofs.Common.{◌≡◌, ℕ, ◌<◌, ◌⊎◌, inl, inr, ◌↔◌, Bool, true, false, ◌||◌, List, [], ◌∷◌, ◌++◌, length, get_or, set, refl, sym, ap, ◌∙◌, subst, arith, length-set, length-append}
use Rattle.std.specs.Prelude.{IsTrue, if◌then◌else◌}
use Rattle.std.specs.List.{Contains}
use Rattle.std.proofs.lemmas.Bool.{cases_eq}
use Rattle.std.proofs.lemmas.List.Elements.{Contains-append_left, Contains-push, Contains-push_cases}
use Rattle.vob.specs.Sets.{is_set, is_set_in, joined_to, HasAllOf}
use Rattle.vob.specs.Passes.{PassStep}
use Rattle.lrtable.specs.Opening.{Front, RuleSets, IsOpen, HasRuleLook, Brings, room, StaysAt, FrontStep, Follows}
use Rattle.vob.proofs.Bits.{join, joined, put_in, row_set}
use Rattle.cfg_sets.proofs.Passed.{step_and}

never : false ≡ true → ⊥
never e = cc

-- joining to a row
pub joined_in : (rows : List (List Bool)) (A : ℕ) (ys : List Bool) (B t : ℕ) → A < length rows → length (get_or rows A []) ≡ length ys →
    IsTrue (is_set_in (joined_to rows A ys) B t) ↔ (IsTrue (is_set_in rows B t) ⊎ ((A ≡ B) × IsTrue (is_set ys t)))
joined_in rows A ys B t lt len = elim (row_set rows A B t (join (get_or rows A []) ys) lt) [ inl q ↦ here q.0 q.1 | inr q ↦ there q.0 q.1 ]
  where
    here : B ≡ A → is_set_in (joined_to rows A ys) B t ≡ is_set (join (get_or rows A []) ys) t → IsTrue (is_set_in (joined_to rows A ys) B t) ↔ (IsTrue (is_set_in rows B t) ⊎ ((A ≡ B) × IsTrue (is_set ys t)))
    here e at =
        let j = joined (get_or rows A []) ys t len in (
          λ h. elim (j.0 (sym at ∙ h)) [ inl x ↦ inl (subst (λ C. IsTrue (is_set_in rows C t)) (sym e) x) | inr y ↦ inr (sym e, y) ],
          λ h. at ∙ j.1 (elim h [ inl x ↦ inl (subst (λ C. IsTrue (is_set_in rows C t)) e x) | inr y ↦ inr y.1 ]),
        )

    there : (B ≡ A → ⊥) → is_set_in (joined_to rows A ys) B t ≡ is_set_in rows B t → IsTrue (is_set_in (joined_to rows A ys) B t) ↔ (IsTrue (is_set_in rows B t) ⊎ ((A ≡ B) × IsTrue (is_set ys t)))
    there ne at = (λ h. inl (sym at ∙ h), λ h. elim h [ inl x ↦ at ∙ x | inr y ↦ absurd (ne (sym y.0)) ])

length_joined : (rows : List (List Bool)) (A : ℕ) (ys : List Bool) → length (joined_to rows A ys) ≡ length rows
length_joined rows A ys = length-set rows A (join (get_or rows A []) ys)

-- a rule is opened, what follows it comes to it, and where that is nullable the lookaheads of its production do
module _ (e : Front) (looks : List Bool) (a b c d : RuleSets) (x y z : Bool) (lt : e.rule < length a.opened) (lt' : e.rule < length a.rows)
    (wide : length e.first ≡ a.tokens) (wide' : length looks ≡ a.tokens)
    (b_tokens : b.tokens ≡ a.tokens) (b_rows : b.rows ≡ a.rows) (b_opened : b.opened ≡ set a.opened e.rule true) (b_steps : PassStep room (λ s. IsOpen s e.rule) a b x)
    (c_tokens : c.tokens ≡ b.tokens) (c_rows : c.rows ≡ joined_to b.rows e.rule e.first) (c_opened : c.opened ≡ b.opened) (c_width : length (get_or b.rows e.rule []) ≡ b.tokens) (c_steps : PassStep room (λ s. HasAllOf e.rule e.first s.rows) b c y)
    (d_tokens : d.tokens ≡ c.tokens) (d_rows : d.rows ≡ (if e.nullable then joined_to c.rows e.rule looks else c.rows)) (d_opened : d.opened ≡ c.opened) (d_width : IsTrue e.nullable → length (get_or c.rows e.rule []) ≡ c.tokens) (d_steps : PassStep room (λ s. IsTrue e.nullable → HasAllOf e.rule looks s.rows) c d z) where
  opened_is : d.opened ≡ set a.opened e.rule true
  opened_is = d_opened ∙ c_opened ∙ b_opened

  is_open : (A : ℕ) → IsOpen d A ↔ (IsOpen a A ⊎ (e.rule ≡ A))
  is_open A = subst (λ l. IsTrue (is_set l A) ↔ (IsOpen a A ⊎ (e.rule ≡ A))) (sym opened_is) (put_in a.opened e.rule A lt)

  at_c : (A t : ℕ) → HasRuleLook c A t ↔ (HasRuleLook a A t ⊎ ((e.rule ≡ A) × IsTrue (is_set e.first t)))
  at_c A t = subst (λ l. IsTrue (is_set_in l A t) ↔ (HasRuleLook a A t ⊎ ((e.rule ≡ A) × IsTrue (is_set e.first t)))) (sym (c_rows ∙ ap (λ l. joined_to l e.rule e.first) b_rows))
      (joined_in a.rows e.rule e.first A t lt' (ap (λ l. length (get_or l e.rule [])) (sym b_rows) ∙ c_width ∙ b_tokens ∙ sym wide))

  in_c : e.rule < length c.rows
  in_c = let n = ap length c_rows in let m = length_joined b.rows e.rule e.first in let k = ap length b_rows in omega (arith, n, m, k, lt')

  at_d : (n : Bool) → e.nullable ≡ n → (A t : ℕ) → HasRuleLook d A t ↔ (HasRuleLook c A t ⊎ ((e.rule ≡ A) × (IsTrue e.nullable × IsTrue (is_set looks t))))
  at_d true q A t =
      let j = joined_in c.rows e.rule looks A t in_c (d_width q ∙ c_tokens ∙ b_tokens ∙ sym wide') in
      let r : d.rows ≡ joined_to c.rows e.rule looks = d_rows ∙ ap (λ (n : Bool). if n then joined_to c.rows e.rule looks else c.rows) q in (
        λ h. elim (j.0 (subst (λ l. IsTrue (is_set_in l A t)) r h)) [ inl u ↦ inl u | inr u ↦ inr (u.0, (q, u.1)) ],
        λ h. subst (λ l. IsTrue (is_set_in l A t)) (sym r) (j.1 (elim h [ inl u ↦ inl u | inr u ↦ inr (u.0, u.1.1) ])),
      )
  at_d false q A t =
      let r : d.rows ≡ c.rows = d_rows ∙ ap (λ (n : Bool). if n then joined_to c.rows e.rule looks else c.rows) q in (
        λ h. inl (subst (λ l. IsTrue (is_set_in l A t)) r h),
        λ h. subst (λ l. IsTrue (is_set_in l A t)) (sym r) (elim h [ inl u ↦ u | inr u ↦ absurd (never (sym q ∙ u.1.0)) ]),
      )

  has_look : (A t : ℕ) → HasRuleLook d A t ↔ (HasRuleLook a A t ⊎ ((e.rule ≡ A) × Brings looks e t))
  has_look A t =
      let p = at_d e.nullable refl A t in
      let q = at_c A t in (
        λ h. elim (p.0 h) [ inl u ↦ elim (q.0 u) [ inl v ↦ inl v | inr v ↦ inr (v.0, inl v.1) ] | inr u ↦ inr (u.0, inr u.1) ],
        λ h. p.1 (elim h [ inl v ↦ inl (q.1 (inl v)) | inr v ↦ elim v.1 [ inl f ↦ inl (q.1 (inr (v.0, f))) | inr n ↦ inr (v.0, n) ] ]),
      )

  rows_stay : (n : Bool) → e.nullable ≡ n → length d.rows ≡ length a.rows
  rows_stay true q = let m = length_joined c.rows e.rule looks in let k = length_joined b.rows e.rule e.first in ap length (d_rows ∙ ap (λ (n : Bool). if n then joined_to c.rows e.rule looks else c.rows) q) ∙ m ∙ ap length c_rows ∙ k ∙ ap length b_rows
  rows_stay false q = let k = length_joined b.rows e.rule e.first in ap length (d_rows ∙ ap (λ (n : Bool). if n then joined_to c.rows e.rule looks else c.rows) q) ∙ ap length c_rows ∙ k ∙ ap length b_rows

  pub front_step : FrontStep looks e a d (x || y || z)
  front_step =
      let s = step_and room (λ s. IsOpen s e.rule) (λ s. HasAllOf e.rule e.first s.rows) a b c x y b_steps c_steps in
      let r = step_and room (λ s. IsOpen s e.rule × HasAllOf e.rule e.first s.rows) (λ s. IsTrue e.nullable → HasAllOf e.rule looks s.rows) a c d (x || y) z s d_steps in
      record {
        comes = record {
          sizes = record { tokens = d_tokens ∙ c_tokens ∙ b_tokens; opened = ap length opened_is ∙ length-set a.opened e.rule true; rows = rows_stay e.nullable refl };
          grows = record { rules = λ A h. (is_open A).1 (inl h); looks = λ A t h. (has_look A t).1 (inl h) };
          rules = λ A h. (is_open A).1 (inr h);
          looks = λ A t h. (has_look A t).1 (inr h);
          only_rules = λ A. (is_open A).0;
          only_looks = λ A t. (has_look A t).0;
        };
        still = r.still;
        fewer = r.fewer;
      }
