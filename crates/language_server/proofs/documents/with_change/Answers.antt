use Rattle.std.proofs.Common.{◌≡◌, ◌<◌, ◌≤◌, ◌^◌, ◌++◌, List, ℕ, Option, Some, IfOk, length, take, drop, string_bytes, sym, subst, arith}
use Rattle.std.specs.Prelude.{IfSome}
use Rattle.std.specs.Str.{IsCharBoundary}
use Rattle.language_server.specs.Positions.{AreLinesOf, IsBetween, IsPlaceOf}
use Rattle.language_server.proofs.Positions.{is_boundary}
use Rattle.language_server.proofs.documents.with_change.Goals.{in-Some-lines, in-None+in_ok-lines-in-None}
use Rattle.language_server.proofs.documents.with_change.Goals as goal

if_some : {X : Type 0} (o : Option X) (x : X) (P : X → Type 0) → o ≡ Some x → P x → IfSome o P
if_some o x P e h = subst (λ q. IfSome q P) (sym e) h

of_some : {X : Type 0} (o : Option X) (x : X) (P : X → Type 0) → o ≡ Some x → IfSome o P → P x
of_some o x P e h = subst (λ q. IfSome q P) e h

pub returns-clause-part : goal.returns-clause-part
returns-clause-part c = λ short are.
    let text = string_bytes c.args.text in
    let lines : AreLinesOf text c.match-lines-2.lines = elim c.match-lines-2.branch [
      | in-Some-lines w ↦ subst (AreLinesOf text) (sym w.lines-is) (of_some c.args.lines w.in-Some-lines.lines (AreLinesOf text) w.in-Some-lines.is are)
      | in-None+in_ok-lines-in-None w ↦ subst (AreLinesOf text) (sym w.lines-is) (subst (λ (xs : List ℕ). length xs < 2 ^ 63 → AreLinesOf xs w.in_ok-lines-in-None.lines) w.as_str.ensures.value w.in_ok-lines-in-None.ensures short)
    ] in
    if_some _ _ _ c.in-Some.is
    (λ a b le within at bt ba bb.
    let low : a ≤ length text = omega (arith, le, within) in
    let first : c.offset_at-first.result ≡ a = subst (λ (xs : List ℕ). AreLinesOf xs c.match-lines-2.lines → (k : ℕ) → k ≤ length xs → IsPlaceOf c.args.encoding xs k c.in-Some.start → IsBetween xs k → c.offset_at-first.result ≡ k) c.as_str-2.ensures.value c.offset_at-first.ensures.read_back lines a low at ba in
    let last : c.offset_at.result ≡ b = subst (λ (xs : List ℕ). AreLinesOf xs c.match-lines-2.lines → (k : ℕ) → k ≤ length xs → IsPlaceOf c.args.encoding xs k c.in-Some.end → IsBetween xs k → c.offset_at.result ≡ k) c.as_str-3.ensures.value c.offset_at.ensures.read_back lines b within bt bb in
    let m = c.max-past.ensures in
    let past : c.max-past.result ≡ b = omega (arith, m, first, last, le) in
    let part = c.as_str-4.ensures.value in
    let done = c.with_part.ensures (subst (IsCharBoundary text) (sym first) (is_boundary text a low ba)) (subst (IsCharBoundary text) (sym past) (is_boundary text b within bb)) in
    subst (λ n. IfOk c.with_part.result (λ s. string_bytes s ≡ take n text ++ (string_bytes c.args.change.text ++ drop b text))) first
    (subst (λ n. IfOk c.with_part.result (λ s. string_bytes s ≡ take c.offset_at-first.result text ++ (string_bytes c.args.change.text ++ drop n text))) past
    (subst (λ (l : List ℕ). IfOk c.with_part.result (λ s. string_bytes s ≡ take c.offset_at-first.result text ++ (l ++ drop c.max-past.result text))) part done)))
