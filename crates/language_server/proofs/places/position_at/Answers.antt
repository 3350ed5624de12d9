use Rattle.std.proofs.Common.{◌≡◌, ◌+◌, ◌-◌, ◌^◌, ◌<◌, List, ℕ, get_or, length, take, sym, ◌∙◌, subst, subst₂, arith, rules}
use Rattle.std.specs.List.Sorted.{IsNonDecreasing}
use Rattle.language_server.specs.Positions.{units, AreMarks, IsPlaceOf}
use Rattle.language_server.specs.declared.places.Encoding.{Encoding}
use Rattle.language_server.specs.declared.places.Encoding.TheVariants.{Utf16}
use Rattle.language_server.proofs.Positions.{bytes_between, placed, starts_sorted}
use Rattle.language_server.proofs.places.position_at.Goals as goal

pub returns-in-Utf8 : goal.returns-in-Utf8
returns-in-Utf8 c = λ short are.
    let text = c.args.text.now in
    let end = c.min-end.result in
    let start = c.min-start.result in
    let cut = c.min-end.ensures in
    let first = c.min-start.ensures in
    let same = c.as_slice-starts.ensures.value ∙ are.starts in
    let read : c.unwrap_or.result ≡ get_or c.as_slice-starts.result.now c.saturating_sub-line.result 0 = search rules in
    let sum = subst (λ (e : Encoding). units e (take start text) + (end - start) ≡ units e (take end text)) (sym c.in-Utf8.is) (bytes_between text start end (omega (arith, first)) (omega (arith, cut))) in
    subst (λ k. IsPlaceOf c.args.encoding text k (record { line = c.saturating_sub-line.result; character = end - start })) cut
    (placed c.args.encoding text c.as_slice-starts.result.now end c.lines_upto.result c.saturating_sub-line.result c.unwrap_or.result start (end - start) same c.lines_upto.ensures.bound (c.lines_upto.ensures.point (subst (λ (xs : List ℕ). IsNonDecreasing xs) (sym same) (starts_sorted text (length text)))) c.saturating_sub-line.ensures read first sum)

pub returns-in-Utf16 : goal.returns-in-Utf16
returns-in-Utf16 c = λ short are.
    let text = c.args.text.now in
    let end = c.min-end.result in
    let start = c.min-start.result in
    let column = c.units_between-character.result in
    let same = c.as_slice-starts.ensures.value ∙ are.starts in
    let bytes = c.as_bytes.ensures.value in
    let read : c.unwrap_or.result ≡ get_or c.as_slice-starts.result.now c.saturating_sub-line.result 0 = search rules in
    let between : units Utf16 (take start text) + column ≡ units Utf16 (take end text) =
    subst (λ (xs : List ℕ). units Utf16 (take start xs) + column ≡ units Utf16 (take end xs)) bytes
    (c.units_between-character.ensures (subst (λ (xs : List ℕ). length xs < 2 ^ 63) (sym bytes) short) (subst₂ (λ (xs ms : List ℕ). AreMarks xs ms) (sym bytes) (sym c.as_slice.ensures.value) are.marks)) in
    let sum = subst (λ (e : Encoding). units e (take start text) + column ≡ units e (take end text)) (sym c.in-Utf16.is) between in
    subst (λ k. IsPlaceOf c.args.encoding text k (record { line = c.saturating_sub-line.result; character = column })) c.min-end.ensures
    (placed c.args.encoding text c.as_slice-starts.result.now end c.lines_upto.result c.saturating_sub-line.result c.unwrap_or.result start column same c.lines_upto.ensures.bound (c.lines_upto.ensures.point (subst (λ (xs : List ℕ). IsNonDecreasing xs) (sym same) (starts_sorted text (length text)))) c.saturating_sub-line.ensures read c.min-start.ensures sum)
