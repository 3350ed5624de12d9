-- Messages one behind the other.
use Rattle.std.proofs.Common.{◌≡◌, ℕ, ◌+◌, ◌<◌, List, [], ◌∷◌, ◌++◌, length, take, get_or, ap, sym, refl, ◌∙◌, subst, append_assoc, append-nil}
use Rattle.std.proofs.lemmas.List.{take_more}
use Rattle.cfg_base.specs.SpanModel.{SpanModel}
use Rattle.cfg_sections.specs.declared.header.HeaderError.{HeaderError}
use Rattle.text_messages.specs.Places.{BeginsWith, SourceValue, heading}
use Rattle.text_messages.specs.declared.source.Severity.TheVariants as severities
use Rattle.lrkit_c.specs.Faults.{BeginsAt, ShowsEach, ShowsError}

abbrev Error : Type 0
Error = HeaderError SpanModel

shows_more : (source : SourceValue) (es : List Error) (e : Error) (text shown : List ℕ) → ShowsEach source es text → ShowsError source e shown → ShowsEach source (es ++ e ∷ []) (text ++ shown)
shows_more source [] e text shown none t = (shown, [], t, refl, ap (λ l. l ++ shown) none ∙ sym (append-nil shown))
shows_more source (x ∷ es) e text shown (first, more, begins, rest, is) t = (first, more ++ shown, begins, shows_more source es e more shown rest t, ap (λ l. l ++ shown) is ∙ append_assoc first more shown)

pub shows_next : (source : SourceValue) (es : List Error) (i : ℕ) (e : Error) (text shown text' : List ℕ) → i < length es → e ≡ get_or es i e → ShowsEach source (take i es) text → ShowsError source e shown → text' ≡ text ++ shown → ShowsEach source (take (i + 1) es) text'
shows_next source es i e text shown text' lt is before t more =
    let P : List Error → Type 0 = λ xs. ShowsEach source xs (text ++ shown) in
    let Q : Error → Type 0 = λ x. ShowsError source x shown in
    let R : List ℕ → Type 0 = λ ms. ShowsEach source (take (i + 1) es) ms in
    subst R (sym more) (subst P (sym (take_more es i e lt)) (shows_more source (take i es) (get_or es i e) text shown before (subst Q is t)))

-- a message in an empty text is at its place
pub begins_at : (source : SourceValue) (span : SpanModel) (message old new : List ℕ) → old ≡ [] → BeginsWith (old ++ heading source severities.Error span message) new → BeginsAt source span new
begins_at source span message old new none (rest, is) =
    record { message = message; begins = (rest, is ∙ ap (λ l. (l ++ heading source severities.Error span message) ++ rest) none) }

-- a message at a span that begins at an offset is at that offset
pub begins_at_offset : (source : SourceValue) (span : SpanModel) (at : ℕ) (message old new : List ℕ) → span.start ≡ at → old ≡ [] → BeginsWith (old ++ heading source severities.Error span message) new → BeginsAt source (record { start = at; end = at }) new
begins_at_offset source span at message old new start none (rest, is) =
    let H : ℕ → List ℕ = λ a. heading source severities.Error (record { start = a; end = a }) message in
    record { message = message; begins = (rest, is ∙ ap (λ l. (l ++ H span.start) ++ rest) none ∙ ap (λ a. H a ++ rest) start) }
