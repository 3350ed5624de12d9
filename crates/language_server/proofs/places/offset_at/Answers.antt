use Rattle.std.proofs.Common.{◌≡◌, ℕ, List, get_or, length, sym, ap, ◌∙◌, subst₂, rules}
use Rattle.std.proofs.lemmas.Option.{get_or_from_slice_get, slice_get-get_or}
use Rattle.language_server.specs.Lines.{starts_upto}
use Rattle.language_server.specs.Positions.{IsBehind}
use Rattle.language_server.proofs.Positions.{is_behind}
use Rattle.language_server.proofs.places.offset_at.Goals as goal

pub returns-clause-read_back : goal.returns-clause-read_back
returns-clause-read_back c = λ are a within is between.
    let text = c.args.text.now in
    let line = c.args.place.line in
    let len = length c.as_bytes-bytes.result.now in
    let starts = starts_upto text (length text) in
    let read : c.unwrap_or-start.result ≡ get_or c.args.lines.now.starts.items line len = search rules in
    let start = read ∙ (ap (λ (xs : List ℕ). get_or xs line len) are.starts ∙ get_or_from_slice_get starts line (get_or starts line 0) len (slice_get-get_or starts line 0 is.within)) in
    c.column_at.ensures.behind a
    (subst₂ (λ (xs : List ℕ) (s : ℕ). IsBehind c.args.encoding xs s c.args.place.character a) (sym c.as_bytes-bytes.ensures.value) (sym start) (is_behind c.args.encoding text a c.args.place within is between))
