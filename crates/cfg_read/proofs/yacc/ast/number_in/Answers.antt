use Rattle.std.proofs.Common.{◌≡◌, true, map, position, sym, ap, ◌∙◌}
use Rattle.std.specs.Str.{bytes_eq}
use Rattle.std.specs.String.{string_bytes}
use Rattle.std.proofs.lemmas.Slice.Eq.{bytes_eq-Decides}
use Rattle.cfg_read.specs.AstModels.{key_text}
use Rattle.cfg_read.specs.NameTexts.{name_text}
use Rattle.cfg_read.proofs.KeyPlaces.{keys_place, place_found}
use Rattle.cfg_read.proofs.yacc.ast.number_in.Goals as goal

pub returns-in-Some : goal.returns-in-Some
returns-in-Some g c =
    let es = c.args.names.now.entries in
    let q = name_text c.args.name.now in
    let k = c.in-Some.key.now in
    let same : bytes_eq c.as_str.result.now c.as_str-text.result.now ≡ true = sym c.if-eq.ensures in
    let key : string_bytes k ≡ q = sym c.as_str.ensures.value ∙ (bytes_eq-Decides c.as_str.result.now c.as_str-text.result.now).0 same ∙ c.as_str-text.ensures in
    place_found q es c.place-place.result (k, c.in-Some._value.now) c.len-count.ensures.unique (sym c.in-Some.ensures.entry) key

pub returns-in_default : goal.returns-in_default
returns-in_default g c =
    let es = c.args.names.now.entries in
    c.get_index_of.ensures.index
    ∙ keys_place c.as_str-text.result.now es
    ∙ ap (λ q. position (bytes_eq q) (map key_text es)) c.as_str-text.ensures
