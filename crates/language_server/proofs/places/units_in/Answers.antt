use Rattle.std.proofs.Common.{◌+◌, take, ap, sym, ◌∙◌}
use Rattle.std.proofs.lemmas.List.{take_all}
use Rattle.language_server.specs.Positions.{units}
use Rattle.language_server.specs.declared.places.Encoding.TheVariants.{Utf16}
use Rattle.language_server.proofs.Positions.{units_ascii, units_next, units_add}
use Rattle.language_server.proofs.places.units_in.Goals as goal

pub returns-then-is_ascii : goal.returns-then-is_ascii
returns-then-is_ascii c = λ short. sym (units_ascii c.args.bytes.now c.if-is_ascii.ensures.cases)

pub bytes-preserved : goal.bytes-preserved
bytes-preserved c = λ short.
    let i = c.bytes.byte-index in
    let e = units_next Utf16 c.args.bytes.now i c.bytes-test.true in
    let h = c.bytes.invariant short in
    let u = c.units_of.ensures in
    units_add c.args.bytes.now (i + 1) c.bytes.units c.units_of.result c.saturating_add-units.result short (ap (λ n. n + c.units_of.result) h ∙ (ap (λ n. units Utf16 (take i c.args.bytes.now) + n) u ∙ sym e)) c.saturating_add-units.ensures

pub returns : goal.returns
returns c = λ short. c.bytes.invariant short ∙ ap (units Utf16) (take_all c.bytes.byte-index c.args.bytes.now c.bytes-test.false)
