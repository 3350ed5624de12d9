use Rattle.std.proofs.Common.{◌≡◌, ◌+◌, ◌*◌, ◌/◌, ◌≤◌, get_or, min, take, ap, ◌∙◌, arith, rules}
use Rattle.language_server.specs.Positions.{units}
use Rattle.language_server.specs.declared.places.Encoding.TheVariants.{Utf16}
use Rattle.language_server.proofs.Positions.{marks_at, part_short, units_add, units_split}
use Rattle.language_server.proofs.places.units_before.Goals as goal

pub returns : goal.returns
returns c = λ short are.
    let bytes = c.args.bytes.now in
    let marks = c.args.marks.now in
    let n = c.min-number.result in
    let less = c.min-number.ensures in
    let sub = c.saturating_sub.ensures in
    let le : n * 1024 ≤ c.args.at = omega (arith, less) in
    let s = part_short bytes (n * 1024) c.args.at in
    let mark : c.unwrap_or-mark.result ≡ get_or marks n 0 = search rules in
    let is = marks_at bytes marks (c.args.at / 1024) n are (less ∙ ap (λ k. min (c.args.at / 1024) k) sub) in
    let sum = ap (λ k. k + c.units_in.result) (mark ∙ is) ∙ (ap (λ k. units Utf16 (take (n * 1024) bytes) + k) (c.units_in.ensures (omega (arith, s, short))) ∙ units_split Utf16 bytes (n * 1024) c.args.at le) in
    units_add bytes c.args.at c.unwrap_or-mark.result c.units_in.result c.saturating_add.result short sum c.saturating_add.ensures
