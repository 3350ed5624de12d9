use Rattle.std.proofs.Common.{◌≡◌, ◌+◌, ◌*◌, ◌≤◌, length, min, take, ap, ◌∙◌, arith}
use Rattle.language_server.specs.Positions.{units}
use Rattle.language_server.specs.declared.places.Encoding.TheVariants.{Utf16}
use Rattle.language_server.proofs.Positions.{marks_more, part_short, take_some, units_add, units_split}
use Rattle.language_server.proofs.places.marks_of.Goals as goal

pub marks-preserved : goal.marks-preserved
marks-preserved c =
    let bytes = c.args.bytes.now in
    let n = c.marks.number in
    let from = n * 1024 in
    let past = c.min-past.result in
    let count = c.marks.invariant.0 in
    let long = c.in_ok-push.ensures.len in
    let room = c.marks-test.true in
    let sat = c.saturating_add.ensures in
    let cut = c.min-past.ensures in (
      omega (arith, count, long),
      λ short.
          let h = c.marks.invariant.1 short in
          let le : from ≤ past = omega (arith, room, sat, cut, short) in
          let s = part_short bytes from past in
          let here = units_split Utf16 bytes from past le in
          let sum = ap (λ k. k + c.units_in.result) h.1 ∙ (ap (λ k. units Utf16 (take from bytes) + k) (c.units_in.ensures (omega (arith, s, short))) ∙ here) in
          let whole : past ≡ min ((n + 1) * 1024) (length bytes) = omega (arith, room, sat, cut, short) in (
            marks_more bytes c.marks.marks.items c.push.new.self.items n c.marks.units h.0 count c.in_ok-push.ensures.items h.1,
            units_add bytes past c.marks.units c.units_in.result c.saturating_add-units.result short sum c.saturating_add-units.ensures ∙ ap (units Utf16) (take_some bytes ((n + 1) * 1024) past whole),
          ),
    )
