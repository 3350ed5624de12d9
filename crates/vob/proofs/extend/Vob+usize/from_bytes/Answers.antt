use Rattle.std.proofs.Common.{ℕ, length, ap, ◌∙◌, arith, take}
use Rattle.vob.proofs.Spell as spell
use Rattle.std.proofs.Common.{reverse}
use Rattle.std.proofs.lemmas.List.{length-reverse, length-take}
use Rattle.vob.proofs.Digit as digit
use Rattle.vob.specs.Digits.{digits}
use Rattle.vob.proofs.extend.Vob+usize.from_bytes.Goals as goal

pub push_byte-requires : goal.push_byte-requires
push_byte-requires c =
    let i = c.each.byte-index in
    let xs = c.args.slice.now in
    let eight = λ (x : ℕ). length-reverse (digits 8 x) ∙ digit.length-digits 8 x in
    let size = ap length c.each.invariant.done ∙ spell.length-spelled (λ byte. reverse (digits 8 byte)) 8 eight (take i xs) in
    omega (arith, size, length-take i xs, c.each.invariant.room)
