use Rattle.std.proofs.Common.{◌+◌, take, ap, ◌∙◌, arith}
use Rattle.language_server.specs.Positions.{units}
use Rattle.language_server.specs.declared.places.Encoding.TheVariants.{Utf16}
use Rattle.language_server.proofs.Positions.{part_short, units_split}
use Rattle.language_server.proofs.places.units_between.Goals as goal

pub returns-then-is_empty : goal.returns-then-is_empty
returns-then-is_empty c = λ short are.
    let bytes = c.args.bytes.now in
    let s = part_short bytes c.args.start c.args.end in
    ap (λ k. units Utf16 (take c.args.start bytes) + k) (c.units_in.ensures (omega (arith, s, short))) ∙ units_split Utf16 bytes c.args.start c.args.end c.requires.order

pub returns : goal.returns
returns c = λ short are.
    let bytes = c.args.bytes.now in
    let e = units_split Utf16 bytes c.args.start c.args.end c.requires.order in
    let a = c.units_before.ensures short are in
    let b = c.units_before-2.ensures short are in
    let d = c.saturating_sub.ensures in
    omega (arith, e, a, b, d)
