use Rattle.std.proofs.Common.{◌≡◌, length, sym, ap, ◌∙◌}
use Rattle.std.specs.List.{flat_map}
use Rattle.vob.proofs.Pack as pack
use Rattle.vob.proofs.Vob.is_empty.Goals as goal

pub returns : goal.returns
returns g c =
    let all = flat_map g.T.Word.bits c.self.inside.blocks.items in
    let n = c.self.inside.len in
    let len : length c.args.self.now.bits ≡ n = ap (λ b. length b.bits) (sym c.self.view_is) ∙ pack.length_kept g.T.Word.BITS n all g.met.T.Word.some_law c.self.invariant in
    (pack.nil_is n c.args.self.now.bits len, pack.is_nil n c.args.self.now.bits len)
