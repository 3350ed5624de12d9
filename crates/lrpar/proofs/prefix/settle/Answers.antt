use Rattle.std.proofs.Common.{◌≡◌, ◌++◌, take, ap, ◌∙◌}
use Rattle.lrpar.proofs.Prefixes.{settled, taken}
use Rattle.lrpar.proofs.prefix.settle.Goals as goal

pub returns-clause-stack : goal.returns-clause-stack
returns-clause-stack g c =
    let old = c.args.states.now.items in
    let o = c.args.overlay.now in
    let cut : c.truncate.new.self.items ≡ take o.kept old = c.truncate.ensures.items ∙ ap (take o.kept) c.reserve.ensures.items in
    let items : c.extend_from_slice.new.self.items ≡ c.truncate.new.self.items ++ c.as_slice.result.now = taken c.extend_from_slice.result c.unwrap.result _ _ _ c.unwrap.ensures c.extend_from_slice.ensures.items in
    settled g.S.IndexStorage.number old c.extend_from_slice.new.self.items o (items ∙ ap (λ l. l ++ c.as_slice.result.now) cut ∙ ap (λ l. take o.kept old ++ l) c.as_slice.ensures.value)
