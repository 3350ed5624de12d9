use Rattle.std.proofs.Common.{◌∙◌, refl}
use Rattle.cfg_base.proofs.Lines.{answers, held_in_order}
use Rattle.cfg_base.proofs.newlinecache.NewlineCache.byte_to_line_num.Goals as goal

pub count_before-requires : goal.count_before-requires
count_before-requires c = rw c.deref.ensures.value (held_in_order _ _ c.self.invariant)

pub returns : goal.returns
returns c text held =
    let point = rw c.deref.ensures.value at c.count_before.ensures.point in
    let bound = rw c.deref.ensures.value at c.count_before.ensures.bound in
    let a = answers c.self.inside.newlines.items c.self.inside.bytes c.args.byte c.count_before.result text (c.self.view_is ∙ held) c.if-byte-self.false bound point in
    rw (a.inside, a.line) refl
