use Rattle.std.proofs.Common.{◌≡◌, ◌==◌, true, length, sym, ◌∙◌, refl}
use Rattle.std.proofs.lemmas.Bool.{eq-eqb}
use Rattle.cfg_base.specs.Newlines.{line_start}
use Rattle.cfg_base.proofs.Lines.{answers, held_in_order}
use Rattle.cfg_base.proofs.newlinecache.NewlineCache.byte_to_line_num_and_col_num.Goals as goal

pub count_before-count-requires : goal.count_before-count-requires
count_before-count-requires c = rw c.deref.ensures.value (held_in_order _ _ c.self.invariant)

pub returns : goal.returns
returns c text held =
    let point = rw c.deref.ensures.value at c.count_before-count.ensures.point in
    let bound = rw c.deref.ensures.value at c.count_before-count.ensures.bound in
    let start = rw c.deref-2.ensures.value at c.start_after-start.ensures in
    let a = answers c.self.inside.newlines.items c.self.inside.bytes c.args.byte c.count_before-count.result text (c.self.view_is ∙ held) c.if-byte-self.false bound point in
    let same : length c.args.src.now == length text ≡ true = eq-eqb _ _ (c.if-src-self.false ∙ a.bytes) in
    let began : c.start_after-start.result ≡ line_start text c.args.byte = start ∙ sym a.start in
    rw (a.inside, same, a.line, c.chars_between.ensures.value, began) refl
