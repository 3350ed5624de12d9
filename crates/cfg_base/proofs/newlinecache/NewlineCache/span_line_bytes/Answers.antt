use Rattle.std.proofs.Common.{◌≡◌, ◌≤◌, sym, ap, ◌∙◌, arith}
use Rattle.cfg_base.specs.Newlines.{Newlines}
use Rattle.cfg_base.proofs.Lines.{answers, held_in_order}
use Rattle.cfg_base.proofs.newlinecache.NewlineCache.span_line_bytes.Goals as goal

pub count_before-before_start-requires : goal.count_before-before_start-requires
count_before-before_start-requires c = rw c.deref.ensures.value (held_in_order _ _ c.self.invariant)

pub count_before-before_end-requires : goal.count_before-before_end-requires
count_before-before_end-requires c = rw c.deref-2.ensures.value (held_in_order _ _ c.self.invariant)

pub returns-clause-start : goal.returns-clause-start
returns-clause-start c text held =
    let point = rw (c.deref.ensures.value, c.start.ensures.value) at c.count_before-before_start.ensures.point in
    let bound = rw c.deref.ensures.value at c.count_before-before_start.ensures.bound in
    let start = rw c.deref-4.ensures.value at c.start_after.ensures in
    let total : c.self.inside.bytes ≡ c.args.self.now.bytes = ap (λ (v : Newlines). v.bytes) c.self.view_is in
    let inside : c.args.span.start ≤ c.self.inside.bytes = let o = c.start.ensures in omega (arith, total, o.value, o.ordered, c.requires) in
    let a = answers c.self.inside.newlines.items c.self.inside.bytes c.args.span.start c.count_before-before_start.result text (c.self.view_is ∙ held) inside bound point in
    start ∙ sym a.start

pub returns-clause-end : goal.returns-clause-end
returns-clause-end c text held =
    let point = rw (c.deref-2.ensures.value, c.end.ensures.value) at c.count_before-before_end.ensures.point in
    let bound = rw c.deref-2.ensures.value at c.count_before-before_end.ensures.bound in
    let end = rw c.deref-3.ensures.value at c.end_after-end.ensures in
    let total : c.self.inside.bytes ≡ c.args.self.now.bytes = ap (λ (v : Newlines). v.bytes) c.self.view_is in
    let inside : c.args.span.end ≤ c.self.inside.bytes = omega (arith, total, c.requires) in
    let a = answers c.self.inside.newlines.items c.self.inside.bytes c.args.span.end c.count_before-before_end.result text (c.self.view_is ∙ held) inside bound point in
    end ∙ sym a.end
