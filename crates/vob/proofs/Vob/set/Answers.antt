use Rattle.std.proofs.Common.{◌≡◌, false, not, length, get_or, set, refl, sym, ap, ◌∙◌, arith, take}
use Rattle.std.specs.List.{flat_map}
use Rattle.std.proofs.lemmas.List.{get_or-take, set-get_or}
use Rattle.vob.proofs.Pack as pack
use Rattle.vob.proofs.Vob.set.Goals as goal

pub returns-then-before-value-clause-bits : goal.returns-then-before-value-clause-bits
returns-then-before-value-clause-bits g c =
    let all = flat_map g.T.Word.bits c.self.inside.blocks.items in
    let len : length c.args.self.now.bits ≡ c.self.inside.len = ap (λ b. length b.bits) (sym c.self.view_is) ∙ pack.length_kept g.T.Word.BITS c.self.inside.len all g.met.T.Word.some_law c.self.invariant in
    let i = c.args.index in
    let bits = c.args.self.now.bits in
    let n = c.self.inside.len in
    let there : get_or bits i false ≡ c.args.value =
    ap (λ b. get_or b.bits i false) (sym c.self.view_is)
    ∙ get_or-take n all i false (omega arith)
    ∙ ap (λ xs. get_or (flat_map g.T.Word.bits xs) i false) (sym c.as_slice.ensures.value)
    ∙ sym c.bit_at-before.ensures
    ∙ pack.beq-true c.bit_at-before.result c.args.value c.if-before-value.true in
    sym (set-get_or bits i false) ∙ ap (set bits i) there

pub returns-clause-bits : goal.returns-clause-bits
returns-clause-bits g c =
    let all = flat_map g.T.Word.bits c.self.inside.blocks.items in
    let len : length c.args.self.now.bits ≡ c.self.inside.len = ap (λ b. length b.bits) (sym c.self.view_is) ∙ pack.length_kept g.T.Word.BITS c.self.inside.len all g.met.T.Word.some_law c.self.invariant in
    ap (take c.self.inside.len) c.put_bit.ensures.bits ∙ pack.take-set_in c.self.inside.len all c.args.index c.args.value (omega arith) ∙ ap (λ b. set b.bits c.args.index c.args.value) c.self.view_is

pub returns-then-before-value-clause-changed : goal.returns-then-before-value-clause-changed
returns-then-before-value-clause-changed g c =
    let all = flat_map g.T.Word.bits c.self.inside.blocks.items in
    let len : length c.args.self.now.bits ≡ c.self.inside.len = ap (λ b. length b.bits) (sym c.self.view_is) ∙ pack.length_kept g.T.Word.BITS c.self.inside.len all g.met.T.Word.some_law c.self.invariant in
    let i = c.args.index in
    let there : get_or c.args.self.now.bits i false ≡ c.args.value =
    ap (λ b. get_or b.bits i false) (sym c.self.view_is)
    ∙ get_or-take c.self.inside.len all i false (omega arith)
    ∙ ap (λ xs. get_or (flat_map g.T.Word.bits xs) i false) (sym c.as_slice.ensures.value)
    ∙ sym c.bit_at-before.ensures
    ∙ pack.beq-true c.bit_at-before.result c.args.value c.if-before-value.true in
    (λ h. absurd (pack.false_is_true h), λ h. absurd (pack.not_itself c.args.value (sym there ∙ h)))

pub returns-clause-changed : goal.returns-clause-changed
returns-clause-changed g c =
    let all = flat_map g.T.Word.bits c.self.inside.blocks.items in
    let len : length c.args.self.now.bits ≡ c.self.inside.len = ap (λ b. length b.bits) (sym c.self.view_is) ∙ pack.length_kept g.T.Word.BITS c.self.inside.len all g.met.T.Word.some_law c.self.invariant in
    let i = c.args.index in
    let there : get_or c.args.self.now.bits i false ≡ not c.args.value =
    ap (λ b. get_or b.bits i false) (sym c.self.view_is)
    ∙ get_or-take c.self.inside.len all i false (omega arith)
    ∙ ap (λ xs. get_or (flat_map g.T.Word.bits xs) i false) (sym c.as_slice.ensures.value)
    ∙ sym c.bit_at-before.ensures
    ∙ pack.beq_not c.bit_at-before.result c.args.value c.if-before-value.false in
    (λ h. there, λ h. refl)
