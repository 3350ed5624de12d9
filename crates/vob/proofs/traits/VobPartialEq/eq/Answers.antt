use Rattle.std.proofs.lemmas.Grind.{common_steps}
use Rattle.std.proofs.Common.{◌≡◌, true, false, length, sym, ap, ap₂, ◌∙◌, subst, arith}
use Rattle.std.specs.List.{flat_map}
use Rattle.vob.specs.Packed.{blocks_for}
use Rattle.vob.proofs.Pack as pack
use Rattle.vob.proofs.Setwise as setwise
use Rattle.std.proofs.Common.{◌↔◌}
use Rattle.std.specs.Cmp.Lexicographic.{pointwise}
use Rattle.vob.proofs.Alike.{told}
use mathlib.Core.Bool.{beq}
use Rattle.vob.proofs.traits.VobPartialEq.eq.Goals as goal

pub same_blocks-requires : goal.same_blocks-requires
same_blocks-requires g c =
    let bits = g.T.Word.bits in
    let w = g.T.Word.BITS in
    let some = g.met.T.Word.some_law in
    let each = pack.width_of bits w g.T.Word.number g.met.T.Word.number_law in
    let m = c.self.inside.len in
    let n = c.other.inside.len in
    let xs = c.self.inside.blocks.items in
    let ys = c.other.inside.blocks.items in
    let e : m ≡ n = omega arith in
    ap length c.as_slice.ensures.value ∙ pack.blocks_are bits w each xs m some c.self.invariant ∙ ap (blocks_for w) e ∙ sym (ap length c.as_slice-2.ensures.value ∙ pack.blocks_are bits w each ys n some c.other.invariant)

pub returns : goal.returns
returns g c =
    let bits = g.T.Word.bits in
    let w = g.T.Word.BITS in
    let some = g.met.T.Word.some_law in
    let each = pack.width_of bits w g.T.Word.number g.met.T.Word.number_law in
    let m = c.self.inside.len in
    let n = c.other.inside.len in
    let xs = c.self.inside.blocks.items in
    let ys = c.other.inside.blocks.items in
    let e : m ≡ n = omega arith in
    let test : (c.same_blocks.result ≡ true) ↔ (flat_map bits xs ≡ flat_map bits ys) =
    subst (λ zs. (c.same_blocks.result ≡ true) ↔ (flat_map bits zs ≡ flat_map bits ys)) c.as_slice.ensures.value
    (subst (λ zs. (c.same_blocks.result ≡ true) ↔ (flat_map bits c.as_slice.result.now ≡ flat_map bits zs)) c.as_slice-2.ensures.value c.same_blocks.ensures) in
    let gives =
    setwise.same_flat w m n (flat_map bits xs) (flat_map bits ys) c.same_blocks.result e c.self.invariant c.other.invariant test
    ∙ ap₂ (λ a b. pointwise beq a.bits b.bits) c.self.view_is c.other.view_is in
    record { gives = gives; exactly = told gives }

pub returns-then-self-other-clause-exactly : goal.returns-then-self-other-clause-exactly
returns-then-self-other-clause-exactly g c =
    let gives : false ≡ pointwise beq c.args.self.now.bits c.args.other.now.bits = grind (arith, common_steps) in
    told gives
