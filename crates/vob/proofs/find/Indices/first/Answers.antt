use Rattle.std.proofs.Common.{◌≡◌, sym, ◌∙◌, arith}
use Rattle.std.specs.List.{flat_map}
use Rattle.vob.proofs.Pack as pack
use Rattle.vob.proofs.Walks as walks
use Rattle.vob.specs.Walk.{indices_of}
use Rattle.vob.proofs.find.Indices.first.Goals as goal

pub returns-in-Some : goal.returns-in-Some
returns-in-Some g c =
    let bits = g.T.Word.bits in
    let w = g.T.Word.BITS in
    let some = g.met.T.Word.some_law in
    let each = pack.width_of bits w g.T.Word.number g.met.T.Word.number_law in
    let it = c.self.inside in
    let all = flat_map bits it.blocks.now in
    let view : indices_of it.value all it.from it.to ≡ c.args.self.now = c.self.view_is in
    let e = c.in-Some.ensures.cases in
    sym view ∙ walks.first_is it.value all it.from it.to c.in-Some.index c.self.invariant e.0 e.1 e.2 e.3

pub returns-in-None : goal.returns-in-None
returns-in-None g c =
    let bits = g.T.Word.bits in
    let w = g.T.Word.BITS in
    let some = g.met.T.Word.some_law in
    let each = pack.width_of bits w g.T.Word.number g.met.T.Word.number_law in
    let it = c.self.inside in
    let all = flat_map bits it.blocks.now in
    let view : indices_of it.value all it.from it.to ≡ c.args.self.now = c.self.view_is in
    let e = c.in-None.ensures.cases in
    (sym view ∙ walks.no_index it.value all it.from it.to c.self.invariant e, walks.empty_run it.value all it.to it.to (omega arith))
