use Rattle.std.proofs.Common.{true, List, Bool, [], length, get_or, set, sym, ap, ◌∙◌, subst}
use Rattle.std.proofs.lemmas.List.{length-set}
use Rattle.cfg_theory.specs.Grammar.{Grammar}
use Rattle.cfg_sentences.specs.Greatest.{TakesOut}
use Rattle.cfg_sets.specs.WorkLists.{ListsNaming}
use Rattle.cfg_sentences.proofs.OnceSteps.{AreTaken, taken_none, taken_some, taken_width}
use Rattle.cfg_sentences.proofs.sentences.dirty_productions.OnceProdTable.take_prod.Goals as goal

pub returns-in_default-clause-sound : goal.returns-in_default-clause-sound
returns-in_default-clause-sound g c =
    let s = c.args.self.now in
    let G = g.T.ProdTable.grammar s.table in
    let C = g.T.ProdTable.is_closed_by in
    let h = c.requires.sound in
    let told = c.in_ok-told.ensures in
    let bits = c.set.ensures.bits in
    let new = c.take_prod.new.self in (
      told.sound,
      subst (λ (H : Grammar). ListsNaming H (length H.productions) s.naming.now) (sym told.grammar) h.1,
      ap length bits ∙ length-set s.taken.bits c.args.number true ∙ h.2 ∙ ap (λ (H : Grammar). length H.productions) (sym told.grammar),
      subst (AreTaken C new) (sym bits) (taken_none G g.T.ProdTable.room C c.args.number s.table new c.in_ok-told.told s.naming.now s.taken.bits told.takes h.1 h.2 c.requires.production h.3 c.in_default.is),
    )

pub returns-clause-sound : goal.returns-clause-sound
returns-clause-sound g c =
    let s = c.args.self.now in
    let G = g.T.ProdTable.grammar s.table in
    let C = g.T.ProdTable.is_closed_by in
    let room = g.T.ProdTable.room in
    let h = c.requires.sound in
    let told = c.in_ok-told.ensures in
    let new = c.take_prod.new.self in
    let lists = s.naming.now in
    let A = c.in-Some.rule in
    let after = c.take_out.new.set.bits in
    let named = get_or lists A [] in
    let out : TakesOut named (length named) (set s.taken.bits c.args.number true) after =
    subst (λ (bits : List Bool). TakesOut named (length named) bits after) c.set.ensures.bits
    (subst (λ l. TakesOut l (length l) c.set.new.self.bits after) c.of.ensures c.take_out.ensures) in
    let width = taken_width G room C c.args.number s.table new c.in_ok-told.told lists s.taken.bits told.takes h.1 h.2 c.requires.production h.3 A c.in-Some.is after out in (
      told.sound,
      subst (λ (H : Grammar). ListsNaming H (length H.productions) lists) (sym told.grammar) h.1,
      width ∙ ap (λ (H : Grammar). length H.productions) (sym told.grammar),
      taken_some G room C c.args.number s.table new c.in_ok-told.told lists s.taken.bits told.takes h.1 h.2 c.requires.production h.3 A c.in-Some.is after out,
    )
