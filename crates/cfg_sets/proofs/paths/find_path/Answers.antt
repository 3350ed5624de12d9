use Rattle.std.proofs.Common.{◌≡◌, ◌↔◌, false, length, ap, ◌∙◌, subst}
use Rattle.std.specs.Prelude.{IsTrue}
use Rattle.std.specs.List.{Contains}
use Rattle.std.proofs.lemmas.List.{length-replicate}
use Rattle.cfg_theory.specs.Derivation.{HasPath}
use Rattle.vob.specs.Sets.{is_set}
use Rattle.cfg_sets.specs.WorkLists.{Work}
use Rattle.cfg_sets.proofs.PathSteps.{none_reached, exact_path}
use Rattle.cfg_sets.proofs.PathFills.{first_waits, reached_all, one_waits}
use Rattle.cfg_sets.proofs.paths.find_path.Goals as goal

pub fill-requires-clause-sound : goal.fill-requires-clause-sound
fill-requires-clause-sound g c =
    let G = c.args.grm.now.grammar in
    let n = c.to_usize-rules.result in
    let rules : n ≡ G.rules = c.to_usize-rules.ensures.value ∙ c.rules_len.ensures in
    (ap length c.in_ok-reached.ensures.bits ∙ length-replicate n false ∙ rules, none_reached G (g.S.IndexStorage.number c.args.from.0) n c.in_ok-reached.reached.bits c.in_ok-reached.ensures.bits)

pub fill-requires-clause-closed : goal.fill-requires-clause-closed
fill-requires-clause-closed g c =
    let A = g.S.IndexStorage.number c.args.from.0 in
    let value = c.to_usize.ensures.value in
    let list = c.put.new.self.list in
    first_waits c.args.grm.now.grammar A c.to_usize-rules.result c.in_ok-reached.reached.bits list c.in_ok-reached.ensures.bits (subst (Contains list) value c.in_ok-put.ensures.waits)
    (one_waits A c.to_usize.result c.in_ok-work.work.list list (ap (λ (w : Work). w.list) c.in_ok-work.ensures) value c.in_ok-put.ensures.only)

pub returns : goal.returns
returns g c =
    let number = g.S.IndexStorage.number in
    let B = number c.args.to.0 in
    let t = c.fill.new.table in
    let G = t.grm.now.grammar in
    let A = number t.from.0 in
    let answer = c.get_unchecked.result in
    let filled = c.in_ok-fill.ensures in
    let e : answer ≡ is_set t.reached.bits B = c.get_unchecked.ensures ∙ ap (is_set t.reached.bits) c.to_usize-2.ensures.value in
    let h = exact_path G A B t.reached.bits answer c.path_tables_are_exact.ensures filled.sound.1 (reached_all G A t.reached.bits filled.closed) e in
    subst (λ k. IsTrue answer ↔ HasPath c.args.grm.now.grammar k B) filled.same.1 (subst (λ v. IsTrue answer ↔ HasPath v.grammar A B) filled.same.0 h)
