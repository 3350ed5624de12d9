use Rattle.std.proofs.Common.{refl, sym, ◌∙◌}
use Rattle.cfg_sets.proofs.Searches.{found_new, found_again, set_to}
use Rattle.cfg_sets.proofs.productive.Search.find.Goals as goal

pub returns-in_ok-push : goal.returns-in_ok-push
returns-in_ok-push g c =
    let number = g.S.IndexStorage.number in
    let G = c.args.grm.now.grammar in
    let head = sym c.prod_to_rule.ensures ∙ sym c.to_usize-rule.ensures.value in
    found_new G (number c.args.pidx.0) c.to_usize-rule.result c.args.self.now (record { found = c.set.new.self; hints = c.args.self.now.hints; work = c.push.new.self })
    c.start_prod.ensures.well_formed c.requires.production head c.requires.search c.requires.all c.set.ensures.bits refl (c.set.ensures.changed.0 c.if-set.true) c.in_ok-push.ensures.items

pub returns-else-set : goal.returns-else-set
returns-else-set g c =
    let number = g.S.IndexStorage.number in
    let G = c.args.grm.now.grammar in
    let head = sym c.prod_to_rule.ensures ∙ sym c.to_usize-rule.ensures.value in
    found_again G (number c.args.pidx.0) c.to_usize-rule.result c.args.self.now (record { found = c.set.new.self; hints = c.args.self.now.hints; work = c.args.self.now.work })
    c.start_prod.ensures.well_formed c.requires.production head c.requires.search c.requires.all c.set.ensures.bits refl (set_to _ c.set.result c.set.ensures.changed c.if-set.false) refl
