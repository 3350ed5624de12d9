use Rattle.std.proofs.Common.{◌≡◌, ◌<◌, List, Bool, not, length, [], get_or, sym, ap, ◌∙◌, subst}
use Rattle.vob.specs.Passes.{PassStep, Anything}
use Rattle.vob.specs.Sets.{missing_in}
use Rattle.cfg_sets.proofs.FirstSteps.{rows_lifted}
use Rattle.cfg_sets.proofs.FirstFills.{adds_token, token_step}
use Rattle.cfg_sets.proofs.firsts.YaccFirsts.add_token.Goals as goal

pub returns-clause-added : goal.returns-clause-added
returns-clause-added g c =
    let number = g.S.IndexStorage.number in
    let width : length (get_or c.args.self.now.rows (number c.args.head.0) []) ≡ c.args.self.now.tokens = ap length (sym c.firsts-set.ensures.bits) ∙ c.firsts-set.ensures.width in
    adds_token (number c.args.head.0) (number c.args.token.0) c.args.self.now c.set.new.self c.requires.head (subst (λ n. number c.args.token.0 < n) (sym width) c.requires.token) c.set.ensures.tokens c.set.ensures.rows c.set.ensures.epsilons

pub returns-clause-steps : goal.returns-clause-steps
returns-clause-steps g c =
    let number = g.S.IndexStorage.number in
    let old = c.args.self.now in
    let width : length (get_or old.rows (number c.args.head.0) []) ≡ old.tokens = ap length (sym c.firsts-set.ensures.bits) ∙ c.firsts-set.ensures.width in
    let step = token_step old.rows (number c.args.head.0) (number c.args.token.0) c.set.result c.requires.head (subst (λ n. number c.args.token.0 < n) (sym width) c.requires.token) c.set.ensures.was in
    rows_lifted (λ (rows : List (List Bool)). Unit {0}) old c.set.new.self (not c.set.result) c.set.ensures.tokens c.set.ensures.epsilons
    (subst (λ (rows : List (List Bool)). PassStep missing_in Anything old.rows rows (not c.set.result)) (sym c.set.ensures.rows) step)
