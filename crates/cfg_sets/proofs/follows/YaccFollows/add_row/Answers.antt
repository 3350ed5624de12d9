use Rattle.std.proofs.Common.{sym, ◌∙◌}
use Rattle.cfg_sets.proofs.FollowFills.{adds_row}
use Rattle.cfg_sets.proofs.follows.YaccFollows.add_row.Goals as goal

pub returns-clause-added : goal.returns-clause-added
returns-clause-added g c =
    let number = g.S.IndexStorage.number in
    adds_row (number c.args.from.0) (number c.args.to.0) c.copy_set.new.to.bits c.args.self.now c.add_tokens.new.self c.requires.to (c.add_tokens.ensures.width_was ∙ sym c.copy_set.ensures.width) c.copy_set.ensures.bits c.add_tokens.ensures.tokens c.add_tokens.ensures.rows
