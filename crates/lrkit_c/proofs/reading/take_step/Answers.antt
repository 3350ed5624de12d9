use Rattle.std.proofs.Common.{refl}
use Rattle.lrkit_c.proofs.Readings.{reads_token, takes_insert, takes_shift}
use Rattle.lrkit_c.proofs.reading.take_step.Goals as goal

pub returns-in_ok-_taken-in-Insert-clause-takes : goal.returns-in_ok-_taken-in-Insert-clause-takes
returns-in_ok-_taken-in-Insert-clause-takes c =
    let pushed = c.in_ok-_taken-in-Insert.ensures in
    let reads = reads_token c.args.prefix.now c.push.new.self c.in-Insert.token.0 c.in_ok-_taken-in-Insert._taken pushed.pushed pushed.stays pushed.error in
    takes_insert c.args.prefix.now.parser c.args.step c.in-Insert.token (record { front = c.args.prefix.now.tokens; left = c.args.left.now }) (record { front = c.push.new.self.tokens; left = c.args.left.now }) c.in-Insert.is reads refl

pub returns-in_ok-_taken-in-Shift-clause-takes : goal.returns-in_ok-_taken-in-Shift-clause-takes
returns-in_ok-_taken-in-Shift-clause-takes c =
    let pushed = c.in_ok-_taken-in-Shift.ensures in
    let reads = reads_token c.args.prefix.now c.push-in-Shift.new.self c.in-Shift.lexeme.tok_id c.in_ok-_taken-in-Shift._taken pushed.pushed pushed.stays pushed.error in
    takes_shift c.args.prefix.now.parser c.args.step c.in-Shift.lexeme (record { front = c.args.prefix.now.tokens; left = c.args.left.now }) (record { front = c.push-in-Shift.new.self.tokens; left = c.behind_first-in-Shift.result.now }) c.in-Shift.is reads
    c.behind_first-in-Shift.ensures
