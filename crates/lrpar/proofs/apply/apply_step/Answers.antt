use Rattle.std.proofs.Common.{◌+◌, ◌<◌, length, drop, Some, sym}
use Rattle.lrpar.specs.Made.{made_by, end_of}
use Rattle.lrpar.proofs.NextLexeme.{drop_from, starts_behind, starts_here}
use Rattle.lrpar.proofs.Applying.{keeps_one, deletes_one, lexeme_in, ahead_made, ahead_kept, way_deleted, next_is_it, past_it, way_put, it_is_inside}
use Rattle.lrpar.proofs.apply.apply_step.Goals as goal
use Rattle.lrpar.proofs.apply.apply_step.Goals.{In-Delete}

pub put_on-requires-clause-inside : goal.put_on-requires-clause-inside
put_on-requires-clause-inside g c =
    let h = c.requires.on in
    let w = rw c.in-Insert.is at h.4 in
    let y = c.made_before-made.result in
    let a = ahead_made g.S.IndexStorage.number g.L.Lexeme.lex c.args.machine.now.grm.now.grammar c.args.machine.now.sgraph.now c.args.machine.now.stable.now (g.V.ValueStack.stands c.args.machine.now.grm.now.grammar) (made_by g.L.Lexeme.faulty_of g.L.Lexeme.lex (end_of g.L.Lexeme.lex c.args.lexemes.now)) h.0 h.1 c.args.stacks.now (drop c.args.index c.args.lexemes.now) h.3 (g.S.IndexStorage.number c.in-Insert.tidx.0) y h.2 c.made_before-made.ensures.made w in
    it_is_inside g.S.IndexStorage.number g.L.Lexeme.lex c.args.machine.now.grm.now.grammar c.args.machine.now.sgraph.now c.args.machine.now.stable.now (g.V.ValueStack.stands c.args.machine.now.grm.now.grammar) (made_by g.L.Lexeme.faulty_of g.L.Lexeme.lex (end_of g.L.Lexeme.lex c.args.lexemes.now)) h.0 h.1 y (drop c.args.index c.args.lexemes.now) h.2 h.3 a c.args.machine.now.table c.args.stacks.now w.stand (past_it g.S.IndexStorage.number g.L.Lexeme.lex c.args.machine.now.grm.now.grammar c.args.machine.now.sgraph.now c.args.machine.now.stable.now (g.V.ValueStack.stands c.args.machine.now.grm.now.grammar) (made_by g.L.Lexeme.faulty_of g.L.Lexeme.lex (end_of g.L.Lexeme.lex c.args.lexemes.now)) h.0 h.1 y (drop c.args.index c.args.lexemes.now) h.2 h.3 a w.past)

pub put_on-requires-clause-stand : goal.put_on-requires-clause-stand
put_on-requires-clause-stand g c =
    let h = c.requires.on in
    let w = rw c.in-Insert.is at h.4 in
    let y = c.made_before-made.result in
    let a = ahead_made g.S.IndexStorage.number g.L.Lexeme.lex c.args.machine.now.grm.now.grammar c.args.machine.now.sgraph.now c.args.machine.now.stable.now (g.V.ValueStack.stands c.args.machine.now.grm.now.grammar) (made_by g.L.Lexeme.faulty_of g.L.Lexeme.lex (end_of g.L.Lexeme.lex c.args.lexemes.now)) h.0 h.1 c.args.stacks.now (drop c.args.index c.args.lexemes.now) h.3 (g.S.IndexStorage.number c.in-Insert.tidx.0) y h.2 c.made_before-made.ensures.made w in
    (h.0, h.1, w.stand, next_is_it g.S.IndexStorage.number g.L.Lexeme.lex c.args.machine.now.grm.now.grammar c.args.machine.now.sgraph.now c.args.machine.now.stable.now (g.V.ValueStack.stands c.args.machine.now.grm.now.grammar) (made_by g.L.Lexeme.faulty_of g.L.Lexeme.lex (end_of g.L.Lexeme.lex c.args.lexemes.now)) h.0 h.1 y (drop c.args.index c.args.lexemes.now) h.2 h.3 a, past_it g.S.IndexStorage.number g.L.Lexeme.lex c.args.machine.now.grm.now.grammar c.args.machine.now.sgraph.now c.args.machine.now.stable.now (g.V.ValueStack.stands c.args.machine.now.grm.now.grammar) (made_by g.L.Lexeme.faulty_of g.L.Lexeme.lex (end_of g.L.Lexeme.lex c.args.lexemes.now)) h.0 h.1 y (drop c.args.index c.args.lexemes.now) h.2 h.3 a w.past)

pub returns-in_ok-put_on-in-Insert-clause-on : goal.returns-in_ok-put_on-in-Insert-clause-on
returns-in_ok-put_on-in-Insert-clause-on g c =
    let x = c.args.machine.now.sgraph.now in
    λ input d es left way.
    let w = rw c.in-Insert.is at way in
    let y = c.made_before-made.result in
    let a = ahead_made g.S.IndexStorage.number g.L.Lexeme.lex c.args.machine.now.grm.now.grammar x c.args.machine.now.stable.now (g.V.ValueStack.stands c.args.machine.now.grm.now.grammar) (made_by g.L.Lexeme.faulty_of g.L.Lexeme.lex (end_of g.L.Lexeme.lex c.args.lexemes.now)) input d c.args.stacks.now (drop c.args.index c.args.lexemes.now) left (g.S.IndexStorage.number c.in-Insert.tidx.0) y es c.made_before-made.ensures.made w in
    way_put g.S.IndexStorage.number g.L.Lexeme.lex c.args.machine.now.grm.now.grammar x c.args.machine.now.stable.now (g.V.ValueStack.stands c.args.machine.now.grm.now.grammar) (made_by g.L.Lexeme.faulty_of g.L.Lexeme.lex (end_of g.L.Lexeme.lex c.args.lexemes.now)) input d y (drop c.args.index c.args.lexemes.now) es left a c.put_on.new.stacks w.past (c.in_ok-put_on-in-Insert.ensures.goes input d w.stand (next_is_it g.S.IndexStorage.number g.L.Lexeme.lex c.args.machine.now.grm.now.grammar x c.args.machine.now.stable.now (g.V.ValueStack.stands c.args.machine.now.grm.now.grammar) (made_by g.L.Lexeme.faulty_of g.L.Lexeme.lex (end_of g.L.Lexeme.lex c.args.lexemes.now)) input d y (drop c.args.index c.args.lexemes.now) es left a))

-- a lexeme that is kept or deleted is there
pub at-requires : goal.at-requires
at-requires g c =
    let h = c.requires.on in
    let w = rw c.in-Shift.is at h.4 in
    keeps_one (made_by g.L.Lexeme.faulty_of g.L.Lexeme.lex (end_of g.L.Lexeme.lex c.args.lexemes.now)) h.2 c.args.lexemes.now c.args.index (w.put, h.3) w.applied

pub put_on-requires-in-Shift-clause-inside : goal.put_on-requires-in-Shift-clause-inside
put_on-requires-in-Shift-clause-inside g c = c.requires.lexemes.inside c.args.index c.at.result c.at.ensures

pub put_on-requires-in-Shift-clause-start : goal.put_on-requires-in-Shift-clause-start
put_on-requires-in-Shift-clause-start g c =
    starts_here g.L.Lexeme.lex (g.V.ValueStack.starts_by c.args.stacks.now.values) c.args.lexemes.now c.args.index c.at.result c.at.ensures c.requires.starts

pub put_on-requires-in-Shift-clause-stand : goal.put_on-requires-in-Shift-clause-stand
put_on-requires-in-Shift-clause-stand g c =
    let h = c.requires.on in
    let w = rw c.in-Shift.is at h.4 in
    let y = c.at.result in
    let a = ahead_kept g.S.IndexStorage.number g.L.Lexeme.lex c.args.machine.now.grm.now.grammar c.args.machine.now.sgraph.now c.args.machine.now.stable.now (g.V.ValueStack.stands c.args.machine.now.grm.now.grammar) (made_by g.L.Lexeme.faulty_of g.L.Lexeme.lex (end_of g.L.Lexeme.lex c.args.lexemes.now)) h.0 h.1 c.args.stacks.now (drop c.args.index c.args.lexemes.now) h.3 y (drop (c.args.index + 1) c.args.lexemes.now) h.2 (drop_from c.args.lexemes.now c.args.index c.at.result c.at.ensures) w in
    (h.0, h.1, w.stand, next_is_it g.S.IndexStorage.number g.L.Lexeme.lex c.args.machine.now.grm.now.grammar c.args.machine.now.sgraph.now c.args.machine.now.stable.now (g.V.ValueStack.stands c.args.machine.now.grm.now.grammar) (made_by g.L.Lexeme.faulty_of g.L.Lexeme.lex (end_of g.L.Lexeme.lex c.args.lexemes.now)) h.0 h.1 y (drop (c.args.index + 1) c.args.lexemes.now) h.2 h.3 a, past_it g.S.IndexStorage.number g.L.Lexeme.lex c.args.machine.now.grm.now.grammar c.args.machine.now.sgraph.now c.args.machine.now.stable.now (g.V.ValueStack.stands c.args.machine.now.grm.now.grammar) (made_by g.L.Lexeme.faulty_of g.L.Lexeme.lex (end_of g.L.Lexeme.lex c.args.lexemes.now)) h.0 h.1 y (drop (c.args.index + 1) c.args.lexemes.now) h.2 h.3 a w.past)

pub returns-in_ok-put_on-in-Shift-clause-on : goal.returns-in_ok-put_on-in-Shift-clause-on
returns-in_ok-put_on-in-Shift-clause-on g c =
    let x = c.args.machine.now.sgraph.now in
    λ input d es left way.
    let w = rw c.in-Shift.is at way in
    let y = c.at.result in
    let a = ahead_kept g.S.IndexStorage.number g.L.Lexeme.lex c.args.machine.now.grm.now.grammar x c.args.machine.now.stable.now (g.V.ValueStack.stands c.args.machine.now.grm.now.grammar) (made_by g.L.Lexeme.faulty_of g.L.Lexeme.lex (end_of g.L.Lexeme.lex c.args.lexemes.now)) input d c.args.stacks.now (drop c.args.index c.args.lexemes.now) left y (drop (c.args.index + 1) c.args.lexemes.now) es (drop_from c.args.lexemes.now c.args.index c.at.result c.at.ensures) w in
    way_put g.S.IndexStorage.number g.L.Lexeme.lex c.args.machine.now.grm.now.grammar x c.args.machine.now.stable.now (g.V.ValueStack.stands c.args.machine.now.grm.now.grammar) (made_by g.L.Lexeme.faulty_of g.L.Lexeme.lex (end_of g.L.Lexeme.lex c.args.lexemes.now)) input d y (drop (c.args.index + 1) c.args.lexemes.now) es left a c.put_on-in-Shift.new.stacks w.past (c.in_ok-put_on-in-Shift.ensures.goes input d w.stand (next_is_it g.S.IndexStorage.number g.L.Lexeme.lex c.args.machine.now.grm.now.grammar x c.args.machine.now.stable.now (g.V.ValueStack.stands c.args.machine.now.grm.now.grammar) (made_by g.L.Lexeme.faulty_of g.L.Lexeme.lex (end_of g.L.Lexeme.lex c.args.lexemes.now)) input d y (drop (c.args.index + 1) c.args.lexemes.now) es left a))

pub returns-in_ok-put_on-in-Shift-clause-starts : goal.returns-in_ok-put_on-in-Shift-clause-starts
returns-in_ok-put_on-in-Shift-clause-starts g c =
    starts_behind c.args.machine.now.grm.now.grammar g.L.Lexeme.lex (g.V.ValueStack.starts_by c.put_on-in-Shift.new.stacks.values) (g.V.ValueStack.starts_later c.put_on-in-Shift.new.stacks.values) c.args.lexemes.now c.requires.lexemes c.args.index (Some c.at.result) (sym c.at.ensures) c.in_ok-put_on-in-Shift.ensures.start

-- a lexeme that is deleted is there
deleted_within : (g : _) (c : In-Delete g) → c.args.index < length c.args.lexemes.now
deleted_within g c =
    let h = c.requires.on in
    let w = rw c.in-Delete.is at h.4 in
    deletes_one (made_by g.L.Lexeme.faulty_of g.L.Lexeme.lex (end_of g.L.Lexeme.lex c.args.lexemes.now)) h.2 c.args.lexemes.now c.args.index (w.put, h.3) w.applied

pub returns-in-Delete-clause-on : goal.returns-in-Delete-clause-on
returns-in-Delete-clause-on g c =
    let x = c.args.machine.now.sgraph.now in
    λ input d es left way.
    let w = rw c.in-Delete.is at way in
    let y = lexeme_in c.args.lexemes.now c.args.index (deleted_within g (goal.at.returns-in-Delete-clause-on g c).In-Delete) in
    way_deleted g.S.IndexStorage.number g.L.Lexeme.lex c.args.machine.now.grm.now.grammar x c.args.machine.now.stable.now (g.V.ValueStack.stands c.args.machine.now.grm.now.grammar) (made_by g.L.Lexeme.faulty_of g.L.Lexeme.lex (end_of g.L.Lexeme.lex c.args.lexemes.now)) input d c.args.stacks.now (drop c.args.index c.args.lexemes.now) left y.0 (drop (c.args.index + 1) c.args.lexemes.now) es y.2 w

pub returns-in-Delete-clause-starts : goal.returns-in-Delete-clause-starts
returns-in-Delete-clause-starts g c =
    let y = lexeme_in c.args.lexemes.now c.args.index (deleted_within g (goal.at.returns-in-Delete-clause-starts g c).In-Delete) in
    starts_behind c.args.machine.now.grm.now.grammar g.L.Lexeme.lex (g.V.ValueStack.starts_by c.args.stacks.now.values) (g.V.ValueStack.starts_later c.args.stacks.now.values) c.args.lexemes.now c.requires.lexemes c.args.index (Some y.0) (sym y.1)
    (starts_here g.L.Lexeme.lex (g.V.ValueStack.starts_by c.args.stacks.now.values) c.args.lexemes.now c.args.index y.0 y.1 c.requires.starts)

pub returns-in-Delete-clause-keeps : goal.returns-in-Delete-clause-keeps
returns-in-Delete-clause-keeps g c = g.V.ValueStack.keeps_all c.args.stacks.now.values
