use Rattle.std.proofs.Common.{◌≡◌, ◌+◌, ◌<◌, ◌≤◌, [], ℕ, true, subst, sym, ap, arith, append-nil}
use Rattle.std.specs.declared.ops.Bound.TheVariants.{Unbounded}
use Rattle.vob.specs.Walk.{walk}
use Rattle.state_table.specs.CellRows.{IsBlank, cells_by, filled, pairs_on, shifts_on}
use Rattle.state_table.specs.CellViews.{cells_of, pairs_of, parts_of, precedences_of, shifts_of, targets_of}
use Rattle.state_table.specs.Cursors.{IsCursor}
use Rattle.state_table.specs.Meeting.{rows_in}
use Rattle.state_table.proofs.BlankCells.{blank_cell, blank_pairs, blank_shifts, cursor_skip, grown_skip}
use Rattle.state_table.proofs.Cursors.{at_start}
use Rattle.state_table.proofs.Gathered.{gathered_put}
use Rattle.state_table.proofs.Marks.{IsNextMark, all_marked, next_mark, no_mark}
use Rattle.state_table.proofs.state_rows.put_tokens.Goals as goal

pub tokens-init : goal.tokens-init
tokens-init g c =
    let number = g.S.IndexStorage.number in
    let bits = c.args.marks.now.bits in
    let e : c.into_iter-number-iterator.result ≡ walk true bits Unbounded Unbounded = cc in (
      tt,
      tt,
      (
        0,
        record {
          within = omega arith;
          left = all_marked bits c.into_iter-number-iterator.result e;
          row = ap (λ l. cells_of number l) c.requires.none;
          pairs = sym (append-nil (pairs_of number c.args.pairs.now.items));
          shifts = sym (append-nil (shifts_of number c.args.shifts.now.items));
          cursor = at_start (targets_of number c.args.source.now.parts.now.shifts.items);
        },
      ),
    )

pub take_edge-edge-requires-clause-next : goal.take_edge-edge-requires-clause-next
take_edge-edge-requires-clause-next g c =
    let number = g.S.IndexStorage.number in
    let bits = c.args.marks.now.bits in
    let v = c.tokens.invariant.2 in
    let m : IsNextMark bits v.0 c.in-Some.number c.next.new.self = next_mark bits v.0 c.in-Some.number c.tokens.number-iterator c.next.new.self v.1.within v.1.left c.in-Some.ensures.steps in
    let below = m.below in
    let width = c.requires.width in
    subst (λ l. IsCursor (targets_of number l) c.tokens.next c.in-Some.number) (sym c.as_slice.ensures.value)
    (cursor_skip (targets_of number c.args.source.now.parts.now.shifts.items) c.tokens.next v.0 c.in-Some.number c.requires.fits.rises m.low (λ k a b. (c.requires.blank k (omega (arith, b, below, width)) (m.none k a b)).edge) v.1.cursor)

pub token_at-tidx-requires : goal.token_at-tidx-requires
token_at-tidx-requires g c =
    let bits = c.args.marks.now.bits in
    let v = c.tokens.invariant.2 in
    let m : IsNextMark bits v.0 c.in-Some.number c.next.new.self = next_mark bits v.0 c.in-Some.number c.tokens.number-iterator c.next.new.self v.1.within v.1.left c.in-Some.ensures.steps in
    let below = m.below in
    let width = c.requires.width in
    omega (arith, below, width)

pub put_token-requires-clause-token : goal.put_token-requires-clause-token
put_token-requires-clause-token g c =
    let bits = c.args.marks.now.bits in
    let v = c.tokens.invariant.2 in
    let m : IsNextMark bits v.0 c.in-Some.number c.next.new.self = next_mark bits v.0 c.in-Some.number c.tokens.number-iterator c.next.new.self v.1.within v.1.left c.in-Some.ensures.steps in
    let below = m.below in
    let width = c.requires.width in
    let e = c.token_at-tidx.ensures in
    omega (arith, below, width, e)

pub tokens-preserved : goal.tokens-preserved
tokens-preserved g c =
    let number = g.S.IndexStorage.number in
    let G = c.args.source.now.grm.now.grammar in
    let bits = c.args.marks.now.bits in
    let parts = parts_of number (rows_in c.args.source.now.sets.now) c.args.source.now.parts.now in
    let precedences = precedences_of c.args.source.now.grm.now in
    let s = number c.args.source.now.stidx.0 in
    let n = c.tokens.invariant.2.0 in
    let v = c.tokens.invariant.2.1 in
    let t = c.in-Some.number in
    let m : IsNextMark bits n t c.next.new.self = next_mark bits n t c.tokens.number-iterator c.next.new.self v.within v.left c.in-Some.ensures.steps in
    let below = m.below in
    let width = c.requires.width in
    let blank : (k : ℕ) → n ≤ k → k < t → IsBlank G parts k = λ k a b. c.requires.blank k (omega (arith, b, below, width)) (m.none k a b) in
    let e = c.in_ok-put_token.ensures in
    let t' = number c.token_at-tidx.result.0 in (
      tt,
      tt,
      (
        t + 1,
        record {
          within = omega (arith, below);
          left = m.left;
          row = gathered_put (λ (k : ℕ). filled k (cells_by G precedences parts k)) t t' [] (cells_of number c.tokens.row.items) (cells_of number c.put_token.new.row.items)
              (grown_skip (λ (k : ℕ). filled k (cells_by G precedences parts k)) [] (cells_of number c.tokens.row.items) n t m.low (λ k a b. blank_cell G precedences parts s k (blank k a b)) v.row) c.token_at-tidx.ensures e.row;
          pairs = gathered_put (pairs_on s parts) t t' (pairs_of number c.args.pairs.now.items) (pairs_of number c.tokens.pairs.items) (pairs_of number c.put_token.new.pairs.items)
              (grown_skip (pairs_on s parts) (pairs_of number c.args.pairs.now.items) (pairs_of number c.tokens.pairs.items) n t m.low (λ k a b. blank_pairs G precedences parts s k (blank k a b)) v.pairs) c.token_at-tidx.ensures e.pairs;
          shifts = gathered_put (shifts_on precedences s parts) t t' (shifts_of number c.args.shifts.now.items) (shifts_of number c.tokens.shifts.items) (shifts_of number c.put_token.new.shifts.items)
              (grown_skip (shifts_on precedences s parts) (shifts_of number c.args.shifts.now.items) (shifts_of number c.tokens.shifts.items) n t m.low (λ k a b. blank_shifts G precedences parts s k (blank k a b)) v.shifts) c.token_at-tidx.ensures e.shifts;
          cursor = subst (λ l. IsCursor (targets_of number l) c.take_edge-edge.new.next (t + 1)) c.as_slice.ensures.value c.take_edge-edge.ensures.next;
        },
      ),
    )

pub returns-clause-row : goal.returns-clause-row
returns-clause-row g c =
    let number = g.S.IndexStorage.number in
    let G = c.args.source.now.grm.now.grammar in
    let bits = c.args.marks.now.bits in
    let parts = parts_of number (rows_in c.args.source.now.sets.now) c.args.source.now.parts.now in
    let precedences = precedences_of c.args.source.now.grm.now in
    let s = number c.args.source.now.stidx.0 in
    let n = c.tokens.invariant.2.0 in
    let v = c.tokens.invariant.2.1 in
    let width = c.requires.width in
    let within = v.within in
    let blank : (k : ℕ) → n ≤ k → k < G.tokens → IsBlank G parts k = λ k a b. c.requires.blank k b (no_mark bits n c.tokens.number-iterator v.within v.left c.in-None.ensures.steps.0 k a (omega (arith, b, width))) in
    grown_skip (λ (k : ℕ). filled k (cells_by G precedences parts k)) [] (cells_of number c.tokens.row.items) n G.tokens (omega (arith, within, width)) (λ k a b. blank_cell G precedences parts s k (blank k a b)) v.row

pub returns-clause-pairs : goal.returns-clause-pairs
returns-clause-pairs g c =
    let number = g.S.IndexStorage.number in
    let G = c.args.source.now.grm.now.grammar in
    let bits = c.args.marks.now.bits in
    let parts = parts_of number (rows_in c.args.source.now.sets.now) c.args.source.now.parts.now in
    let precedences = precedences_of c.args.source.now.grm.now in
    let s = number c.args.source.now.stidx.0 in
    let n = c.tokens.invariant.2.0 in
    let v = c.tokens.invariant.2.1 in
    let width = c.requires.width in
    let within = v.within in
    let blank : (k : ℕ) → n ≤ k → k < G.tokens → IsBlank G parts k = λ k a b. c.requires.blank k b (no_mark bits n c.tokens.number-iterator v.within v.left c.in-None.ensures.steps.0 k a (omega (arith, b, width))) in
    grown_skip (pairs_on s parts) (pairs_of number c.args.pairs.now.items) (pairs_of number c.tokens.pairs.items) n G.tokens (omega (arith, within, width)) (λ k a b. blank_pairs G precedences parts s k (blank k a b)) v.pairs

pub returns-clause-shifts : goal.returns-clause-shifts
returns-clause-shifts g c =
    let number = g.S.IndexStorage.number in
    let G = c.args.source.now.grm.now.grammar in
    let bits = c.args.marks.now.bits in
    let parts = parts_of number (rows_in c.args.source.now.sets.now) c.args.source.now.parts.now in
    let precedences = precedences_of c.args.source.now.grm.now in
    let s = number c.args.source.now.stidx.0 in
    let n = c.tokens.invariant.2.0 in
    let v = c.tokens.invariant.2.1 in
    let width = c.requires.width in
    let within = v.within in
    let blank : (k : ℕ) → n ≤ k → k < G.tokens → IsBlank G parts k = λ k a b. c.requires.blank k b (no_mark bits n c.tokens.number-iterator v.within v.left c.in-None.ensures.steps.0 k a (omega (arith, b, width))) in
    grown_skip (shifts_on precedences s parts) (shifts_of number c.args.shifts.now.items) (shifts_of number c.tokens.shifts.items) n G.tokens (omega (arith, within, width)) (λ k a b. blank_shifts G precedences parts s k (blank k a b)) v.shifts
