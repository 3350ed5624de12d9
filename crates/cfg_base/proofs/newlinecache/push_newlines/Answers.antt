use Rattle.std.proofs.Common.{◌≡◌, ◌+◌, true, false, List, ℕ, [], ◌∷◌, ◌++◌, take, length, get_or, ap, ◌∙◌, arith, append_assoc, append-nil}
use Rattle.std.proofs.lemmas.Bool.{eq-eqb, ne_eqb}
use Rattle.std.proofs.Math.Seq.{take-length}
use Rattle.cfg_base.specs.Text.{is_line_feed}
use Rattle.cfg_base.specs.Newlines.{newline_offsets}
use Rattle.cfg_base.proofs.NewlineOffsets.{offsets_more, count_rest}
use Rattle.cfg_base.proofs.newlinecache.push_newlines.Goals as goal
use Rattle.cfg_base.proofs.newlinecache.push_newlines.Goals.{then-byte-eq10, else-byte-eq10}

pub unwrap-requires : goal.unwrap-requires
unwrap-requires c =
    let rest = count_rest c.args.bytes.now c.loop-offset.offset c.loop-offset-test.true true (eq-eqb _ 10 c.if-byte-eq10.true) in
    c.push.ensures.succeeds (omega (arith, rest, c.loop-offset.invariant.room))

pub loop-offset-preserved : goal.loop-offset-preserved
loop-offset-preserved c =
    elim c.if-byte-eq10.branch [
      | then-byte-eq10 w ↦
          let lf : is_line_feed (get_or c.args.bytes.now c.loop-offset.offset 0) ≡ true = eq-eqb _ 10 w.if-byte-eq10.true in
          let rest = count_rest c.args.bytes.now c.loop-offset.offset c.loop-offset-test.true true lf in
          let more = offsets_more c.args.from c.args.bytes.now c.loop-offset.offset c.loop-offset-test.true true lf in
          let items = rw w.unwrap.ensures at w.push.ensures.items in
          let len = rw w.unwrap.ensures at w.push.ensures.len in
          record {
            items = rw (w.newlines-is, more) (items ∙ (ap (λ (xs : List ℕ). xs ++ (c.args.from + c.loop-offset.offset) ∷ []) c.loop-offset.invariant.items ∙ append_assoc c.args.newlines.now.items (newline_offsets c.args.from (take c.loop-offset.offset c.args.bytes.now)) ((c.args.from + c.loop-offset.offset) ∷ [])));
            room = rw w.newlines-is (omega (arith, len, rest, w.push.ensures.capacity, c.loop-offset.invariant.room));
          }
      | else-byte-eq10 w ↦
          let lf : is_line_feed (get_or c.args.bytes.now c.loop-offset.offset 0) ≡ false = ne_eqb _ 10 w.if-byte-eq10.false in
          let rest = count_rest c.args.bytes.now c.loop-offset.offset c.loop-offset-test.true false lf in
          let more = offsets_more c.args.from c.args.bytes.now c.loop-offset.offset c.loop-offset-test.true false lf in
          record {
            items = rw (w.newlines-is, more, append-nil) c.loop-offset.invariant.items;
            room = rw w.newlines-is (omega (arith, rest, c.loop-offset.invariant.room));
          }
    ]

pub returns : goal.returns
returns c =
    let all : c.loop-offset.offset ≡ length c.args.bytes.now = omega arith in
    c.loop-offset.invariant.items ∙ ap (λ (xs : List ℕ). c.args.newlines.now.items ++ newline_offsets c.args.from xs) (ap (λ (n : ℕ). take n c.args.bytes.now) all ∙ take-length c.args.bytes.now)
