use Rattle.std.proofs.Common.{length, refl, sym, ◌∙◌, arith}
use Rattle.std.proofs.lemmas.Option.{slice_get_within}
use Rattle.cfg_read.specs.Words.{is_action_end}
use Rattle.cfg_read.proofs.Braces.{closes, goes_on, closer, count_none, none_is_end}
use Rattle.cfg_base.proofs.TextRuns.{first_here, first_step, first_end, cut_before}
use Rattle.cfg_read.proofs.yacc.parser.scan.Scanner.action_end.Goals as goal

pub bytes-init : goal.bytes-init
bytes-init c = record { from = omega arith; depth = rw (count_none 125 c.args.self.now.text.now c.args.start, count_none 123 c.args.self.now.text.now c.args.start) refl; few = omega arith; same = refl }

pub bytes-preserved : goal.bytes-preserved
bytes-preserved c =
    let text = c.args.self.now.text.now in
    let at = sym c.byte.ensures.value ∙ c.in-Some.is in
    let within = slice_get_within text c.bytes.offset c.in-Some.byte at in
    let deeper = goes_on text c.args.start c.bytes.offset c.in-Some.byte c.bytes.depth c.in-Some-depth_behind.next c.bytes.invariant.from at c.bytes.invariant.depth c.bytes.invariant.few (sym c.depth_behind.ensures ∙ c.in-Some-depth_behind.is) in
    record {
      from = omega arith;
      depth = deeper.depth;
      few = deeper.few;
      same = sym (first_step (is_action_end text c.args.start) c.bytes.offset (length text) within deeper.inside) ∙ c.bytes.invariant.same;
    }

pub returns-clause-value : goal.returns-clause-value
returns-clause-value c =
    let text = c.args.self.now.text.now in
    sym (first_end (is_action_end text c.args.start) c.bytes.offset (length text) (none_is_end text c.bytes.offset (sym c.byte.ensures.value ∙ c.in_default.is))) ∙ c.bytes.invariant.same

pub returns-in_default-depth_behind-clause-value : goal.returns-in_default-depth_behind-clause-value
returns-in_default-depth_behind-clause-value c =
    let text = c.args.self.now.text.now in
    let at = sym c.byte.ensures.value ∙ c.in-Some.is in
    let within = slice_get_within text c.bytes.offset c.in-Some.byte at in
    let closed = closes text c.args.start c.bytes.offset c.in-Some.byte c.bytes.depth c.bytes.invariant.from at c.bytes.invariant.depth (sym c.depth_behind.ensures ∙ c.in_default-depth_behind.is) in
    sym (first_here (is_action_end text c.args.start) c.bytes.offset (length text) within closed) ∙ c.bytes.invariant.same

pub returns-in_default-depth_behind-clause-within : goal.returns-in_default-depth_behind-clause-within
returns-in_default-depth_behind-clause-within c =
    let text = c.args.self.now.text.now in
    let at = sym c.byte.ensures.value ∙ c.in-Some.is in
    let within = slice_get_within text c.bytes.offset c.in-Some.byte at in
    let is = closer c.in-Some.byte c.bytes.depth (sym c.depth_behind.ensures ∙ c.in_default-depth_behind.is) in
    (c.bytes.invariant.from, within, cut_before text c.bytes.offset c.in-Some.byte c.byte.ensures.utf8 at (omega (arith, is)))
