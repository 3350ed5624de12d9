use Rattle.std.specs.Prelude.{slice_range}
use Rattle.std.specs.List.{filter}
use Rattle.cfg_read.specs.Bytes.{is_plain}
use Rattle.std.proofs.Common.{◌+◌, ◌<◌, ◌++◌, refl, sym, ap, ◌∙◌, append_assoc, arith}
use Rattle.std.specs.String.{string_bytes}
use Rattle.cfg_read.proofs.Parts.{plain_end_is, plain_done, plain_step}
use Rattle.cfg_read.proofs.yacc.parser.scan.Scanner.unescape.Goals as goal

pub parts-init : goal.parts-init
parts-init c = record { fits = c.requires; same = rw c.new-text.ensures.bytes refl }

pub push_part-requires : goal.push_part-requires
push_part-requires c = (plain_end_is c.args.self.now.text.now c.parts.offset c.args.end c.plain_end-stop.result c.plain_end-stop.ensures.utf8 c.parts.invariant.fits c.plain_end-stop.ensures.value).fits

pub returns-then-stop-end : goal.returns-then-stop-end
returns-then-stop-end c =
    let text = c.args.self.now.text.now in
    let is = c.if-stop-end.true in
    let whole = plain_done text c.parts.offset c.args.end c.parts.invariant.fits (sym is ∙ c.plain_end-stop.ensures.value) in
    rw (c.in_ok-push_part.ensures, is) (ap (λ ys. string_bytes c.parts.text ++ ys) (sym whole) ∙ c.parts.invariant.same)

pub overflow_add-offset : goal.overflow_add-offset
overflow_add-offset c =
    let within = (plain_end_is c.args.self.now.text.now c.parts.offset c.args.end c.plain_end-stop.result c.plain_end-stop.ensures.utf8 c.parts.invariant.fits c.plain_end-stop.ensures.value).within in
    omega (arith, within, c.if-stop-end.false, c.ranges.end)

pub parts-preserved : goal.parts-preserved
parts-preserved c =
    let text = c.args.self.now.text.now in
    let stop = plain_end_is text c.parts.offset c.args.end c.plain_end-stop.result c.plain_end-stop.ensures.utf8 c.parts.invariant.fits c.plain_end-stop.ensures.value in
    let within = stop.within in
    let lt : c.plain_end-stop.result < c.args.end = omega (arith, within, c.if-stop-end.false) in
    let step = plain_step text c.parts.offset c.args.end c.plain_end-stop.result c.plain_end-stop.ensures.value lt in
    record {
      fits = stop.more lt;
      same = rw (c.in_ok-push_part.ensures) (append_assoc (string_bytes c.parts.text) (slice_range text c.parts.offset c.plain_end-stop.result) (filter is_plain (slice_range text (c.plain_end-stop.result + 1) c.args.end)) ∙ ap (λ ys. string_bytes c.parts.text ++ ys) (sym step) ∙ c.parts.invariant.same);
    }
