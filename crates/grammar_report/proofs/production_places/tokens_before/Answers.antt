use Rattle.std.proofs.Common.{◌≡◌, ◌+◌, ◌<◌, length, sym, ap, ◌∙◌, arith}
use Rattle.cfg_theory.specs.Grammar.{body_of}
use Rattle.grammar_report.proofs.BeforeDots.{count_all, count_rule, count_token}
use Rattle.grammar_report.proofs.production_places.tokens_before.Goals as goal
use Rattle.grammar_report.proofs.production_places.tokens_before.Goals.{in-Token, in_default}

pub symbols-preserved : goal.symbols-preserved
symbols-preserved c =
    let body = c.prod_body-body.result.now in
    let test = c.symbols-test.true in
    let end = c.min-index-end.ensures in
    let fits = c.min-index-end.type_inv in
    let low = c.symbols.invariant.1 in
    let lt : c.symbols.index < length body = omega (arith, test, end) in
    elim c.match-body-index.branch [
      | in-Token w ↦
          let is = w.count-is in
          let plus = w.saturating_add-count.ensures in
          let one : c.match-body-index.count ≡ c.symbols.count + 1 = omega (arith, is, plus, low, test, fits) in
          (one ∙ ap (λ n. n + 1) c.symbols.invariant.0 ∙ sym (count_token body c.symbols.index _ w.in-Token.field-0 lt w.in-Token.is), omega (arith, one, low))
      | in_default w ↦
          let is = w.count-is in
          (is ∙ c.symbols.invariant.0 ∙ sym (count_rule body c.symbols.index _ w.in_default.field-0 lt w.in_default.is), omega (arith, is, low))
    ]

pub returns : goal.returns
returns c =
    let at = c.to_usize.ensures.value in
    let end = c.min-index-end.ensures in
    let below = c.symbols.auto.index-end in
    let above = c.symbols-test.false in
    c.symbols.invariant.0 ∙ count_all c.prod_body-body.result.now (body_of c.args.grm.now.grammar c.args.pidx.0) c.args.dot.0 c.symbols.index c.prod_body-body.ensures (omega (arith, at, end, below, above))
