use Rattle.std.proofs.Common.{◌≡◌, ◌+◌, map, take, length, replicate, refl, sym, ap, ◌∙◌, arith}
use Rattle.cfg_read.specs.AstModels.{named_rules}
use Rattle.cfg_read.specs.Judging.{head_names, heads_of, with_numbers_at}
use Rattle.cfg_read.proofs.HeadLemmas.{heads_more, heads_count, heads_fit}
use Rattle.cfg_read.proofs.RuleNumbers.{at_more, at_none}
use Rattle.cfg_read.proofs.yacc.ast.build.number_headings.Goals as goal

pub headings-init : goal.headings-init
headings-init c = (refl, at_none 0 (named_rules c.args.rules.now), c.requires.names)

pub push_numbers-requires-clause-fits : goal.push_numbers-requires-clause-fits
push_numbers-requires-clause-fits c =
    let fit = heads_fit c.args.heads.now c.headings.head-index c.head-item.result c.headings-test.true c.head-item.is in
    let count : c.headings.number ≡ length (heads_of (take c.headings.head-index c.args.heads.now)) = c.headings.invariant.0 in
    omega (arith, fit, count, c.requires.fits)

pub overflow_add-number : goal.overflow_add-number
overflow_add-number c =
    let fit = heads_fit c.args.heads.now c.headings.head-index c.head-item.result c.headings-test.true c.head-item.is in
    let count : c.headings.number ≡ length (heads_of (take c.headings.head-index c.args.heads.now)) = c.headings.invariant.0 in
    omega (arith, fit, count, c.requires.fits)

pub headings-preserved : goal.headings-preserved
headings-preserved c =
    let hs = c.args.heads.now in
    let i = c.headings.head-index in
    let h = c.head-item.result in
    let n = c.headings.number in
    let done = heads_of (take i hs) in
    let rs = named_rules c.args.rules.now in
    let count : n ≡ length done = c.headings.invariant.0 in
    let more = heads_count hs i h c.headings-test.true c.head-item.is in
    let from : n ≡ 0 + length done = omega (arith, count) in (
      omega (arith, count, more),
      c.in_ok-push_numbers.ensures.rules
          ∙ ap (λ t. map (with_numbers_at n (replicate h.count t)) (named_rules c.headings.rules)) c.as_str.ensures
          ∙ ap (map (with_numbers_at n (head_names h))) c.headings.invariant.1
          ∙ at_more 0 n done (head_names h) rs from
          ∙ ap (λ l. map (with_numbers_at 0 l) rs) (sym (heads_more hs i h c.headings-test.true c.head-item.is)),
      c.in_ok-push_numbers.ensures.names,
    )
