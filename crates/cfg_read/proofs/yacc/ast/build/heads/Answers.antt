use Rattle.std.proofs.Common.{◌+◌, take, length, sym, ap, ◌∙◌}
use Rattle.std.proofs.lemmas.List.{length_push, take_more}
use Rattle.cfg_read.specs.declared.yacc.ast.build.Head.{Head}
use Rattle.cfg_read.specs.Judging.{heads_of}
use Rattle.cfg_read.proofs.HeadLemmas.{heads_read}
use Rattle.cfg_read.proofs.yacc.ast.build.heads.Goals as goal

pub rules-preserved : goal.rules-preserved
rules-preserved c =
    let rs = c.args.rules.now in
    let i = c.rules.rule-index in
    let r = c.rule-item.result in
    let old = c.rules.heads.items in
    let h : Head = record { name = c.in_ok-name.name; count = c.len.result } in (
      ap heads_of c.in_ok-push.ensures.items
          ∙ heads_read old h rs i r c.rules-test.true c.rule-item.is c.rules.invariant.0 c.in_ok-name.ensures.text (c.len.ensures ∙ r.alternatives.ok.0),
      ap length c.in_ok-push.ensures.items
          ∙ length_push old h
          ∙ ap (λ n. n + 1) c.rules.invariant.1
          ∙ sym (ap length (take_more rs i r c.rules-test.true) ∙ length_push (take i rs) _),
    )
