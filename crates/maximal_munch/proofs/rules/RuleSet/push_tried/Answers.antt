use Rattle.std.proofs.Common.{◌≡◌, true, length, sym, subst, arith}
use Rattle.regex.specs.Strings.{regex_pattern}
use Rattle.maximal_munch.specs.Beginnings.{rows_of, BeginsIn, is_tried}
use Rattle.maximal_munch.proofs.TriedLemmas.{none_lost_later, begins_or_any, rule_or_none}
use Rattle.maximal_munch.proofs.rules.RuleSet.push_tried.Goals as goal

pub invariant_of-self : goal.invariant_of-self
invariant_of-self c = record { loses_none = none_lost_later _ _ _ c.add.ensures.keeps c.args.self.now.loses_none }

pub invariant_of-self-2 : goal.invariant_of-self-2
invariant_of-self-2 c =
    let old = c.args.self.now in
    let first = c.unwrap_or-first.result in
    let begins = subst (BeginsIn (regex_pattern c.args.rule.regex)) (sym c.unwrap_or-first.ensures) (begins_or_any (regex_pattern c.args.rule.regex) c.args.first c.requires) in
    let size : c.len.result ≡ length old.rules.items = omega (arith, c.len.ensures, old.rules.ok.0) in
    record {
      loses_none = rule_or_none _ (rows_of old.tried) (rows_of c.add.new.self) old.rules.items c.push.new.self.items c.args.rule first
          c.push.ensures.items c.add.ensures.keeps old.loses_none begins
          (λ byte in'. subst (λ n. is_tried (rows_of c.add.new.self) byte n ≡ true) size (c.in_ok-add.ensures.adds byte in'));
    }
