use Rattle.std.proofs.Common.{true, sym, ap, ◌∙◌, arith, length-set, length}
use Rattle.lrtable.proofs.Reaching.{is_alone, alone_tidy, alone_waits}
use Rattle.lrtable.proofs.Waiting.{waits_alone}
use Rattle.lrtable.proofs.opening.Opening.open_from.Goals as goal

pub close-requires-clause-fit : goal.close-requires-clause-fit
close-requires-clause-fit c =
    let n = ap length c.open.ensures.opened ∙ length-set c.clear.new.self.opened c.args.rule true in
    let m = c.clear.ensures.sizes.opened in
    λ A e k.
    let f = c.requires.fit A e k in
    let r = f.rule in
    record { rule = omega (arith, r, n, m); first = f.first ∙ sym (c.open.ensures.tokens ∙ c.clear.ensures.sizes.tokens) }

pub close-requires-clause-tidy : goal.close-requires-clause-tidy
close-requires-clause-tidy c = alone_tidy c.args.rule c.clear.new.self c.open.new.self (let n = c.clear.ensures.sizes.opened in let m = c.requires.rules in let lt = c.requires.rule in omega (arith, n, m, lt)) c.clear.ensures.none_open c.clear.ensures.no_look c.open.ensures.rows c.open.ensures.opened

pub close-requires-clause-waiting : goal.close-requires-clause-waiting
close-requires-clause-waiting c =
    waits_alone c.args.openers.now c.open.new.self c.open.new.self c.args.rule c.args.waiting.now c.put.new.self c.requires.none_waits c.in_ok-put.ensures
    (alone_waits c.args.rule c.clear.new.self c.open.new.self (let n = c.clear.ensures.sizes.opened in let m = c.requires.rules in let lt = c.requires.rule in omega (arith, n, m, lt)) c.clear.ensures.none_open c.clear.ensures.no_look c.open.ensures.rows c.open.ensures.opened c.args.openers.now)

pub returns-clause-opened : goal.returns-clause-opened
returns-clause-opened c = (
  c.open.new.self,
  is_alone c.args.rule c.clear.new.self c.open.new.self (let n = c.clear.ensures.sizes.opened in let m = c.requires.rules in let lt = c.requires.rule in omega (arith, n, m, lt)) c.clear.ensures.none_open c.clear.ensures.no_look c.open.ensures.rows c.open.ensures.opened,
  c.in_ok-close.ensures.opened,
)
