use Rattle.std.proofs.Common.{sym, ◌∙◌, arith}
use Rattle.std.specs.Prelude.{map}
use Rattle.lrtable.specs.Fronts.{front_of}
use Rattle.lrtable.proofs.OpenLaws.{mapped}
use Rattle.lrtable.proofs.OwnFronts.{own_none, own_on}
use Rattle.lrtable.proofs.opening.Opening.keep_own.Goals as goal

pub openers-init : goal.openers-init
openers-init c = own_none (map front_of c.args.openers.now) c.args.rule c.args.self.now

pub keep_one-requires-clause-within : goal.keep_one-requires-clause-within
keep_one-requires-clause-within c = let n = c.openers.invariant.sizes.rows in let lt = c.requires.within in omega (arith, n, lt)

pub keep_one-requires-clause-first : goal.keep_one-requires-clause-first
keep_one-requires-clause-first c =
    let x = c.opener-item.result in
    c.requires.first (front_of x) (mapped front_of c.args.openers.now c.openers.opener-index x c.openers-test.true c.opener-item.is) ∙ sym c.openers.invariant.sizes.tokens

pub openers-preserved : goal.openers-preserved
openers-preserved c =
    let x = c.opener-item.result in
    own_on (map front_of c.args.openers.now) (front_of x) c.args.rule c.args.self.now c.openers.self c.keep_one.new.self (mapped front_of c.args.openers.now c.openers.opener-index x c.openers-test.true c.opener-item.is) c.openers.invariant c.keep_one.ensures
