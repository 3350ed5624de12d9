use Rattle.std.proofs.Common.{inl, inr, arith, below_more}
use Rattle.std.proofs.lemmas.List.{length-map}
use Rattle.lrtable.proofs.weak_compatibility.weakly_compatible.Goals as goal

pub each-preserved : goal.each-preserved
each-preserved g c = below_more _ _ c.each.invariant (c.fits_below.ensures.fits c.if-not-fits_below.false)

pub returns-clause-fits : goal.returns-clause-fits
returns-clause-fits g c = λ _ i j lt within. c.each.invariant j (let h = c.each-test.false in let n = length-map c.args.a.now (λ v. v.bits) in omega (arith, h, n, within)) i lt

pub returns-then-share_token-clause-fits : goal.returns-then-share_token-clause-fits
returns-then-share_token-clause-fits g c = λ _ i j lt within.
    let s = c.share_token.ensures c.if-share_token.true in
    inr (inl (s.0, s.1 i (omega (arith, lt, within)), s.1 j within))
