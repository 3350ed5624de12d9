use Rattle.std.proofs.Common.{◌≡◌, suc, ◌+◌, arith, subst}
use Rattle.language_server.specs.Texts.{ClosesSymbols}
use Rattle.language_server.proofs.nested.close_symbols.Goals as goal

pub symbols-preserved : goal.symbols-preserved
symbols-preserved g c =
    let next : suc c.symbols.counter ≡ c.symbols.counter + 1 = omega arith in
    subst (λ n. ClosesSymbols n (g.S.Serializer.written c.args.out.now) (g.S.Serializer.written c.end_map.new.self)) next (_, c.symbols.invariant, (_, c.in_ok-end_seq.ensures, c.in_ok-end_map.ensures))
