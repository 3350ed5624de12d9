use Rattle.std.proofs.Common.{map, option_map, string_bytes, subst, arith}
use Rattle.std.proofs.lemmas.List.{take_all}
use Rattle.lrlex.specs.Lexing.{AreMeanings}
use Rattle.lrlex.proofs.Items.{more_meanings}
use Rattle.lrlex.proofs.bound.all_meanings.Goals as goal

pub names-preserved : goal.names-preserved
names-preserved g c =
    more_meanings g.S.IndexStorage.number c.args.grm.now (option_map string_bytes) c.args.names.now c.names.index c.index-names-index.result (omega arith) c.index-names-index.is
    c.names.meanings.items c.push.new.self.items c.meaning_of.result c.names.invariant c.meaning_of.ensures c.in_ok-push.ensures.items

pub returns : goal.returns
returns g c =
    subst (λ ns. AreMeanings g.S.IndexStorage.number c.args.grm.now (map (option_map string_bytes) ns) c.names.meanings.items)
    (take_all c.names.index c.args.names.now (omega arith)) c.names.invariant
