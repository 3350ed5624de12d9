use Rattle.cfg_sentences.specs.TokenLists.{lists_of}
use Rattle.cfg_sentences.proofs.Dictionary.{joined_more}
use Rattle.cfg_sentences.proofs.sentences.token_lists.join_all.Goals as goal

pub firsts-preserved : goal.firsts-preserved
firsts-preserved g c =
    let number = g.S.IndexStorage.number in
    joined_more number c.args.firsts.now (lists_of number c.args.rests.now) c.firsts.index c.index-firsts-index.result c.as_slice.result.now (lists_of number c.firsts.out.items) (lists_of number c.put_before.new.out.items) c.firsts-test.true c.index-firsts-index.is c.as_slice.ensures.value c.firsts.invariant c.in_ok-put_before.ensures
