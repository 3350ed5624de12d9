use Rattle.std.proofs.Common.{rules, refl}
use Rattle.std.proofs.lemmas.Result.{on_ok_weaker}
use Rattle.serde.proofs.Events.{WritesEach-more, WritesSeq-ends}
use Rattle.language_server.specs.Texts.{WritesHighlight}
use Rattle.language_server.proofs.place_lists.write_highlights.Goals as goal

pub all-preserved : goal.all-preserved
all-preserved g c = WritesEach-more WritesHighlight _ _ _ _ _ _ c.all-test.true (search rules) c.all.invariant c.in_ok-write_highlight.ensures

pub returns : goal.returns
returns g c = on_ok_weaker c.end_seq.result (WritesSeq-ends WritesHighlight _ _ _ _ _ _ _ _ refl refl c.all-test.false c.in_ok-begin_seq.ensures c.all.invariant) c.end_seq.ensures
