use Rattle.std.proofs.Common.{rules, refl}
use Rattle.std.proofs.lemmas.Result.{on_ok_weaker}
use Rattle.serde.proofs.Events.{WritesEach-more, WritesSeq-ends}
use Rattle.language_server.specs.Texts.{WritesLocation}
use Rattle.language_server.proofs.place_lists.write_locations.Goals as goal

pub all-preserved : goal.all-preserved
all-preserved g c = WritesEach-more (WritesLocation c.args.uri.now) _ _ _ _ _ _ c.all-test.true (search rules) c.all.invariant c.in_ok-write_location.ensures

pub returns : goal.returns
returns g c = on_ok_weaker c.end_seq.result (WritesSeq-ends (WritesLocation c.args.uri.now) _ _ _ _ _ _ _ _ refl refl c.all-test.false c.in_ok-begin_seq.ensures c.all.invariant) c.end_seq.ensures
