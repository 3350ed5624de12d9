use Rattle.std.proofs.lemmas.Option.{slice_get-get_or}
use Rattle.parse_trees.proofs.flat.visited_text.Goals as goal

pub push_visit-requires-clause-shown : goal.push_visit-requires-clause-shown
push_visit-requires-clause-shown g c = c.requires c.visits.visit-index _ (slice_get-get_or c.args.visits.now c.visits.visit-index (record { index = 0; depth = 0 }) c.visits-test.true)
