use Rattle.std.proofs.lemmas.Result.{on_ok_weaker}
use Rattle.language_server.proofs.objects.RangeSerialize.serialize.Goals as goal

pub returns : goal.returns
returns g c = on_ok_weaker c.end_map.result (λ ended. (_, _, c.in_ok-begin_map.ensures, (_, c.in_ok-write_place.ensures, c.in_ok-write_place-2.ensures), ended)) c.end_map.ensures
