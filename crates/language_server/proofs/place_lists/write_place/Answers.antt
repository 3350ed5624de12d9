use Rattle.std.proofs.lemmas.Result.{on_ok_weaker}
use Rattle.language_server.proofs.place_lists.write_place.Goals as goal

pub returns : goal.returns
returns g c = on_ok_weaker c.end_map.result (λ ended. (_, c.in_ok-key_cased.ensures, (_, _, c.in_ok-begin_map.ensures, (_, (_, c.in_ok-key_cased-2.ensures, c.in_ok-u64.ensures), (_, c.in_ok-key_cased-3.ensures, c.in_ok-u64-2.ensures)), ended))) c.end_map.ensures
