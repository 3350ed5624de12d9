use Rattle.std.proofs.lemmas.Result.{on_ok_weaker}
use Rattle.language_server.proofs.offers.write_begun.Goals as goal

pub returns : goal.returns
returns g c = on_ok_weaker c.end_map-3.result (λ ended. (_, c.in_ok-key_cased.ensures, (_, _, c.in_ok-begin_map.ensures, (_, (_, c.in_ok-key_cased-2.ensures, (_, _, c.in_ok-begin_map-2.ensures, (_, c.in_ok-write_basis.ensures, c.in_ok-write_offers.ensures), c.in_ok-end_map.ensures)), (_, c.in_ok-key_cased-3.ensures, (_, _, c.in_ok-begin_map-3.ensures, c.in_ok-write_member.ensures, c.in_ok-end_map-2.ensures))), ended))) c.end_map-3.ensures
