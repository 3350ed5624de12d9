use Rattle.std.proofs.lemmas.Result.{on_ok_weaker}
use Rattle.language_server.proofs.offers.write_basis.Goals as goal

pub returns : goal.returns
returns g c = on_ok_weaker c.write_member-3.result (λ ended. (_, c.in_ok-write_encoding.ensures, (_, (_, c.in_ok-key_cased.ensures, (_, _, c.in_ok-begin_map.ensures, (_, c.in_ok-write_member.ensures, c.in_ok-write_member-2.ensures), c.in_ok-end_map.ensures)), ended))) c.write_member-3.ensures
