use Rattle.std.proofs.lemmas.Result.{on_ok_weaker}
use Rattle.language_server.proofs.offers.write_grammars.Goals as goal

pub returns : goal.returns
returns g c = on_ok_weaker c.write_member-6.result (λ ended. (_, c.in_ok-write_member.ensures, (_, c.in_ok-write_member-2.ensures, (_, c.in_ok-write_member-3.ensures, (_, c.in_ok-write_member-4.ensures, (_, (_, c.in_ok-key_cased.ensures, (_, _, c.in_ok-begin_map.ensures, c.in_ok-write_member-5.ensures, c.in_ok-end_map.ensures)), (_, c.in_ok-write_completion.ensures, ended))))))) c.write_member-6.ensures
