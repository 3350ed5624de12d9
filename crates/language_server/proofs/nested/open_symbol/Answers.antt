use Rattle.std.proofs.lemmas.Result.{on_ok_weaker}
use Rattle.language_server.proofs.nested.open_symbol.Goals as goal

pub returns : goal.returns
returns g c = on_ok_weaker c.begin_seq.result (λ ended. (_, c.in_ok-begin_map.ensures, (_, c.in_ok-write_members.ensures, (_, c.in_ok-key_cased.ensures, ended)))) c.begin_seq.ensures
