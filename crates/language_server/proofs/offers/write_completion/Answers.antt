use Rattle.std.proofs.lemmas.Result.{on_ok_weaker}
use Rattle.language_server.proofs.offers.write_completion.Goals as goal

pub returns : goal.returns
returns g c = on_ok_weaker c.end_map.result (λ ended. (_, c.in_ok-key_cased.ensures, (_, _, c.in_ok-begin_map.ensures, (_, c.in_ok-key_cased-2.ensures, (_, _, c.in_ok-begin_seq.ensures, c.in_ok-str.ensures, c.in_ok-end_seq.ensures)), ended))) c.end_map.ensures
