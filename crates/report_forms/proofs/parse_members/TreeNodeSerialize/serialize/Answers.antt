use Rattle.std.proofs.lemmas.Result.{on_ok_weaker}
use Rattle.report_forms.proofs.parse_members.TreeNodeSerialize.serialize.Goals as goal

pub returns : goal.returns
returns g c = on_ok_weaker c.end_map.result (λ ended. (_, _, c.in_ok-begin_map.ensures, (_, c.in_ok-write_member.ensures, (_, c.in_ok-write_member-2.ensures, (_, c.in_ok-write_member-3.ensures, (_, c.in_ok-write_member-4.ensures, (_, c.in_ok-write_member-5.ensures, c.in_ok-write_member-6.ensures))))), ended)) c.end_map.ensures
