use Rattle.std.proofs.Common.{refl, ap, Some}
use Rattle.std.specs.Ordering.{is_eq}
use Rattle.cfg_sections.specs.MarkMaps.{marks_at, value_at}
use Rattle.cfg_sections.proofs.MarkMapEntries.{filled, found_value}
use Rattle.cfg_sections.proofs.markmap.entries.VacantEntry.insert.Goals as goal

pub returns : goal.returns
returns g c =
    let put = c.in_ok-kept.ensures in
    let kept = c.in_ok-kept.kept in
    let same = put.key in (
      (
        refl,
        (λ w some. filled g.K.Ord.cmp g.met.K.Ord.total c.args.self.map.now c.put_value.new.self (c.value_mut.follows.lender w) c.args.self.key kept
            (record { value = Some c.args.value; marks = marks_at g.K.Ord.cmp c.args.self.map.now c.args.self.key }) w
            same put.entries put.ok.default (put.ok.marks kept) (rw c.in-Some.is at (c.value_mut.follows.holds w))),
        tt,
      ),
      record {
        writes_back = tt;
        value = found_value (is_eq (g.K.Ord.cmp c.args.self.key kept)) c.in-Some.value.now c.args.value (value_at g.K.Ord.cmp c.put_value.new.self kept) (value_at g.K.Ord.cmp c.args.self.map.now kept) c.in-Some.ensures.value (put.ok.value kept) (ap is_eq same);
        in_place = λ stored. refl;
      },
    )
