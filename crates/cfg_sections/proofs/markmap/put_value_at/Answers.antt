use Rattle.std.proofs.Common.{Option, Some, unwrap_or, ap, ◌∙◌}
use Rattle.std.specs.BTreeMap.{insert_entry}
use Rattle.cfg_sections.specs.declared.markmap.Slot.{Slot}
use Rattle.cfg_sections.specs.MarkMaps.{blank}
use Rattle.cfg_sections.proofs.MarkMapEntries.{set_there}
use Rattle.cfg_sections.proofs.markmap.put_value_at.Goals as goal

pub returns-clause-entries : goal.returns-clause-entries
returns-clause-entries g c =
    let cmp = g.K.Ord.cmp in
    let es = c.args.slots.now.entries in
    let put : Slot g.row.V.Denot = record { value = Some c.args.value; marks = c.in-Some.slot.now.marks } in
    (c.get_mut.follows.holds put).0
    ∙ (set_there cmp g.met.K.Ord.total es c.args.key.now put c.get_mut.ensures.ordered c.requires
    ∙ ap (λ (o : Option (Slot g.row.V.Denot)). insert_entry cmp es c.args.key.now (record { value = Some c.args.value; marks = (unwrap_or o blank).marks })) c.in-Some.ensures.value)
