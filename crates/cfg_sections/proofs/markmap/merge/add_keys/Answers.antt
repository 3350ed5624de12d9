use Rattle.std.proofs.Common.{sym}
use Rattle.cfg_sections.specs.MarkMaps.{blank}
use Rattle.cfg_sections.proofs.MarkMapMerges.{room_added, room_there}
use Rattle.cfg_sections.proofs.MarkMapRoom.{left_out, put_in}
use Rattle.cfg_sections.proofs.markmap.merge.add_keys.Goals as goal

pub returns-in_err-insert-clause-added : goal.returns-in_err-insert-clause-added
returns-in_err-insert-clause-added g c =
    left_out g.K.Ord.cmp c.args.slots.now.entries c.keys.slots.entries c.insert.new.self.entries c.keys.added.items c.push.new.self.items c.in-Some.key
    (sym c.if-not-contains_key.ensures) c.in_ok-push.ensures.items c.in_err-insert.ensures.err c.keys.invariant.added

pub keys-preserved-then-not-contains_key : goal.keys-preserved-then-not-contains_key
keys-preserved-then-not-contains_key g c =
    let same = c.requires.clones c.in-Some.key.now c.in_ok-again.again c.in_ok-again.ensures.cases in
    let r = room_added g.K.Ord.cmp g.met.K.Ord.total blank c.args.slots.now c.keys.slots c.insert.new.self c.args.wanted.now c.in-Some.key.now c.in_ok-again.again c.keys.key-iterator c.next.new.self
    same (sym c.if-not-contains_key.ensures) (rw c.blank_slot.ensures at c.in_ok-insert.ensures.updates.0) c.in-Some.ensures.steps
    (record { same = c.keys.invariant.same; room = c.keys.invariant.room }) in
    record {
      same = r.same;
      room = r.room;
      added = put_in g.K.Ord.cmp g.met.K.Ord.total c.args.slots.now.entries c.keys.slots.entries c.insert.new.self.entries c.keys.added.items c.push.new.self.items c.in-Some.key c.in_ok-again.again c.blank_slot.result
          same (sym c.if-not-contains_key.ensures) c.in_ok-push.ensures.items c.in_ok-insert.ensures.entries c.keys.invariant.added;
    }

pub keys-preserved : goal.keys-preserved
keys-preserved g c =
    let r = room_there g.K.Ord.cmp g.met.K.Ord.total blank c.args.slots.now c.keys.slots c.args.wanted.now c.in-Some.key.now c.keys.key-iterator c.next.new.self
    (sym c.if-not-contains_key.ensures) c.in-Some.ensures.steps (record { same = c.keys.invariant.same; room = c.keys.invariant.room }) in
    record { same = r.same; room = r.room; added = c.keys.invariant.added }
