use Rattle.std.specs.Prelude.{◌≤◌, map, take}
use Rattle.lrtable.specs.Fronts.{front_of}
use Rattle.lrtable.specs.Opening.{Comes, NamedIn, BroughtBy, room}
use Rattle.lrtable.proofs.opening.Opening.bring_all.Given as goal

abbrev pub invariant-openers : goal.invariant-openers
invariant-openers l = record {
  comes : Comes (NamedIn (map front_of (take l.opener-index l.reached))) (BroughtBy l.looks.bits (map front_of (take l.opener-index l.reached))) l.initial.self l.self;
  fewer : room l.self ≤ room l.initial.self;
}
