-- The entry of a key in a map with marks.
use Rattle.std.specs.Prelude.{◌≡◌, Bool, true, false, Result}
use Rattle.std.specs.Borrow.{LendsSoOk, RestsIfErr, Fml, RattleType, MutBor}
use Rattle.std.specs.declared.cmp.Ord as ord
use Rattle.std.specs.declared.cmp.PartialEq as eq
use Rattle.std.specs.declared.cmp.PartialOrd as partial
use Rattle.std.specs.declared.cmp.Ordering.TheVariants.{Equal}
use Rattle.cfg_sections.specs.declared.markmap.entries.Entry.{Entry}
use Rattle.cfg_sections.specs.declared.markmap.entries.Entry.TheVariants.{Occupied, Vacant}
use Rattle.cfg_sections.specs.declared.markmap.entries.OccupiedEntry.{OccupiedEntry}
use Rattle.cfg_sections.specs.declared.markmap.entries.VacantEntry.{VacantEntry}
use Rattle.cfg_sections.specs.contracts.markmap.MarkMap.{the_row}
use Rattle.cfg_sections.specs.MarkMaps.{Marked, map_with}

module _ {K V : Type 0} {g : ord.Ghosts K} {g' : eq.Ghosts K} {g'' : partial.Ghosts K} where
  -- the map that an entry borrows, and its key
  abbrev pub occupied_map : OccupiedEntry K V g g' g'' → Marked K V
  occupied_map e = e.map.now

  abbrev pub occupied_key : OccupiedEntry K V g g' g'' → K
  occupied_key e = e.key

  abbrev pub vacant_map : VacantEntry K V g g' g'' → Marked K V
  vacant_map e = e.map.now

  abbrev pub vacant_key : VacantEntry K V g g' g'' → K
  vacant_key e = e.key

  -- the reference to the map
  abbrev pub entry_map_ref : Entry K V g g' g'' → MutBor (Marked K V)
  entry_map_ref (Occupied e) = e.map
  entry_map_ref (Vacant e) = e.map

  abbrev pub entry_key : Entry K V g g' g'' → K
  entry_key (Occupied e) = e.key
  entry_key (Vacant e) = e.key

  abbrev pub is_occupied : Entry K V g g' g'' → Bool
  is_occupied (Occupied e) = true
  is_occupied (Vacant e) = false

  -- an entry of the same key of the same map
  pub record IsSameEntry (old new : OccupiedEntry K V g g' g'') : Type 0 where
    pub map : new.map.ghost_name ≡ old.map.ghost_name
    pub key : new.key ≡ old.key

  pub record IsSameVacant (old new : VacantEntry K V g g' g'') : Type 0 where
    pub map : new.map.ghost_name ≡ old.map.ghost_name
    pub key : new.key ≡ old.key

  -- the map behind the new entry is the old one's with the value w at its key
  pub record Fills (old : VacantEntry K V g g' g'') (w : V) (new : OccupiedEntry K V g g' g'') : Type 0 where
    pub map : new.map.ghost_name ≡ old.map.ghost_name
    pub key : g.cmp old.key new.key ≡ Equal
    pub after : new.map.now ≡ map_with g.cmp old.map.now old.key w

module _ (K V : RattleType) {g : ord.Ghosts K.Denot} {g' : eq.Ghosts K.Denot} {g'' : partial.Ghosts K.Denot} where
  -- once the borrow r ends, the map has the last value written through r at the key, and after an error it is as it was
  abbrev pub lends_filled : {E : Type 0} → VacantEntry K.Denot V.Denot g g' g'' → Result (MutBor V.Denot) E → Fml
  lends_filled e r = LendsSoOk (the_row K V g g' g'') V e.map r (λ n w. n ≡ map_with g.cmp e.map.now e.key w) (λ n. n ≡ e.map.now)

  -- the new entry holds the borrow, and after an error the map is as it was
  abbrev pub rests_if_refused : {E : Type 0} → VacantEntry K.Denot V.Denot g g' g'' → Result (OccupiedEntry K.Denot V.Denot g g' g'') E → Fml
  rests_if_refused e r = RestsIfErr (the_row K V g g' g'') e.map (λ o. o.map.ghost_name) r (λ n. n ≡ e.map.now)
