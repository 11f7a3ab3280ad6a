-- DiskDescriptor's words are written once pages and names are mended.
use Rattle.std.specs.Prelude.{◌≡◌, ℕ, suc, ◌<◌, ◌≤◌, true, Bool, List, get_or, length, reverse, Some}
use Rattle.laws_room.specs.alto_words.specs.declared.fid.Fid.{Fid}
use Rattle.laws_room.specs.alto_words.specs.Fid.{disk_descriptor, serial_of}
use Rattle.laws_room.specs.disk_records.specs.Packs.{Pack, after}
use Rattle.laws_room.specs.pack_model.specs.hints.Tables.{HintsTrue, free_table}
use Rattle.laws_room.specs.pack_model.specs.operations.Commands.{values_writes}
use Rattle.laws_room.specs.pack_model.specs.reading.Files.{lives, place}
use Rattle.laws_room.specs.pack_model.specs.reading.Model.{read_as}
use Rattle.laws_room.specs.pack_model.specs.reading.Sights.{sights}
use Rattle.laws_room.specs.pack_model.specs.scavenger.Reports.{NamesMended}
use Rattle.laws_room.specs.pack_model.specs.sessions.Descriptor.{closed_values, data_pages}
use Rattle.laws_room.specs.pack_model.specs.states.Sound.{Clean, Sound}
use Rattle.laws_lookup.specs.HintLaws.{HasFullValues}

-- Of p names are mended. These are the sectors of DiskDescriptor's data pages, no living serial is above this last one, and these sectors are
-- busy that aren't free.
pub record MayBeDescribed (p : Pack) (last : ℕ) (busy : List Bool) (pages : List ℕ) : Type 0 where
  pub named : NamesMended p
  pub full : HasFullValues p
  pub size : length pages ≡ data_pages p.shape
  pub bears : (n : ℕ) → n < length pages → place (sights p) disk_descriptor (suc n) ≡ Some (get_or pages n 0)
  pub serials : (f : Fid) → lives (sights p) f ≡ true → serial_of f ≤ last
  pub map_is : busy ≡ free_table p

-- The pack q is sound and clean, all its hints are true, and it is read as p with this last serial.
pub record IsDescribedSound (p q : Pack) (last : ℕ) : Type 0 where
  pub sound : Sound q
  pub clean : Clean q
  pub hints : HintsTrue q
  pub read : read_as q ≡ record (read_as p) { last = last }

-- so it is once the values of these pages are written, from the last to the first, whatever stood in them
abbrev pub DescribedIsSound : Type 0
DescribedIsSound = (p : Pack) (last : ℕ) (busy : List Bool) (pages : List ℕ) → MayBeDescribed p last busy pages → IsDescribedSound p (after p (values_writes (reverse (closed_values p.shape last busy 0 pages)))) last
