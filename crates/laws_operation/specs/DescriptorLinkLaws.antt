-- Links that were true are true at every crash of the values of DiskDescriptor.
use Rattle.std.specs.Prelude.{Bool, List, Some, ℕ, ◌≡◌, ◌≤◌}
use Rattle.laws_contents.specs.alto_words.specs.Fid.{disk_descriptor}
use Rattle.laws_contents.specs.disk_records.specs.Packs.{Pack, crash, sector_at}
use Rattle.laws_contents.specs.pack_model.specs.sessions.Descriptor.{close_writes, open_writes, serial_writes}
use Rattle.laws_contents.specs.pack_model.specs.reading.Files.{place}
use Rattle.laws_contents.specs.pack_model.specs.hints.Links.{LinksTrue}
use Rattle.laws_contents.specs.pack_model.specs.reading.Model.{read_as}
use Rattle.laws_contents.specs.pack_model.specs.reading.Sights.{sights}
use Rattle.laws_contents.specs.pack_model.specs.states.Sound.{mark_of}
use Rattle.laws_contents.specs.pack_model.specs.states.Whole.{Tidy, Whole}
use Rattle.laws_operation.specs.DescriptorLaws.{MayClose}
use Rattle.laws_operation.specs.LinkLaws.{KeepsLinks}

-- the mark is opened
abbrev pub OpenKeepsLinks : Type 0
OpenKeepsLinks = (p : Pack) (at : ℕ) → Whole p → Tidy p → place (sights p) disk_descriptor 1 ≡ Some at → KeepsLinks p (open_writes (mark_of (sights p)) at (sector_at p at).value)

-- a new serial
abbrev pub SerialKeepsLinks : Type 0
SerialKeepsLinks = (p : Pack) (at last : ℕ) → Whole p → Tidy p → place (sights p) disk_descriptor 1 ≡ Some at → (read_as p).last ≤ last → KeepsLinks p (serial_writes at last (sector_at p at).value)

-- closing, at every crash
abbrev pub CloseKeepsLinks : Type 0
CloseKeepsLinks = (p : Pack) (busy : List Bool) (pages : List ℕ) (k : ℕ) → Whole p → Tidy p → MayClose p pages → LinksTrue p → LinksTrue (crash p (close_writes (mark_of (sights p)) p.shape (read_as p).last busy pages) k)
