-- What a mending of all pages says.
use Rattle.std.specs.Prelude.{◌≡◌, ℕ, ◌<◌, ◌+◌, ◌∷◌, [], Bool, true, false, cond, length, Result, Ok, Err, IfOk, IsErrOf}
use Rattle.alto_words.specs.Fid.{is_directory, is_system, sys_dir}
use Rattle.alto_words.specs.declared.fid.Fid.{Fid}
use Rattle.disk_records.specs.Packs.{Pack}
use Rattle.disk_records.specs.Tapes.{Taped, pack, added}
use Rattle.pack_model.specs.hints.Links.{dir_words}
use Rattle.pack_model.specs.reading.Files.{lives}
use Rattle.pack_model.specs.reading.Leaders.{Leader}
use Rattle.pack_model.specs.reading.Sights.{sights}
use Rattle.pack_model.specs.reading.Slots.Item.{space}
use Rattle.pack_model.specs.reading.Slots.{slots}
use Rattle.pack_model.specs.scavenger.Reports.{PagesMended, adopted_files, freed_sectors}
use Rattle.pack_model.specs.scavenger.Scavenging.{Keeps, Throughout, Unmarked}
use Rattle.pack_model.specs.states.Sound.{Clean}
use Rattle.scav_table.specs.declared.errors.SweepError.{SweepError}
use Rattle.scav_table.specs.declared.errors.SweepError.TheVariants.{DiskFault, Memory}
use Rattle.scav_pages.specs.Changes.{AllChange}
use Rattle.scav_pages.specs.Fresh.{fresh_leader, own_name}
use Rattle.scav_pages.specs.Keeping.{Leads}
use Rattle.scav_pages.specs.declared.errors.Stop.{Stop}
use Rattle.scav_pages.specs.declared.errors.Stop.TheVariants as stop

-- The pages of q are mended. So many sectors of p were available and not free, q gives names to as many files, and as many sectors are
-- available less those needed. Each directory has the slots that it had, and SysDir, if it is made, one free slot of 255 words. Each
-- leader page says what it said, except that one whose name couldn't be read has its file's own; that of a system file that is made is new.
pub record AreMended (p q : Pack) (freed : ℕ) : Type 0 where
  pub mended : PagesMended q
  pub freed_is : freed ≡ freed_sectors p.shape (sights p)
  pub adopted : adopted_files q ≡ adopted_files p
  pub keeps : Keeps p q
  pub slots_are : (d : Fid) → lives (sights p) d ≡ true → is_directory d ≡ true → slots (dir_words q d) ≡ slots (dir_words p d)
  pub root : lives (sights p) sys_dir ≡ false → slots (dir_words q sys_dir) ≡ space 255 ∷ []
  pub leaders : (f : Fid) (readable : Bool) (l : Leader) → Leads p f readable l → Leads q f true (cond readable l (record l { name = own_name f }))
  pub fresh : (f : Fid) → is_system f ≡ true → lives (sights p) f ≡ false → Leads q f true (fresh_leader f)

-- At Ok the pages are mended. It is out of memory only where the disk has no room for three more record writes. Whatever the answer, each
-- crash point keeps what a scavenge keeps, and where the pack had no clean mark none is clean, and it has none in the end; each record write
-- changes what stands.
pub record MendsPages (old new : Taped) (result : Result ℕ SweepError) : Type 0 where
  pub mended : IfOk result (AreMended (pack old) (pack new))
  pub want : IsErrOf result Memory → old.spare < length (added old new) + 3
  pub kept : Throughout (Keeps (pack old)) (pack old) (added old new)
  pub unclean : Unmarked (pack old) → Throughout (λ q. Clean q → ⊥) (pack old) (added old new)
  pub unmarked : Unmarked (pack old) → Unmarked (pack new)
  pub changes : AllChange (pack old) (added old new)

-- what a mending that may stop answers, with no word for going astray: that is out of memory here
abbrev pub as_swept : Result ℕ Stop → Result ℕ SweepError
as_swept (Ok freed) = Ok freed
as_swept (Err stop.DiskFault) = Err DiskFault
as_swept (Err stop.Memory) = Err Memory
as_swept (Err stop.Astray) = Err Memory

-- The same of a mending that may stop: it never goes astray.
pub record MendsOrStops (old new : Taped) (result : Result ℕ Stop) : Type 0 where
  pub mends : MendsPages old new (as_swept result)
  pub found : IsErrOf result stop.Astray → ⊥
