-- The numbers of a pack, and those of some of its files.
use Rattle.std.specs.Prelude.{◌≡◌, ℕ, ◌+◌, ◌-◌, ◌&&◌, ◌||◌, Bool, true, false, cond, not, max, min, List, length, get_or, Option, Some, None}
use Rattle.std.specs.FinMap.{entries}
use Rattle.std.specs.List.{filter}
use Rattle.std.specs.Option.{option_map_or}
use Rattle.alto_words.specs.declared.fid.Fid.{Fid}
use Rattle.alto_words.specs.Fid.{is_fid, is_system, serial_of, sys_dir, disk_descriptor}
use Rattle.disk_records.specs.declared.records.Page.{Page}
use Rattle.disk_records.specs.Packs.{Pack, carried}
use Rattle.scav_names.specs.laws_room.specs.CountLaws.{count_placed}
use Rattle.pack_model.specs.reading.Bodies.{File, found}
use Rattle.pack_model.specs.reading.Files.{lives, numbered, place}
use Rattle.pack_model.specs.reading.Sights.{sights}
use Rattle.pack_model.specs.reading.Sights.Sight.{hidden}
use Rattle.pack_model.specs.scavenger.Needed.{files_lack, needed, root_widens}
use Rattle.pack_model.specs.scavenger.Reports.{greatest_serial, mended_serial}
use Rattle.pack_model.specs.scavenger.Scavenging.{root_stands}
use Rattle.pack_model.specs.showing.Settling.{show}
use Rattle.pack_model.specs.states.InUse.{counts, how_many, in_use, is_good, one_if}
use Rattle.scav_pages.specs.declared.directory.Directory.{Directory}
use Rattle.scav_pages.specs.Directories.{IsReadTo}
use Rattle.scav_pages.specs.Walks.{IsLeft, file_in_hand}
use Rattle.scav_table.specs.declared.row.Row.{Row}
use Rattle.scavenger.specs.declared.counts.Counts.{Counts}
use Rattle.scavenger.specs.Descriptors.{mark_sector, old_serial_of}
use Rattle.scavenger.specs.InUse.{is_root, takes_of}

-- ---- all files
-- The sectors in use; those that are needed, except the pages that SysDir gets more; the files that live in the end; the last serial that is
-- written; whether sector 1, if its header is right, is in use by another page than SysDir's leader; the sector of the mark.
pub record Counted (p : Pack) (counts : Counts) : Type 0 where
  pub in_use_is : counts.in_use ≡ how_many (in_use p.shape (sights p)) (numbered 0 (sights p))
  pub needed_is : counts.needed + root_widens p.shape (sights p) ≡ needed p.shape (sights p)
  pub files : counts.files ≡ length (entries (show p).files) + 2
  pub last : counts.last ≡ mended_serial p
  pub taken : is_good (get_or (sights p) 1 hidden) ≡ true → not counts.taken ≡ root_stands p.shape (sights p) (get_or (sights p) 1 hidden)
  pub mark : counts.mark_at ≡ mark_sector p

-- ---- those files whose rows were met
-- the living ones among them
abbrev pub living : Pack → (Fid → Bool) → List (Fid × File)
living p met = filter (λ e. met e.0) (entries (found (sights p)))

-- a count of 32 bits stands at its end
abbrev pub capped : ℕ → ℕ
capped n = min n 4294967295

-- the page in sector 1 is one of these files, is in use, and isn't SysDir's leader
abbrev pub takes_first : Pack → (Fid → Bool) → Bool
takes_first p met = option_map_or (λ page. met page.fid && (counts p.shape (sights p) page.fid page.number && not (is_root page))) (carried p 1) false

-- the same numbers, of these alone
pub record CountsTo (p : Pack) (met : Fid → Bool) (counts : Counts) : Type 0 where
  pub in_use_is : counts.in_use ≡ capped (count_placed p.shape (sights p) (living p met))
  pub needed_is : counts.needed ≡ capped (files_lack p.shape (sights p) (living p met))
  pub files : counts.files ≡ capped (how_many (λ e. not (is_system e.0)) (living p met))
  pub last : counts.last ≡ max (cond (met disk_descriptor) (old_serial_of p) 0) (greatest_serial (living p met))
  pub taken : counts.taken ≡ takes_first p met
  pub root : counts.root ≡ (met sys_dir && lives (sights p) sys_dir)

-- every file that lives was met, and DiskDescriptor if it has any page
abbrev pub MetAll : Pack → (Fid → Bool) → Type 0
MetAll p met = ((f : Fid) → lives (sights p) f ≡ true → met f ≡ true) × (met disk_descriptor ≡ false → place (sights p) disk_descriptor 1 ≡ None)

-- of all of them
pub record CountsAll (p : Pack) (counts : Counts) : Type 0 where
  pub met : Fid → Bool
  pub all : MetAll p met
  pub counts_to : CountsTo p met counts

-- none of them
abbrev pub none_met : Fid → Bool
none_met f = false

-- ---- one file more
-- the numbers, once a living file is counted, whose last page in use has this number, and of whose pages up to it so many are carried by no
-- sector
pub record Adds (first : Option Page) (f : Fid) (last lacks : ℕ) (old new : Counts) : Type 0 where
  pub in_use_is : new.in_use ≡ capped (old.in_use + (last + 1 - lacks))
  pub needed_is : new.needed ≡ capped (old.needed + lacks)
  pub files : new.files ≡ capped (old.files + one_if (not (is_system f)))
  pub last_is : new.last ≡ max old.last (serial_of f)
  pub taken : new.taken ≡ (old.taken || takes_of first f last)
  pub root : new.root ≡ (old.root || is_fid f sys_dir)

-- the file in hand, no more rows of which come
pub record IsLeftAt (p : Pack) (dir : Directory) : Type 0 where
  pub last : Option Row
  pub read : IsReadTo p last dir
  pub left : IsLeft p last dir.walk

abbrev pub or_in_hand : (Fid → Bool) → Option Fid → Fid → Bool
or_in_hand met None f = met f
or_in_hand met (Some g) f = met f || is_fid f g

abbrev pub CountsFiles : Pack → Directory → Counts → Counts → Type 0
CountsFiles p dir old new = (met : Fid → Bool) → ((f : Fid) → file_in_hand dir.walk ≡ Some f → met f ≡ false) → CountsTo p met old → CountsTo p (or_in_hand met (file_in_hand dir.walk)) new
