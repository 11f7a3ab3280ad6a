-- What the Scavenger leaves, and what it reports.
-- The Scavenger is that of the SOSP 1979 paper; its report is this project's choice.
use Rattle.std.specs.Prelude.{◌≡◌, ℕ, ◌+◌, ◌*◌, ◌/◌, ◌==◌, ◌&&◌, ◌||◌, true, Bool, cond, not, max, List, [], ◌∷◌, length}
use Rattle.std.specs.FinMap.{entries}
use Rattle.disk_records.specs.alto_words.specs.declared.fid.Fid.{Fid}
use Rattle.disk_records.specs.alto_words.specs.Fid.{serial_of, disk_descriptor}
use Rattle.disk_records.specs.declared.shape.Shape.{Shape}
use Rattle.disk_records.specs.Addresses.{disks_of, cylinders_of}
use Rattle.disk_records.specs.Words.{word}
use Rattle.disk_records.specs.Packs.{Pack}
use Rattle.pack_model.specs.reading.Sights.{Sight, sights}
use Rattle.pack_model.specs.reading.Files.{numbered, lives, file_bytes}
use Rattle.pack_model.specs.reading.Bodies.{File, found}
use Rattle.pack_model.specs.reading.Model.{IsNamed, read_as, descriptor_words, last_serial}
use Rattle.pack_model.specs.showing.View.{view}
use Rattle.pack_model.specs.showing.Settling.{show, given_names}
use Rattle.pack_model.specs.states.Whole.{Tidy}
use Rattle.pack_model.specs.states.Sentences.{PagesWhole}
use Rattle.pack_model.specs.states.Sound.{Sound, Clean}
use Rattle.pack_model.specs.states.InUse.{available, is_available, is_free_sight, free_sector_count, bad_sectors, how_many}
use Rattle.pack_model.specs.hints.Links.{PageLinks, LinksTrue}
use Rattle.pack_model.specs.hints.Tables.{HintsTrue}
use Rattle.pack_model.specs.scavenger.Needed.{needed}

-- ---- the report, all counts over the pack at entry
-- The living files at the end; the sectors that are freed; the bad ones; the files that get a name, the system files aside.
pub record Report : Type 0 where
  pub files : ℕ
  pub freed : ℕ
  pub bad : ℕ
  pub adopted : ℕ

-- the available sectors that aren't free
abbrev pub freed_sectors : Shape → List Sight → ℕ
freed_sectors shape ss = how_many (λ e. is_available shape ss e && not (is_free_sight e.1)) (numbered 0 ss)

-- how many nameless files get a name
abbrev pub adopted_files : Pack → ℕ
adopted_files p = length (given_names (view (read_as p)).names (entries (view (read_as p)).files))

-- the files that it shows, and the two system files
abbrev pub report_of : Pack → Report
report_of p = record {
  files = length (entries (show p).files) + 2;
  freed = freed_sectors p.shape (sights p);
  bad = bad_sectors (sights p);
  adopted = adopted_files p;
}

-- ---- the last serial that it writes
-- the words of the map of so many drives with the cylinders of this shape
abbrev pub map_words : ℕ → Shape → ℕ
map_words drives shape = (drives * cylinders_of shape * 24 + 15) / 16

-- DiskDescriptor has the length and says the shape of so many drives with these cylinders
abbrev pub says_drives : ℕ → Shape → List ℕ → List ℕ → Bool
says_drives drives shape bytes words =
    length bytes == 32 + 2 * map_words drives shape
    && word words 0 == drives && word words 1 == cylinders_of shape && word words 2 == 2 && word words 3 == 12
    && word words 8 == map_words drives shape

-- that of the old descriptor, whether or not it lives, where its length and its words are right for this shape, or for one drive with as
-- many cylinders
abbrev pub old_serial : Shape → List ℕ → List ℕ → ℕ
old_serial shape bytes words = cond (says_drives (disks_of shape) shape bytes words || says_drives 1 shape bytes words) (last_serial words) 0

abbrev pub greatest_serial : List (Fid × File) → ℕ
greatest_serial [] = 0
greatest_serial (e ∷ es) = max (serial_of e.0) (greatest_serial es)

-- the greatest of that and of those of the files that live in the end
abbrev pub mended_serial : Pack → ℕ
mended_serial p =
    max (old_serial p.shape (file_bytes (sights p) disk_descriptor) (descriptor_words (sights p)))
    (max (serial_of disk_descriptor) (greatest_serial (entries (found (sights p)))))

-- ---- what it leaves
-- the pages are mended: after the sweep, SysDir's leader, ends of directories, last pages, links and leader names
pub record PagesMended (p : Pack) : Type 0 where
  pub pages : PagesWhole p.shape (sights p)
  pub links : PageLinks p

-- the names are mended: after unkept slots, missing entries and addresses
pub record NamesMended (p : Pack) : Type 0 where
  pub pages : PagesWhole p.shape (sights p)
  pub links : LinksTrue p
  pub tidy : Tidy p
  pub named : (f : Fid) → lives (sights p) f ≡ true → IsNamed (read_as p) f

-- A scavenge of p is done and has left q.
pub record Scavenged (p q : Pack) : Type 0 where
  pub sound : Sound q
  pub clean : Clean q
  pub hints : HintsTrue q
  pub shown : show q ≡ show p
  pub last : (read_as q).last ≡ mended_serial p
  pub free : free_sector_count (sights q) + needed p.shape (sights p) ≡ available p.shape (sights p)
