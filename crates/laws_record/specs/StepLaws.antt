-- Record writes that are operations, on any pack: what is read afterwards is the step.
use Rattle.std.specs.FinMap.{entries}
use Rattle.std.specs.List.{list_any}
use Rattle.std.specs.Prelude.{◌%◌, ◌*◌, ◌++◌, ◌+◌, ◌/◌, ◌<◌, ◌∷◌, ◌≡◌, ◌≤◌, List, None, Some, [], drop, false, length, suc, true, ℕ}
use Rattle.pack_laws.specs.alto_words.specs.Fid.{disk_descriptor, is_directory, is_fid, serial_of}
use Rattle.pack_laws.specs.alto_words.specs.declared.fid.Fid.{Fid}
use Rattle.pack_laws.specs.disk_records.specs.Labels.{is_free, page_of, tag}
use Rattle.pack_laws.specs.disk_records.specs.Packs.{Pack, after, carried, is_free_at, sector_at}
use Rattle.pack_laws.specs.disk_records.specs.declared.records.Event.TheVariants.{Wrote}
use Rattle.pack_laws.specs.pack_model.specs.reading.Bodies.{body_of, described}
use Rattle.pack_laws.specs.pack_model.specs.reading.Files.{file_bytes, leader, lives, place}
use Rattle.pack_laws.specs.pack_model.specs.reading.Leaders.{leader_of}
use Rattle.pack_laws.specs.pack_model.specs.hints.Links.{dir_words}
use Rattle.pack_laws.specs.pack_model.specs.reading.Model.{read_as}
use Rattle.pack_laws.specs.pack_model.specs.reading.Namings.{namings}
use Rattle.pack_laws.specs.pack_model.specs.operations.Puts.{Put, WritesValue}
use Rattle.pack_laws.specs.pack_model.specs.reading.Sights.{sights}
use Rattle.pack_laws.specs.pack_model.specs.reading.Slots.{Item, SlotsReachEnd, slots}
use Rattle.pack_laws.specs.pack_model.specs.reading.Slots.Item.{entry, space}
use Rattle.pack_laws.specs.pack_model.specs.operations.Step.{new_body, new_leader, step}
use Rattle.pack_laws.specs.pack_model.specs.operations.Step.Operation.{cut, drop_file, grow, leave, make, put, stamp, title, widen}
use Rattle.pack_laws.specs.pack_model.specs.states.Whole.{Tidy}
use Rattle.laws_record.specs.DirLaws.{Frees, freed}
use Rattle.pack_laws.specs.PutLaws.{StaysWithin}
use Rattle.laws_record.specs.QuietLaws.{with_label, with_value}

-- ---- ordinary files
-- It lives, it is no directory, and it isn't DiskDescriptor.
pub record LivesOrdinary (p : Pack) (f : Fid) : Type 0 where
  pub lives : lives (sights p) f ≡ true
  pub ordinary : is_directory f ≡ false
  pub described : is_fid f disk_descriptor ≡ false

-- a value within a page, and within the file's length
abbrev pub PutIsTheStep : Type 0
PutIsTheStep = (p : Pack) (at part : ℕ) (words : List ℕ) (write : Put) → LivesOrdinary p write.fid → StaysWithin p write → WritesValue p at part words write → read_as (after p (Wrote at part words ∷ [])) ≡ step (read_as p) (put write.fid write.offset write.bytes)

-- the label of the page that becomes the last, where it counts no more bytes than the file has there
abbrev pub CutIsTheStep : Type 0
CutIsTheStep = (p : Pack) (at n : ℕ) (f : Fid) (label : List ℕ) → LivesOrdinary p f → place (sights p) f (suc n) ≡ Some at → page_of label ≡ Some (record { fid = f; number = suc n }) → (tag label).bytes < 512 → 512 * n + (tag label).bytes ≤ length (file_bytes (sights p) f)
    → read_as (with_label p at label) ≡ step (read_as p) (cut f (512 * n + (tag label).bytes))

-- the bytes that are after those of a file before
abbrev pub more_bytes : Pack → Pack → Fid → List ℕ
more_bytes p q f = drop (length (file_bytes (sights p) f)) (file_bytes (sights q) f)

-- the label of the last page, where it counts no fewer bytes than before: those that come are its new ones, and those of the pages
-- that are claimed after it
abbrev pub GrowIsTheStep : Type 0
GrowIsTheStep = (p : Pack) (at : ℕ) (f : Fid) (label : List ℕ) → let b : ℕ = length (file_bytes (sights p) f) in let q : Pack = with_label p at label in
    LivesOrdinary p f → place (sights p) f (suc (b / 512)) ≡ Some at → page_of label ≡ Some (record { fid = f; number = suc (b / 512) }) → b % 512 ≤ (tag label).bytes → read_as q ≡ step (read_as p) (grow f (more_bytes p q f))

-- ---- leaders
-- a leader's value with another name, of any file but DiskDescriptor
abbrev pub TitleIsTheStep : Type 0
TitleIsTheStep = (p : Pack) (at : ℕ) (f : Fid) (name value : List ℕ) → place (sights p) f 0 ≡ Some at → is_fid f disk_descriptor ≡ false → leader_of f value ≡ record (leader_of f (sector_at p at).value) { name = name } → read_as (with_value p at value) ≡ step (read_as p) (title f name)

-- with another written date
abbrev pub StampIsTheStep : Type 0
StampIsTheStep = (p : Pack) (at : ℕ) (f : Fid) (moment : ℕ) (value : List ℕ) → place (sights p) f 0 ≡ Some at → is_fid f disk_descriptor ≡ false → leader_of f value ≡ record (leader_of f (sector_at p at).value) { written = moment } → read_as (with_value p at value) ≡ step (read_as p) (stamp f moment)

-- ---- directories
-- the label of its last page, after which the words of the directory have a free slot of 256 words more, whatever stands in it; its
-- slots reached its end
abbrev pub WidenIsTheStep : Type 0
WidenIsTheStep = (p : Pack) (at : ℕ) (d : Fid) (label fresh : List ℕ) → let b : ℕ = length (file_bytes (sights p) d) in let q : Pack = with_label p at label in
    is_directory d ≡ true → lives (sights p) d ≡ true → place (sights p) d (suc (b / 512)) ≡ Some at → page_of label ≡ Some (record { fid = d; number = suc (b / 512) }) → SlotsReachEnd (file_bytes (sights p) d) → dir_words q d ≡ dir_words p d ++ fresh → slots fresh ≡ space 256 ∷ []
    → read_as q ≡ step (read_as p) (widen d)

-- the value in which the slot of an entry becomes free, where every entry is kept
abbrev pub LeaveIsTheStep : Type 0
LeaveIsTheStep = (p : Pack) (d : Fid) (at : ℕ) (a b : List Item) (f : Fid) (name : List ℕ) → Tidy p → Frees p d at a (entry f name ∷ []) b → read_as (freed p at a (entry f name ∷ [])) ≡ step (read_as p) (leave d name)

-- ---- a new file
-- no entry names the file
abbrev pub IsUnnamed : Pack → Fid → Type 0
IsUnnamed p f = list_any (λ n. is_fid n.fid f) (namings (entries (described (sights p)))) ≡ false

-- the label of a leader on a free sector: its file has none yet, its serial is the last one given out, its first page is claimed, and
-- no entry names it
pub record Makes (p : Pack) (at : ℕ) (f : Fid) (name : List ℕ) (moment : ℕ) (label : List ℕ) : Type 0 where
  pub is_free : is_free_at p at ≡ true
  pub names : page_of label ≡ Some (record { fid = f; number = 0 })
  pub described : is_fid f disk_descriptor ≡ false
  pub headless : leader (sights p) f ≡ None
  pub last : (read_as p).last ≡ serial_of f
  pub leader_is : leader_of f (sector_at p at).value ≡ new_leader name moment
  pub body_is : body_of f (file_bytes (sights p) f) ≡ new_body f
  pub unnamed : IsUnnamed p f

abbrev pub MakeIsTheStep : Type 0
MakeIsTheStep = (p : Pack) (at : ℕ) (f : Fid) (name : List ℕ) (moment : ℕ) (label : List ℕ) → Makes p at f name moment label → read_as (with_label p at label) ≡ step (read_as p) (make f name moment)

-- ---- a file goes
-- a free label in the place of the only leader of a file, where every entry is kept
abbrev pub DropIsTheStep : Type 0
DropIsTheStep = (p : Pack) (at : ℕ) (f : Fid) (label : List ℕ) → Tidy p → is_fid f disk_descriptor ≡ false → carried p at ≡ Some (record { fid = f; number = 0 }) → ((j : ℕ) → carried p j ≡ Some (record { fid = f; number = 0 }) → j ≡ at) → is_free (tag label) ≡ true
    → read_as (with_label p at label) ≡ step (read_as p) (drop_file f)
