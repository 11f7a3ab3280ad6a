-- The files of a pack whose pages are mended, as the Scavenger finds them when it enters names: those that the pack is read as.
use Rattle.std.specs.Prelude.{◌≡◌, ◌++◌, ◌∷◌, [], ℕ, true, Bool, List, cond, get_or, length}
use Rattle.std.specs.FinMap.{entries}
use Rattle.laws_mend.specs.alto_words.specs.declared.fid.Fid.{Fid}
use Rattle.laws_mend.specs.alto_words.specs.Fid.{is_directory}
use Rattle.laws_mend.specs.disk_records.specs.Packs.{Pack}
use Rattle.laws_mend.specs.pack_model.specs.hints.Links.{dir_words}
use Rattle.laws_mend.specs.pack_model.specs.reading.Bodies.{File, found}
use Rattle.laws_mend.specs.pack_model.specs.reading.Files.{lives}
use Rattle.laws_mend.specs.pack_model.specs.reading.Model.{dir_items, read_as}
use Rattle.laws_mend.specs.pack_model.specs.reading.Namings.{Naming, is_kept, items_kept, kept_after, kept_after_body, namings}
use Rattle.laws_mend.specs.pack_model.specs.reading.Sights.{sights}
use Rattle.laws_mend.specs.pack_model.specs.reading.Slots.{Item, item_words, slots}
use Rattle.laws_mend.specs.pack_model.specs.reading.Slots.Item.{entry, space}
use Rattle.laws_mend.specs.pack_model.specs.scavenger.Mended.{lacking, rooted, with_system}
use Rattle.laws_mend.specs.pack_model.specs.scavenger.Reports.{PagesMended}
use Rattle.laws_mend.specs.pack_model.specs.showing.View.{view}
use Rattle.laws_mend.specs.pack_model.specs.states.Whole.{Tidy}
use Rattle.laws_mend.specs.laws_room.specs.NextLaws.{mended_pack}

-- ---- what is read
-- The model is the one that the pack is read as, with another leader of SysDir, which counts nowhere: it has the same slots of each
-- directory and the same entries, the same is lacking, and it is viewed the same.
pub record IsMendedRead (p : Pack) : Type 0 where
  pub model : mended_pack p ≡ record (read_as p) { files = rooted (read_as p).files }
  pub items_are : (d : Fid) → dir_items (mended_pack p) d ≡ dir_items (read_as p) d
  pub names_are : namings (entries (mended_pack p).files) ≡ namings (entries (read_as p).files)
  pub lacking_is : lacking (mended_pack p) ≡ lacking (read_as p)
  pub viewed : view (mended_pack p) ≡ view (read_as p)

abbrev pub MendedIsRead : Type 0
MendedIsRead = (p : Pack) → PagesMended p → IsMendedRead p

-- both system files live, so that they needn't be taken for living
abbrev pub MendedLives : Type 0
MendedLives = (p : Pack) → PagesMended p → with_system (lives (sights p)) ≡ lives (sights p)

-- ---- slots
-- the entries that are kept once these files are passed, the newest first
abbrev pub kept_past : (List Naming → Naming → Bool) → List Naming → List (Fid × File) → List Naming
kept_past ok before [] = before
kept_past ok before (e ∷ es) = kept_past ok (kept_after_body ok e.0 before e.1.body) es

-- the slots of a living directory are those that the scan leaves after all living files before it
abbrev pub MendedSlots : Type 0
MendedSlots = (p : Pack) (d : Fid) (front back : List (Fid × File)) (x : File) → PagesMended p → is_directory d ≡ true → entries (found (sights p)) ≡ front ++ (d, x) ∷ back
    → dir_items (mended_pack p) d ≡ items_kept (is_kept (lives (sights p))) d (kept_past (is_kept (lives (sights p))) [] front) (slots (dir_words p d))

-- so an entry is kept if and only if the scan keeps it after them and after the slots before it
abbrev pub MendedSlot : Type 0
MendedSlot = (p : Pack) (d : Fid) (front back : List (Fid × File)) (x : File) (a b : List Item) (f : Fid) (name : List ℕ) → PagesMended p → is_directory d ≡ true → entries (found (sights p)) ≡ front ++ (d, x) ∷ back → slots (dir_words p d) ≡ a ++ entry f name ∷ b
    → get_or (dir_items (mended_pack p) d) (length a) (entry f name)
    ≡ cond (is_kept (lives (sights p)) (kept_after (is_kept (lives (sights p))) d (kept_past (is_kept (lives (sights p))) [] front) a) (record { dir = d; name = name; fid = f })) (entry f name) (space (item_words (entry f name)))

-- each slot of every living directory is kept
abbrev pub AreAllKept : Pack → Type 0
AreAllKept p = (d : Fid) → lives (sights p) d ≡ true → is_directory d ≡ true → dir_items (mended_pack p) d ≡ slots (dir_words p d)

-- then the pack is tidy, and the other way round
abbrev pub AllKeptIsTidy : Type 0
AllKeptIsTidy = (p : Pack) → PagesMended p → AreAllKept p → Tidy p

abbrev pub TidyMendedIsRead : Type 0
TidyMendedIsRead = (p : Pack) → PagesMended p → Tidy p → AreAllKept p
