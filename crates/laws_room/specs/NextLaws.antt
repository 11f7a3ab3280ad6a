-- Record writes of directories when entries are entered: what a scavenge keeps, and which entries are lacking then.
use Rattle.std.specs.FinMap.{entries}
use Rattle.std.specs.List.{list_any}
use Rattle.std.specs.Prelude.{List, None, Some, [], false, get_or, length, suc, true, ℕ, ◌++◌, ◌+◌, ◌/◌, ◌∷◌, ◌≡◌, ◌≤◌}
use Rattle.laws_operation.specs.alto_words.specs.Fid.{sys_dir}
use Rattle.laws_operation.specs.alto_words.specs.declared.fid.Fid.{Fid}
use Rattle.laws_operation.specs.disk_records.specs.Labels.{page_of}
use Rattle.laws_operation.specs.disk_records.specs.Packs.{Pack}
use Rattle.laws_operation.specs.pack_model.specs.reading.Files.{file_bytes, lives, place}
use Rattle.laws_operation.specs.pack_model.specs.hints.Links.{dir_words}
use Rattle.laws_operation.specs.pack_model.specs.scavenger.Mended.{lacking, mended, with_system}
use Rattle.laws_operation.specs.pack_model.specs.reading.Model.{Model, dir_items, root_items}
use Rattle.laws_operation.specs.pack_model.specs.reading.Namings.{clashes, fits, namings, namings_in}
use Rattle.laws_operation.specs.pack_model.specs.operations.Rooms.{find_room, placed}
use Rattle.laws_operation.specs.pack_model.specs.reading.Sights.{sights}
use Rattle.laws_operation.specs.pack_model.specs.reading.Slots.{Item, SlotsReachEnd, all_words, entry_length, item_words, slots}
use Rattle.laws_operation.specs.pack_model.specs.reading.Slots.Item.{entry, space}
use Rattle.laws_room.specs.KeepLaws.{KeepsAside, KeepsWithRoot}
use Rattle.laws_record.specs.DirLaws.{Enters, Frees, entered, freed}
use Rattle.laws_record.specs.QuietLaws.{with_label}

-- the files as the Scavenger will find them when it enters names
abbrev pub mended_pack : Pack → Model
mended_pack p = mended p.shape (sights p)

-- this entry is lacking next, and then these are
abbrev pub LackingNext : Pack → Fid → List ℕ → List (Fid × List ℕ) → Type 0
LackingNext p f name rest = lacking (mended_pack p) ≡ (f, name) ∷ rest

-- these are lacking
abbrev pub Lacking : Pack → List (Fid × List ℕ) → Type 0
Lacking p todo = lacking (mended_pack p) ≡ todo

-- ---- an entry that isn't kept
-- it goes, where neither file and name nor the living files keep it, both system files taken for living
abbrev pub SlotThatIsNotKeptKeeps : Type 0
SlotThatIsNotKeptKeeps = (p : Pack) (d : Fid) (at : ℕ) (a b : List Item) (f : Fid) (name : List ℕ) → Frees p d at a (entry f name ∷ []) b → get_or (dir_items (mended_pack p) d) (length a) (entry f name) ≡ space (item_words (entry f name)) → KeepsAside p (freed p at a (entry f name ∷ []))

-- ---- the next entry
-- Its file lives, or is a system file; it fits, and neither the file nor the name stands anywhere.
pub record MayBeEntered (p : Pack) (f : Fid) (name : List ℕ) : Type 0 where
  pub lives : with_system (lives (sights p)) f ≡ true
  pub fits : fits (record { dir = sys_dir; name = name; fid = f }) ≡ true
  pub apart : list_any (clashes (record { dir = sys_dir; name = name; fid = f })) (namings (entries (mended_pack p).files)) ≡ false

-- it comes in its room
abbrev pub NextEntryKeeps : Type 0
NextEntryKeeps = (p : Pack) (at : ℕ) (new : List ℕ) (a b : List Item) (f : Fid) (name : List ℕ) (left : ℕ) (rest : List (Fid × List ℕ)) → let q : Pack = entered p at a new in
    Enters p sys_dir at new a b f name left → LackingNext p f name rest → MayBeEntered p f name
    → find_room (entry_length (length name)) (root_items (mended_pack p)) ≡ Some (record { first = length a; place = all_words a; total = entry_length (length name) + left })
    → KeepsAside p q × Lacking q rest

-- ---- room for it
-- free slots of SysDir are made one, and the next entry is placed as before
abbrev pub FreeSlotsMadeOneKeeps : Type 0
FreeSlotsMadeOneKeeps = (p : Pack) (at : ℕ) (a old b : List Item) (f : Fid) (name : List ℕ) (rest : List (Fid × List ℕ)) (then : List Item) → let q : Pack = freed p at a old in
    Frees p sys_dir at a old b → namings_in sys_dir old ≡ [] → LackingNext p f name rest
    → placed (entry f name) (root_items (mended_pack p)) ≡ Some then → placed (entry f name) (root_items (mended_pack q)) ≡ Some then
    → KeepsAside p q × LackingNext q f name rest

-- SysDir gets one free slot of 256 words more, where the next entry has no room
abbrev pub MoreRoomKeeps : Type 0
MoreRoomKeeps = (p : Pack) (at : ℕ) (label fresh : List ℕ) (f : Fid) (name : List ℕ) (rest : List (Fid × List ℕ)) → let b : ℕ = length (file_bytes (sights p) sys_dir) in let q : Pack = with_label p at label in
    lives (sights p) sys_dir ≡ true → place (sights p) sys_dir (suc (b / 512)) ≡ Some at → page_of label ≡ Some (record { fid = sys_dir; number = suc (b / 512) })
    → SlotsReachEnd (file_bytes (sights p) sys_dir) → dir_words q sys_dir ≡ dir_words p sys_dir ++ fresh → slots fresh ≡ space 256 ∷ []
    → LackingNext p f name rest → placed (entry f name) (root_items (mended_pack p)) ≡ None → entry_length (length name) ≤ 256
    → KeepsWithRoot p q × LackingNext q f name rest
