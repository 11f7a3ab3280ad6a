-- What a calling program can know before it writes a directory, and the words that the laws of operations want then.
use Rattle.std.specs.Prelude.{List, Some, [], false, length, suc, true, ℕ, ◌++◌, ◌-◌, ◌<◌, ◌∷◌, ◌≡◌}
use Rattle.laws_contents.specs.alto_words.specs.Fid.{is_directory, is_full_name, is_system}
use Rattle.laws_contents.specs.alto_words.specs.Names.{is_same_name, is_stored_name}
use Rattle.laws_contents.specs.alto_words.specs.declared.fid.Fid.{Fid}
use Rattle.laws_contents.specs.disk_records.specs.Packs.{Pack, sector_at}
use Rattle.laws_contents.specs.pack_model.specs.operations.Commands.{grown_claims, grown_label, grown_value}
use Rattle.laws_contents.specs.pack_model.specs.operations.Committing.{page_of_word}
use Rattle.laws_contents.specs.pack_model.specs.operations.Entering.{found_room}
use Rattle.laws_contents.specs.pack_model.specs.reading.Files.{lives, place}
use Rattle.laws_contents.specs.pack_model.specs.hints.Links.{dir_words}
use Rattle.laws_contents.specs.pack_model.specs.reading.Model.{dir_items, read_as}
use Rattle.laws_contents.specs.pack_model.specs.operations.PageWords.{entered_words, later, widening_bytes}
use Rattle.laws_contents.specs.pack_model.specs.operations.Rooms.{Room, find_room}
use Rattle.laws_contents.specs.pack_model.specs.reading.Sights.{sights}
use Rattle.laws_contents.specs.pack_model.specs.reading.SlotWords.{space_words}
use Rattle.laws_contents.specs.pack_model.specs.reading.Slots.{Item, all_words, entry_length, slots}
use Rattle.laws_contents.specs.pack_model.specs.reading.Slots.Item.{entry}
use Rattle.laws_contents.specs.pack_model.specs.states.Whole.{Whole}
use Rattle.laws_contents.specs.laws_record.specs.DirLaws.{Frees}
use Rattle.laws_contents.specs.laws_record.specs.EnterLaws.{MayEnter}
use Rattle.laws_operation.specs.NameLaws.{EntryWords, MayEnterAt, MayLeave, MayWiden, entry_room}
use Rattle.laws_operation.specs.FileWords.{CanGrow}

-- ---- enter
-- the words of an entry of a full name that can be given, under a stored name, with any address
abbrev pub EntryWordsFit : Type 0
EntryWordsFit = (f : Fid) (address : ℕ) (name : List ℕ) (left : ℕ) → is_full_name f ≡ true → is_stored_name name ≡ true → EntryWords f name left (entered_words f address name left)

-- the words that are left over in a room
abbrev pub left_in : Room → List ℕ → ℕ
left_in r name = r.total - entry_length (length name)

-- A living directory and a living file without an entry, which is no system file, and a stored name that isn't in the directory; the
-- room that was found for the entry; the sectors of the page where it begins, and of the next one where words lie over the page's end.
pub record CanEnter (p : Pack) (d : Fid) (name : List ℕ) (f : Fid) (r : Room) (words : List ℕ) (at next_at : ℕ) : Type 0 where
  pub directory : is_directory d ≡ true
  pub living : lives (sights p) d ≡ true
  pub no_system : is_system f ≡ false
  pub entry_is : MayEnter p d f name
  pub stored : is_stored_name name ≡ true
  pub found : find_room (entry_length (length name)) (dir_items (read_as p) d) ≡ Some r
  pub sector : place (sights p) d (page_of_word r.place) ≡ Some at
  pub next_sector : 0 < length (later r.place words) → place (sights p) d (suc (page_of_word r.place)) ≡ Some next_at

-- The directory's slots by that room: those before it, its own and those after it.
pub record EntersThere (p : Pack) (d : Fid) (name : List ℕ) (f : Fid) (r : Room) (words : List ℕ) (at next_at : ℕ) : Type 0 where
  pub before : List Item
  pub old : List Item
  pub behind : List Item
  pub may : MayEnterAt p d name f before old behind (left_in r name) words at next_at
  pub room : entry_room before old at next_at ≡ found_room r (dir_items (read_as p) d) at next_at

-- the words of the entry, with any address, and of a free slot for those left over may be entered in the room that was found
abbrev pub EnterWordsFit : Type 0
EnterWordsFit = (p : Pack) (d : Fid) (name : List ℕ) (f : Fid) (address : ℕ) (r : Room) (at next_at : ℕ) → let words : List ℕ = entered_words f address name (left_in r name) in
    CanEnter p d name f r words at next_at → EntersThere p d name f r words at next_at

-- ---- widen
-- the claim, and the label and the value of the old last page, where the new bytes are those of one free slot
abbrev pub WidenWordsFit : Type 0
WidenWordsFit = (p : Pack) (d : Fid) (b : ℕ) (past fresh : List ℕ) (at : ℕ) → Whole p → is_directory d ≡ true → CanGrow p d b widening_bytes past fresh at
    → MayWiden p d (space_words 256) (grown_claims p.shape d b at widening_bytes past fresh) at (grown_label p.shape b widening_bytes fresh (sector_at p at).label) (grown_value b widening_bytes past fresh (sector_at p at).value)

-- ---- leave, and the last value of a drop
-- An entry of a living directory, and the sector of its slot's first word.
pub record HasEntry (p : Pack) (d : Fid) (at : ℕ) (a b : List Item) (f : Fid) (own : List ℕ) : Type 0 where
  pub directory : is_directory d ≡ true
  pub living : lives (sights p) d ≡ true
  pub slots_are : slots (dir_words p d) ≡ a ++ entry f own ∷ b
  pub sector : place (sights p) d (page_of_word (all_words a)) ≡ Some at

-- its slot can be made free
abbrev pub SlotWordsFit : Type 0
SlotWordsFit = (p : Pack) (d : Fid) (at : ℕ) (a b : List Item) (f : Fid) (own : List ℕ) → HasEntry p d at a b f own → Frees p d at a (entry f own ∷ []) b

-- and it may leave, under this name in whatever case
abbrev pub LeaveWordsFit : Type 0
LeaveWordsFit = (p : Pack) (d : Fid) (name : List ℕ) (at : ℕ) (a b : List Item) (f : Fid) (own : List ℕ) → HasEntry p d at a b f own → is_same_name own name ≡ true → is_system f ≡ false → MayLeave p d name at a b f own
