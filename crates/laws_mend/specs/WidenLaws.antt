-- A directory gets a page more while names are mended: pages are mended, but the pack isn't whole yet.
use Rattle.std.specs.Prelude.{◌≡◌, ◌≢◌, ◌++◌, ◌+◌, ◌*◌, ◌/◌, ◌%◌, ◌≤◌, ◌∷◌, [], ℕ, suc, true, false, List, length, replicate, take, Some, None}
use Rattle.laws_room.specs.alto_words.specs.declared.fid.Fid.{Fid}
use Rattle.laws_room.specs.alto_words.specs.Fid.{is_directory, is_fid, sys_dir}
use Rattle.laws_room.specs.disk_records.specs.declared.records.Event.{Event}
use Rattle.laws_room.specs.disk_records.specs.Addresses.{real_of}
use Rattle.laws_room.specs.disk_records.specs.Commands.{claim_writes}
use Rattle.laws_room.specs.disk_records.specs.Labels.{label_of, page_of}
use Rattle.laws_room.specs.disk_records.specs.Packs.{Pack, after, is_free_at, sector_at}
use Rattle.laws_room.specs.disk_records.specs.Words.{word}
use Rattle.laws_room.specs.pack_model.specs.hints.Links.{dir_slots, dir_words, no_link}
use Rattle.laws_room.specs.pack_model.specs.operations.Commands.{grown_claims, grown_label, grown_value}
use Rattle.laws_room.specs.pack_model.specs.operations.Committing.{page_of_byte}
use Rattle.laws_room.specs.pack_model.specs.operations.Operations.{grow_writes}
use Rattle.laws_room.specs.pack_model.specs.operations.PageWords.{filled, page_number, widening_bytes}
use Rattle.laws_room.specs.pack_model.specs.operations.Rooms.{placed}
use Rattle.laws_room.specs.pack_model.specs.reading.Files.{file_bytes, leader, place}
use Rattle.laws_room.specs.pack_model.specs.reading.Model.{root_items}
use Rattle.laws_room.specs.pack_model.specs.reading.Sights.{sights}
use Rattle.laws_room.specs.pack_model.specs.reading.SlotWords.{space_words}
use Rattle.laws_room.specs.pack_model.specs.reading.Slots.{all_words, entry_length, slots}
use Rattle.laws_room.specs.pack_model.specs.reading.Slots.Item.{entry, space}
use Rattle.laws_room.specs.pack_model.specs.scavenger.Reports.{PagesMended}
use Rattle.laws_room.specs.pack_model.specs.states.Whole.{Tidy}
use Rattle.laws_room.specs.laws_operation.specs.FileWords.{CanGrow}
use Rattle.laws_lookup.specs.OwnLaws.{ReplacesSlots}
use Rattle.laws_room.specs.NextLaws.{LackingNext, mended_pack}
use Rattle.laws_mend.specs.Tending.{AllTends}

-- ---- what a caller knows
-- the number of a file's last page, by its bytes
abbrev pub last_number : Pack → Fid → ℕ
last_number p f = page_of_byte (length (file_bytes (sights p) f))

-- A directory; the sector of its last page, with a value of 256 words; and a free sector. On a mended pack it lives, since no page of any
-- other file is carried.
pub record CanWiden (p : Pack) (d : Fid) (at fresh : ℕ) : Type 0 where
  pub directory : is_directory d ≡ true
  pub sector : place (sights p) d (last_number p d) ≡ Some at
  pub sized : length (sector_at p at).value ≡ 256
  pub free : is_free_at p fresh ≡ true

-- its widening, as a growth by the bytes of a free slot: the claim of the new page, and the old last page's value, label and value
abbrev pub widening_writes : Pack → Fid → ℕ → ℕ → List Event
widening_writes p d at fresh =
    let b : ℕ = length (file_bytes (sights p) d) in
    grow_writes (grown_claims p.shape d b at widening_bytes [] (fresh ∷ [])) at (grown_label p.shape b widening_bytes (fresh ∷ []) (sector_at p at).label) (grown_value b widening_bytes [] (fresh ∷ []) (sector_at p at).value)

-- ---- what it leaves
-- A directory has a page more, with which it ends: pages are mended as before, each other page has its place, each file its leader, each
-- other one its bytes, and each other sector its words. One free slot of 256 words comes after the directory's slots, so every entry is kept
-- if each was.
pub record DirectoryIsWidened (p q : Pack) (d : Fid) (at fresh : ℕ) : Type 0 where
  pub mended : PagesMended q
  pub leaders_are : (f : Fid) → leader (sights q) f ≡ leader (sights p) f
  pub here : place (sights q) d (suc (last_number p d)) ≡ Some fresh
  pub places_are : (f : Fid) (n : ℕ) → (f ≡ d → n ≡ suc (last_number p d) → ⊥) → place (sights q) f n ≡ place (sights p) f n
  pub others : (f : Fid) → is_fid f d ≡ false → file_bytes (sights q) f ≡ file_bytes (sights p) f
  pub sectors : (i : ℕ) → i ≢ at → i ≢ fresh → sector_at q i ≡ sector_at p i
  pub words_are : dir_words q d ≡ dir_words p d ++ space_words 256
  pub slots_are : ReplacesSlots p q d (slots (dir_words p d)) [] (space 256 ∷ []) []
  pub stand : dir_slots q d ≡ dir_slots p d ++ record { place = all_words (slots (dir_words p d)); item = space 256; address = 0 } ∷ []
  pub tidy : Tidy p → Tidy q

abbrev pub WideningKeepsPages : Type 0
WideningKeepsPages = (p : Pack) (d : Fid) (at fresh : ℕ) → PagesMended p → CanWiden p d at fresh → DirectoryIsWidened p (after p (widening_writes p d at fresh)) d at fresh

-- ---- who can widen
-- what is known of a growth by the bytes of a free slot is known of a widening
abbrev pub GrowthCanWiden : Type 0
GrowthCanWiden = (p : Pack) (d : Fid) (b : ℕ) (past : List ℕ) (at fresh : ℕ) → is_directory d ≡ true → CanGrow p d b widening_bytes past (fresh ∷ []) at → CanWiden p d at fresh

-- ---- its words
-- the labels of the new page and of the old last one, of a directory that ends at word w
abbrev pub new_label : Pack → Fid → ℕ → ℕ → List ℕ
new_label p d at w = label_of (page_number d (w / 256 + 2)) (2 * (w % 256)) no_link (real_of p.shape at)

abbrev pub old_label : Pack → Fid → ℕ → ℕ → ℕ → List ℕ
old_label p d at fresh w = label_of (page_number d (w / 256 + 1)) 512 (real_of p.shape fresh) (word (sector_at p at).label 1)

-- The new page has zeros, and the old one the free slot's first word from word w on, and zeros after it. Both labels are in range.
pub record WidensInWords (p : Pack) (d : Fid) (at fresh w : ℕ) : Type 0 where
  pub writes_are : widening_writes p d at fresh ≡ claim_writes fresh (new_label p d at w) (replicate 256 0) ++ claim_writes at (old_label p d at fresh w) (filled 256 (take (w % 256) (sector_at p at).value ++ 256 ∷ []))
  pub new_page : page_of (new_label p d at w) ≡ Some (page_number d (w / 256 + 2))
  pub old_page : page_of (old_label p d at fresh w) ≡ Some (page_number d (w / 256 + 1))

abbrev pub WideningInWords : Type 0
WideningInWords = (p : Pack) (d : Fid) (at fresh w : ℕ) → CanWiden p d at fresh → length (sector_at p at).label ≡ 8 → length (file_bytes (sights p) d) ≡ 2 * w → WidensInWords p d at fresh w

-- ---- of SysDir, where the next entry that is lacking has no room
-- its widening keeps at each crash point what a mending keeps, and leaves the same entries lacking
abbrev pub RootWideningTends : Type 0
RootWideningTends = (p : Pack) (at fresh : ℕ) (f : Fid) (name : List ℕ) (rest : List (Fid × List ℕ)) → PagesMended p → CanWiden p sys_dir at fresh
    → LackingNext p f name rest → placed (entry f name) (root_items (mended_pack p)) ≡ None → entry_length (length name) ≤ 256
    → AllTends p (widening_writes p sys_dir at fresh) × LackingNext (after p (widening_writes p sys_dir at fresh)) f name rest
