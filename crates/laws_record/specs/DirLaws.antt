-- Record writes of the words of a directory, on any pack: what becomes of its slots, and of what is read and viewed.
use Rattle.std.specs.Prelude.{Contains, List, Some, [], drop, false, get_or, length, min, suc, take, true, ℕ, ◌*◌, ◌++◌, ◌+◌, ◌/◌, ◌<◌, ◌∷◌, ◌≡◌, ◌≤◌}
use Rattle.pack_laws.specs.alto_words.specs.Fid.{is_directory, is_system}
use Rattle.pack_laws.specs.alto_words.specs.declared.fid.Fid.{Fid}
use Rattle.pack_laws.specs.disk_records.specs.Labels.{is_free, page_of, tag}
use Rattle.pack_laws.specs.disk_records.specs.Packs.{Pack, carried, sector_at}
use Rattle.pack_laws.specs.disk_records.specs.Words.{word}
use Rattle.pack_laws.specs.disk_records.specs.declared.records.Page.{Page}
use Rattle.pack_laws.specs.pack_model.specs.reading.Bytes.{put_at}
use Rattle.pack_laws.specs.pack_model.specs.reading.Files.{lives, place}
use Rattle.pack_laws.specs.pack_model.specs.hints.HintWords.{IsAddressWord}
use Rattle.pack_laws.specs.pack_model.specs.states.InUse.{in_use}
use Rattle.pack_laws.specs.pack_model.specs.hints.Links.{dir_slots, dir_words}
use Rattle.pack_laws.specs.pack_model.specs.reading.Model.{dir_items, read_as}
use Rattle.pack_laws.specs.pack_model.specs.reading.Namings.{namings_in}
use Rattle.pack_laws.specs.pack_model.specs.operations.PageWords.{in_page}
use Rattle.pack_laws.specs.pack_model.specs.operations.Rooms.{most_free}
use Rattle.pack_laws.specs.pack_model.specs.reading.Sights.{sights}
use Rattle.pack_laws.specs.pack_model.specs.reading.Sights.Sight.{hidden}
use Rattle.pack_laws.specs.pack_model.specs.reading.SlotWords.{SlotAt}
use Rattle.pack_laws.specs.pack_model.specs.reading.Slots.{Item, all_words, entry_length, first_length, item_words, slot_of, slots}
use Rattle.pack_laws.specs.pack_model.specs.reading.Slots.Item.{entry, space}
use Rattle.laws_record.specs.QuietLaws.{ReadsSame, Relation, with_label, with_value}
use Rattle.laws_record.specs.ViewLaws.{ViewsSame}

-- ---- words of a directory are written
-- New words in the place of others, within one page of a living directory, from a word of it on.
pub record DirWrite (p : Pack) (d : Fid) (w at : ℕ) (new : List ℕ) : Type 0 where
  pub directory : is_directory d ≡ true
  pub lives : lives (sights p) d ≡ true
  pub sector : place (sights p) d (w / 256 + 1) ≡ Some at
  pub some : 0 < length new
  pub one_page : in_page w + length new ≤ 256
  pub within : w + length new ≤ length (dir_words p d)

-- the pack with them
abbrev pub dir_written : Pack → ℕ → ℕ → List ℕ → Pack
dir_written p w at new = with_value p at (put_at (in_page w) new (sector_at p at).value)

-- ---- words that say nothing
-- A word inside a free slot, or an entry's address.
pub data IsLooseWord (p : Pack) (d : Fid) (k : ℕ) : Type 0 where
  in_space : (s : SlotAt) (n : ℕ) → Contains (dir_slots p d) s → s.item ≡ space n → s.place < k → k < s.place + n → IsLooseWord p d k
  of_address : IsAddressWord p d k → IsLooseWord p d k

-- other words in their place
abbrev pub LooseWords : Relation → Type 0
LooseWords Kept = (p : Pack) (d : Fid) (w at : ℕ) (new : List ℕ) → DirWrite p d w at new → ((k : ℕ) → w ≤ k → k < w + length new → IsLooseWord p d k) → Kept p (dir_written p w at new)

-- ---- slots are made free
-- Slots in a row become one free slot: its first word says their length.
pub record Frees (p : Pack) (d : Fid) (at : ℕ) (a old b : List Item) : Type 0 where
  pub slots_are : slots (dir_words p d) ≡ a ++ (old ++ b)
  pub some : 0 < all_words old
  pub most : all_words old ≤ most_free
  pub write : DirWrite p d (all_words a) at (all_words old ∷ [])

abbrev pub freed : Pack → ℕ → List Item → List Item → Pack
freed p at a old = dir_written p (all_words a) at (all_words old ∷ [])

-- free slots are made one
abbrev pub FreeSlotsMadeOne : Type 0
FreeSlotsMadeOne = (p : Pack) (d : Fid) (at : ℕ) (a old b : List Item) → Frees p d at a old b → namings_in d old ≡ [] → ViewsSame p (freed p at a old)

-- an entry that isn't kept: in the model its slot is a free one
abbrev pub IsUnkept : Pack → Fid → ℕ → Item → Type 0
IsUnkept p d k i = get_or (dir_items (read_as p) d) k i ≡ space (item_words i)

-- its slot is made free
abbrev pub SlotThatIsNotKept : Type 0
SlotThatIsNotKept = (p : Pack) (d : Fid) (at : ℕ) (a b : List Item) (f : Fid) (name : List ℕ) → Frees p d at a (entry f name ∷ []) b → IsUnkept p d (length a) (entry f name) → ReadsSame p (freed p at a (entry f name ∷ []))

-- ---- an entry
-- An entry in the place of a free slot, and a free slot for the words left over. Where its words lie over a page's end, those of
-- the later page stand there already.
pub record Enters (p : Pack) (d : Fid) (at : ℕ) (new : List ℕ) (a b : List Item) (f : Fid) (name : List ℕ) (left : ℕ) : Type 0 where
  pub slots_are : slots (dir_words p d) ≡ a ++ space (entry_length (length name) + left) ∷ b
  pub write : DirWrite p d (all_words a) at new
  pub extent : length new ≤ entry_length (length name) + min left 1
  pub entry_is : slot_of (take (entry_length (length name)) (drop (all_words a) (put_at (all_words a) new (dir_words p d)))) ≡ Some (entry f name)
  pub first_is : first_length (drop (all_words a) (put_at (all_words a) new (dir_words p d))) ≡ entry_length (length name)
  pub left_is : 0 < left → word (put_at (all_words a) new (dir_words p d)) (all_words a + entry_length (length name)) ≡ left

abbrev pub entered : Pack → ℕ → List Item → List ℕ → Pack
entered p at a new = dir_written p (all_words a) at new

-- the entry of a system file, wherever it is
abbrev pub EntryOfASystemFile : Type 0
EntryOfASystemFile = (p : Pack) (d : Fid) (at : ℕ) (new : List ℕ) (a b : List Item) (f : Fid) (name : List ℕ) (left : ℕ) → Enters p d at new a b f name left → is_system f ≡ true → ViewsSame p (entered p at a new)

-- ---- the end of a directory
-- a label that counts fewer bytes of one of its pages, so that its bytes end with its slots
abbrev pub CutAtSlots : Relation → Type 0
CutAtSlots Kept = (p : Pack) (d : Fid) (at n : ℕ) (label : List ℕ) → is_directory d ≡ true → place (sights p) d (suc n) ≡ Some at → page_of label ≡ Some (record { fid = d; number = suc n }) → (tag label).bytes < 512 → 512 * n + (tag label).bytes ≡ all_words (slots (dir_words p d)) * 2 → Kept p (with_label p at label)

-- ---- pages that aren't in use
-- a free label in the place of one that isn't in use and whose page no other sector carries
abbrev pub UnusedRelease : Relation → Type 0
UnusedRelease Kept = (p : Pack) (at : ℕ) (page : Page) (label : List ℕ) → carried p at ≡ Some page → in_use p.shape (sights p) (at, get_or (sights p) at hidden) ≡ false → ((j : ℕ) → carried p j ≡ Some page → j ≡ at) → is_free (tag label) ≡ true → Kept p (with_label p at label)
