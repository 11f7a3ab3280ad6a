-- The operations on the slots of directories: leave, widen and enter.
use Rattle.std.specs.Prelude.{List, Some, [], false, get_or, length, min, suc, take, true, ℕ, ◌++◌, ◌+◌, ◌<◌, ◌∷◌, ◌≡◌, ◌≤◌}
use Rattle.laws_contents.specs.alto_words.specs.Fid.{is_directory, is_system}
use Rattle.laws_contents.specs.alto_words.specs.Names.{is_same_name}
use Rattle.laws_contents.specs.alto_words.specs.declared.fid.Fid.{Fid}
use Rattle.laws_contents.specs.disk_records.specs.Commands.{value_writes}
use Rattle.laws_contents.specs.disk_records.specs.Labels.{page_of, tag}
use Rattle.laws_contents.specs.disk_records.specs.Packs.{Pack, sector_at}
use Rattle.laws_contents.specs.disk_records.specs.Words.{word}
use Rattle.laws_contents.specs.pack_model.specs.reading.Bytes.{bytes_of}
use Rattle.laws_contents.specs.pack_model.specs.operations.Commands.{Claim, Claimable, all_claimed}
use Rattle.laws_contents.specs.pack_model.specs.operations.Committing.{page_of_byte, page_of_word}
use Rattle.laws_contents.specs.pack_model.specs.operations.Entering.{EntryRoom, entry_value, values_first}
use Rattle.laws_contents.specs.pack_model.specs.reading.Files.{file_bytes, lives, place}
use Rattle.laws_contents.specs.pack_model.specs.reading.Model.{dir_items, read_as}
use Rattle.laws_contents.specs.pack_model.specs.operations.Operations.{enter_writes, grow_writes}
use Rattle.laws_contents.specs.pack_model.specs.operations.PageWords.{freed_value, later, page_number}
use Rattle.laws_contents.specs.pack_model.specs.operations.Rooms.{find_room, run}
use Rattle.laws_contents.specs.pack_model.specs.reading.Sights.{sights}
use Rattle.laws_contents.specs.pack_model.specs.reading.Slots.{IsSlot, Item, all_words, entry_length, item_words}
use Rattle.laws_contents.specs.pack_model.specs.reading.Slots.Item.{entry, space}
use Rattle.laws_contents.specs.pack_model.specs.operations.Step.Operation.{enter, leave, widen}
use Rattle.laws_contents.specs.pack_model.specs.states.Whole.{IsLaid, Tidy, Whole}
use Rattle.laws_contents.specs.laws_record.specs.DirLaws.{Frees}
use Rattle.laws_contents.specs.laws_record.specs.EnterLaws.{MayEnter}
use Rattle.laws_contents.specs.laws_record.specs.QuietLaws.{counted_of}
use Rattle.laws_operation.specs.ByteLaws.{together}
use Rattle.laws_operation.specs.Outcomes.{CarriesOut, IsSeenAs}

-- ---- leave
-- An entry under this name, in whatever case, of a file that isn't a system file, and the sector of its slot's first word.
pub record MayLeave (p : Pack) (d : Fid) (name : List ℕ) (at : ℕ) (a b : List Item) (f : Fid) (own : List ℕ) : Type 0 where
  pub frees : Frees p d at a (entry f own ∷ []) b
  pub same : is_same_name own name ≡ true
  pub no_system : is_system f ≡ false

-- the value in which its slot is a free one is the leaving
abbrev pub LeaveCarriesOut : Type 0
LeaveCarriesOut = (p : Pack) (d : Fid) (name : List ℕ) (at : ℕ) (a b : List Item) (f : Fid) (own : List ℕ) → Whole p → Tidy p → MayLeave p d name at a b f own
    → CarriesOut p (value_writes at (freed_value (all_words a) (item_words (entry f own)) (sector_at p at).value)) (leave d name)

-- ---- widen
-- A page more for a directory: as where a file grows, by these words, which are a free slot of 256 words.
pub record MayWiden (p : Pack) (d : Fid) (added : List ℕ) (claims : List Claim) (at : ℕ) (label value : List ℕ) : Type 0 where
  pub directory : is_directory d ≡ true
  pub sector : place (sights p) d (page_of_byte (length (file_bytes (sights p) d))) ≡ Some at
  pub claimable : Claimable (sights p) d (page_of_byte (length (file_bytes (sights p) d))) claims
  pub kept : counted_of p at value ≡ counted_of p at (sector_at p at).value
  pub page : page_of label ≡ Some (page_number d (page_of_byte (length (file_bytes (sights p) d))))
  pub laid : IsLaid ((at, take (tag label).bytes (bytes_of value)) ∷ all_claimed claims)
  pub bytes : take (tag label).bytes (bytes_of value) ++ together (all_claimed claims) ≡ counted_of p at (sector_at p at).value ++ bytes_of added
  pub slot : IsSlot added (space 256)

-- the record writes of that growth are the widening
abbrev pub WidenCarriesOut : Type 0
WidenCarriesOut = (p : Pack) (d : Fid) (added : List ℕ) (claims : List Claim) (at : ℕ) (label value : List ℕ) → Whole p → Tidy p → MayWiden p d added claims at label value → CarriesOut p (grow_writes claims at label value) (widen d)

-- ---- enter
-- the room's slots are these, and no others
pub record IsRoom (n : ℕ) (is a old b : List Item) : Type 0 where
  pub split : is ≡ a ++ (old ++ b)
  pub found : find_room n is ≡ Some (record { first = length a; place = all_words a; total = all_words old })
  pub run_is : run n (old ++ b) ≡ Some (all_words old, b)
  pub most : all_words old ≤ 1023

-- The words that are written: those of the entry, under a stored name, and where words are left over the first one of a free slot for
-- them.
pub record EntryWords (f : Fid) (name : List ℕ) (left : ℕ) (words : List ℕ) : Type 0 where
  pub short : length name ≤ 39
  pub size : length words ≡ entry_length (length name) + min left 1
  pub slot : IsSlot (take (entry_length (length name)) words) (entry f name)
  pub left_is : 0 < left → word words (entry_length (length name)) ≡ left

-- A file without an entry and a name that isn't in the directory; the first room for the entry; the words; the sectors of the page
-- where the room begins, and of the next one where the words lie over the page's end.
pub record MayEnterAt (p : Pack) (d : Fid) (name : List ℕ) (f : Fid) (a old b : List Item) (left : ℕ) (words : List ℕ) (at next_at : ℕ) : Type 0 where
  pub directory : is_directory d ≡ true
  pub living : lives (sights p) d ≡ true
  pub no_system : is_system f ≡ false
  pub entry_is : MayEnter p d f name
  pub room : IsRoom (entry_length (length name)) (dir_items (read_as p) d) a old b
  pub total : all_words old ≡ entry_length (length name) + left
  pub words_are : EntryWords f name left words
  pub sector : place (sights p) d (page_of_word (all_words a)) ≡ Some at
  pub next_sector : 0 < length (later (all_words a) words) → place (sights p) d (suc (page_of_word (all_words a))) ≡ Some next_at

-- where the entry goes
abbrev pub entry_room : List Item → List Item → ℕ → ℕ → EntryRoom
entry_room a old at next_at = record { place = all_words a; first_words = item_words (get_or old 0 (space 0)); total = all_words old; at = at; next_at = next_at }

-- these values, in order, are the entering
abbrev pub EnterCarriesOut : Type 0
EnterCarriesOut = (p : Pack) (d : Fid) (name : List ℕ) (f : Fid) (a old b : List Item) (left : ℕ) (words : List ℕ) (at next_at : ℕ) → Whole p → Tidy p → MayEnterAt p d name f a old b left words at next_at
    → IsSeenAs p (enter_writes (values_first p (entry_room a old at next_at) words) at (entry_value p (entry_room a old at next_at) words)) (enter d name f)
