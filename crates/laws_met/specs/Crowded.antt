-- A small pack whose SysDir has two pages, and an entering there that goes over the end of the first.
use Rattle.std.specs.Prelude.{ℕ, zero, suc, ◌+◌, ◌≡◌, List, [], ◌∷◌, ◌++◌, codes, length, replicate, take, drop}
use Rattle.laws_steps.specs.alto_words.specs.declared.fid.Fid.{Fid}
use Rattle.laws_steps.specs.alto_words.specs.Fid.{disk_descriptor, ordinary_fid, sys_dir}
use Rattle.laws_steps.specs.disk_records.specs.Addresses.{real_of}
use Rattle.laws_steps.specs.disk_records.specs.Commands.{ones}
use Rattle.laws_steps.specs.disk_records.specs.Labels.{label_of}
use Rattle.laws_steps.specs.disk_records.specs.Packs.{Pack}
use Rattle.laws_steps.specs.pack_model.specs.hints.Links.{no_link}
use Rattle.laws_steps.specs.pack_model.specs.operations.Entering.{EntryRoom}
use Rattle.laws_steps.specs.pack_model.specs.operations.PageWords.{entered_words, later, leader_label, new_leader_value, page_number, page_value}
use Rattle.laws_steps.specs.pack_model.specs.operations.Rooms.{Room}
use Rattle.laws_steps.specs.pack_model.specs.operations.Step.Operation.{enter}
use Rattle.laws_steps.specs.pack_model.specs.reading.Bytes.{bytes_of}
use Rattle.laws_steps.specs.pack_model.specs.reading.Namings.{descriptor_name, sys_dir_name}
use Rattle.laws_steps.specs.pack_model.specs.reading.SlotWords.{entry_words, space_words}
use Rattle.laws_steps.specs.pack_model.specs.reading.Slots.{Item}
use Rattle.laws_steps.specs.pack_model.specs.reading.Slots.Item.{entry, space}
use Rattle.laws_steps.specs.pack_model.specs.sessions.Descriptor.{descriptor_text}
use Rattle.laws_steps.specs.pack_model.specs.sessions.Format.{with_headers}
use Rattle.laws_steps.specs.pack_model.specs.states.Sound.{mark_open}
use Rattle.laws_steps.specs.pack_model.specs.states.Whole.{Tidy, Whole}
use Rattle.laws_steps.specs.laws_operation.specs.DirectoryWords.{CanEnter}
use Rattle.laws_steps.specs.laws_call.specs.Writing.{Written, entering_writes}
use Rattle.laws_met.specs.Peopled.{small}

-- ---- sectors: a label and a value
-- a leader, whose data page is in the next sector
abbrev leader_in : ℕ → Fid → List ℕ → List ℕ × List ℕ
leader_in at f name = (leader_label small f (suc at), new_leader_value f name 1000 (suc at))

-- data page n with these bytes, with the next link, and after the page in the sector `before`
abbrev page_in : ℕ → Fid → ℕ → List ℕ → ℕ → List ℕ × List ℕ
page_in before f n bytes next = (label_of (page_number f n) (length bytes) next (real_of small before), page_value bytes [])

-- both, in this sector and the next one
abbrev file_in : ℕ → Fid → List ℕ → List ℕ → List (List ℕ × List ℕ)
file_in at f name bytes = leader_in at f name ∷ page_in at f 1 bytes no_link ∷ []

-- ---- eight files, whose names are 38 letters a, 38 letters b and so on
abbrev pub letters : ℕ → List ℕ
letters c = replicate 38 c ++ codes "."

-- their entries of 26 words, and their sectors
abbrev entries_from : ℕ → ℕ → ℕ → ℕ → List ℕ
entries_from zero serial at c = []
entries_from (suc n) serial at c = entry_words (ordinary_fid serial) at (letters c) ++ entries_from n (suc serial) (at + 2) (suc c)

abbrev files_from : ℕ → ℕ → ℕ → ℕ → List (List ℕ × List ℕ)
files_from zero serial at c = []
files_from (suc n) serial at c = file_in at (ordinary_fid serial) (letters c) [] ++ files_from n (suc serial) (at + 2) (suc c)

-- SysDir's words: the entries of the system files and of these eight, 23 free words, and 256 more, which begin with the last word of page 1
abbrev pub root_words : List ℕ
root_words = entry_words sys_dir 1 sys_dir_name ++ entry_words disk_descriptor 3 descriptor_name ++ entries_from 8 3 5 97 ++ space_words 23 ++ space_words 256

-- ---- the pack: SysDir's page 2 is in sector 21, and a ninth file in sector 22 has no entry yet
abbrev pub file_i : Fid
file_i = ordinary_fid 11

abbrev pub name_i : List ℕ
name_i = letters 105

abbrev pub crowded : Pack
crowded = record {
  shape = small;
  sectors = with_headers small 1 0 (
      (replicate 8 0, replicate 256 0)
      ∷ leader_in 1 sys_dir sys_dir_name
      ∷ page_in 1 sys_dir 1 (take 512 (bytes_of root_words)) (real_of small 21)
      ∷ file_in 3 disk_descriptor descriptor_name (bytes_of (descriptor_text small 11 mark_open []))
      ++ files_from 8 3 5 97
      ++ page_in 2 sys_dir 2 (drop 512 (bytes_of root_words)) no_link
      ∷ file_in 22 file_i name_i []
      ++ replicate 24 (ones 8, ones 256)
      );
}

-- ---- the entry of the ninth file: its room is both free slots, and its words go over the end of page 1
abbrev pub found_i : Room
found_i = record { first = 10; place = 232; total = 279 }

abbrev pub room_i : EntryRoom
room_i = record { place = 232; first_words = 23; total = 279; at = 2; next_at = 21 }

-- SysDir's slots before the room, and the two free ones in it
abbrev pub eight : ℕ → ℕ → ℕ → List Item
eight zero serial c = []
eight (suc n) serial c = entry (ordinary_fid serial) (letters c) ∷ eight n (suc serial) (suc c)

abbrev pub before_i : List Item
before_i = entry sys_dir sys_dir_name ∷ entry disk_descriptor descriptor_name ∷ eight 8 3 97

abbrev pub free_i : List Item
free_i = space 23 ∷ space 256 ∷ []

-- the entry's words
abbrev pub words_i : List ℕ
words_i = entered_words file_i 22 name_i 253

-- On this pack, which is whole and tidy, it is known what a caller knows before an entering, of which words lie in the next page; and
-- its record writes are three values.
pub record MeetsEntering (p : Pack) : Type 0 where
  pub whole : Whole p
  pub tidy : Tidy p
  pub can_enter : CanEnter p sys_dir name_i file_i found_i words_i 2 21
  pub over : length (later found_i.place words_i) ≡ 3
  pub written : Written p (enter sys_dir name_i file_i) [] [] (entering_writes p room_i words_i)
  pub three : length (entering_writes p room_i words_i) ≡ 3

abbrev pub EnteringOverAPagesEndIsWritten : Type 0
EnteringOverAPagesEndIsWritten = MeetsEntering crowded
