-- Names are mended on the small pack whose SysDir has two pages: one entry is lacking, and comes in three values.
use Rattle.std.specs.Prelude.{◌≡◌, ◌∷◌, [], List, get_or, length}
use Rattle.laws_steps.specs.alto_words.specs.Fid.{disk_descriptor, ordinary_fid, sys_dir}
use Rattle.laws_steps.specs.disk_records.specs.Packs.{Pack}
use Rattle.laws_steps.specs.pack_model.specs.operations.PageWords.{later, near}
use Rattle.laws_steps.specs.pack_model.specs.reading.Model.{dir_items}
use Rattle.laws_steps.specs.pack_model.specs.reading.Namings.{descriptor_name, sys_dir_name}
use Rattle.laws_steps.specs.pack_model.specs.reading.Slots.{Item, item_words}
use Rattle.laws_steps.specs.pack_model.specs.reading.Slots.Item.{entry, space}
use Rattle.laws_steps.specs.pack_model.specs.scavenger.Reports.{PagesMended}
use Rattle.laws_steps.specs.pack_model.specs.states.Whole.{Tidy}
use Rattle.laws_steps.specs.laws_record.specs.DirLaws.{Frees, dir_written, entered, freed}
use Rattle.laws_steps.specs.laws_room.specs.NextLaws.{LackingNext, mended_pack}
use Rattle.laws_names.specs.WriteLaws.{CanBeEntered, EntryIsEntered, RoomIsOne, RoomIsWritten, SlotIsFreed}
use Rattle.laws_met.specs.Crowded.{before_i, crowded, eight, file_i, free_i, letters, name_i, words_i}

-- the pack with one free slot for the entry of the ninth file, and then with the words that lie in SysDir's second page
abbrev pub joined_i : Pack
joined_i = freed crowded 2 before_i free_i

abbrev pub later_i : Pack
later_i = dir_written joined_i 256 21 (later 232 words_i)

-- Pages are mended, each entry is kept, and that one is lacking alone; each of its values meets what the law of it asks for.
pub record MeetsNaming : Type 0 where
  pub pages : PagesMended crowded
  pub tidy : Tidy crowded
  pub next : LackingNext crowded file_i name_i []
  pub joined : RoomIsOne crowded joined_i before_i free_i [] file_i name_i []
  pub written : RoomIsWritten joined_i later_i sys_dir 256 (later 232 words_i)
  pub can : CanBeEntered later_i file_i name_i before_i [] 253 22 2 (near 232 words_i) (later 232 words_i)
  pub last : EntryIsEntered later_i (entered later_i 2 before_i (near 232 words_i)) before_i file_i name_i [] (near 232 words_i)

abbrev pub NamingIsMet : Type 0
NamingIsMet = MeetsNaming

-- ---- an entry that isn't kept
-- the same pack, where the entry before the room names the file of the one before it
abbrev pub doubled_i : Pack
doubled_i = dir_written crowded 208 2 (9 ∷ [])

-- SysDir's slots before that entry
abbrev pub nine_i : List Item
nine_i = entry sys_dir sys_dir_name ∷ entry disk_descriptor descriptor_name ∷ eight 7 3 97

-- Pages are mended, the scan doesn't keep that entry, and the first word of its slot meets what its law asks for.
pub record MeetsFreeing : Type 0 where
  pub pages : PagesMended doubled_i
  pub frees : Frees doubled_i sys_dir 2 nine_i (entry (ordinary_fid 9) (letters 104) ∷ []) free_i
  pub unkept : get_or (dir_items (mended_pack doubled_i) sys_dir) (length nine_i) (entry (ordinary_fid 9) (letters 104)) ≡ space (item_words (entry (ordinary_fid 9) (letters 104)))
  pub freed : SlotIsFreed doubled_i (freed doubled_i 2 nine_i (entry (ordinary_fid 9) (letters 104) ∷ [])) sys_dir nine_i free_i (ordinary_fid 9) (letters 104)

abbrev pub FreeingIsMet : Type 0
FreeingIsMet = MeetsFreeing
