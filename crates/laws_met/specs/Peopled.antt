-- A small pack with two files and a directory, made from a formatted one by three lines.
use Rattle.std.specs.Prelude.{ℕ, ◌-◌, ◌%◌, List, [], ◌∷◌, codes, length, replicate}
use Rattle.std.proofs.Common.{arith}
use Rattle.laws_steps.specs.alto_words.specs.declared.fid.Fid.{Fid}
use Rattle.laws_steps.specs.alto_words.specs.Fid.{directory_fid, ordinary_fid}
use Rattle.laws_steps.specs.disk_records.specs.declared.records.Event.{Event}
use Rattle.laws_steps.specs.disk_records.specs.declared.shape.Shape.{Shape}
use Rattle.laws_steps.specs.disk_records.specs.Commands.{value_writes}
use Rattle.laws_steps.specs.disk_records.specs.Packs.{Pack, after, sector_at}
use Rattle.laws_steps.specs.pack_model.specs.operations.Commands.{cut_label, first_page_claim, grown_claims, grown_label, grown_value, leader_claim}
use Rattle.laws_steps.specs.pack_model.specs.operations.Entering.{EntryRoom, entry_value, values_first}
use Rattle.laws_steps.specs.pack_model.specs.operations.Operations.{cut_writes, drop_writes, enter_writes, grow_writes, make_writes}
use Rattle.laws_steps.specs.pack_model.specs.operations.PageWords.{entered_words, freed_value, put_value, stamped_value, titled_value, widening_bytes}
use Rattle.laws_steps.specs.pack_model.specs.reading.Sights.{sights}
use Rattle.laws_steps.specs.pack_model.specs.reading.Slots.{entry_length}
use Rattle.laws_steps.specs.pack_model.specs.sessions.Descriptor.{open_writes}
use Rattle.laws_steps.specs.pack_model.specs.sessions.Format.{formatted}
use Rattle.laws_steps.specs.pack_model.specs.states.Sound.{mark_of}
use Rattle.laws_steps.specs.laws_line.specs.CrashLaws.{with_serial}

-- one drive of two cylinders: 48 sectors
abbrev pub small : Shape
small = record {
  disks = 1;
  cylinders = 2;
  some_disk = omega arith;
  two_disks = omega arith;
  least = omega arith;
  most = omega arith;
  least_pages = omega arith;
  most_pages = omega arith;
}

abbrev pub formatted_pack : Pack
formatted_pack = formatted small 1 1000

-- ---- the record writes of operations
-- the mark is opened, in sector 4
abbrev pub opening : Pack → List Event
opening p = open_writes (mark_of (sights p)) 4 (sector_at p 4).value

-- a file is made in these sectors
abbrev pub making : Pack → Fid → List ℕ → ℕ → ℕ → List Event
making p f name leader_at page_at = make_writes (first_page_claim p.shape f leader_at page_at) (leader_claim p.shape f name 1000 leader_at page_at)

-- an entry with this address comes into a room
abbrev pub words_in : EntryRoom → Fid → ℕ → List ℕ → List ℕ
words_in r f address name = entered_words f address name (r.total - entry_length (length name))

abbrev pub entering : Pack → EntryRoom → Fid → ℕ → List ℕ → List Event
entering p r f address name = enter_writes (values_first p r (words_in r f address name)) r.at (entry_value p r (words_in r f address name))

-- bytes after the b bytes of a file, whose last page is in the sector `at`, into these free sectors too
abbrev pub growing : Pack → Fid → ℕ → List ℕ → List ℕ → ℕ → List Event
growing p f b new fresh at = grow_writes (grown_claims p.shape f b at new [] fresh) at (grown_label p.shape b new fresh (sector_at p at).label) (grown_value b new [] fresh (sector_at p at).value)

-- ---- the first line: an ordinary file of 600 bytes in two pages
abbrev pub file_a : Fid
file_a = ordinary_fid 3

abbrev pub name_a : List ℕ
name_a = codes "A."

abbrev pub bytes_a : List ℕ
bytes_a = replicate 600 65

abbrev pub room_a : EntryRoom
room_a = record { place = 24; first_words = 231; total = 231; at = 2; next_at = 0 }

abbrev pub opened : Pack
opened = after formatted_pack (opening formatted_pack)

abbrev pub numbered_a : Pack
numbered_a = with_serial opened 4 3

abbrev pub made_a : Pack
made_a = after numbered_a (making numbered_a file_a name_a 5 6)

abbrev pub entered_a : Pack
entered_a = after made_a (entering made_a room_a file_a 5 name_a)

abbrev pub grown_a : Pack
grown_a = after entered_a (growing entered_a file_a 0 bytes_a (7 ∷ []) 6)

-- ---- the second line: a directory in SysDir
abbrev pub dir_d : Fid
dir_d = directory_fid 4

abbrev pub name_d : List ℕ
name_d = codes "D."

abbrev pub room_d : EntryRoom
room_d = record { place = 32; first_words = 223; total = 223; at = 2; next_at = 0 }

abbrev pub numbered_d : Pack
numbered_d = with_serial grown_a 4 4

abbrev pub made_d : Pack
made_d = after numbered_d (making numbered_d dir_d name_d 8 9)

abbrev pub entered_d : Pack
entered_d = after made_d (entering made_d room_d dir_d 8 name_d)

-- ---- the third line: a file without bytes in that directory
abbrev pub file_b : Fid
file_b = ordinary_fid 5

abbrev pub name_b : List ℕ
name_b = codes "B."

abbrev pub room_b : EntryRoom
room_b = record { place = 0; first_words = 255; total = 255; at = 9; next_at = 0 }

abbrev pub numbered_b : Pack
numbered_b = with_serial entered_d 4 5

abbrev pub made_b : Pack
made_b = after numbered_b (making numbered_b file_b name_b 10 11)

-- the pack with two files and a directory, in a session: its mark is open
abbrev pub peopled : Pack
peopled = after made_b (entering made_b room_b file_b 10 name_b)

-- ---- more record writes of operations
-- bytes in place, in the sector of their page
abbrev pub putting : Pack → ℕ → List ℕ → ℕ → List Event
putting p offset new at = value_writes at (put_value (offset % 512) new [] (sector_at p at).value)

-- the first n bytes kept, of which the last is in the sector `at`, and the sectors of later pages
abbrev pub cutting : Pack → ℕ → ℕ → List ℕ → List Event
cutting p n at later = cut_writes at (cut_label n (sector_at p at).label) (sector_at p at).value later

-- another name, and another written date, in the sector of a leader
abbrev pub titling : Pack → List ℕ → ℕ → List Event
titling p name at = value_writes at (titled_value name (sector_at p at).value)

abbrev pub stamping : Pack → ℕ → ℕ → ℕ → ℕ → ℕ → List Event
stamping p moment last_at number bytes at = value_writes at (stamped_value moment last_at number bytes (sector_at p at).value)

-- a slot of so many words becomes free, which begins with this word of the directory, in this sector
abbrev pub leaving : Pack → ℕ → ℕ → ℕ → List Event
leaving p at place words = value_writes at (freed_value place words (sector_at p at).value)

-- a file goes, with its leader in the sector `at` and its pages, and then its entry's slot
abbrev pub dropping : Pack → ℕ → List ℕ → ℕ → ℕ → ℕ → List Event
dropping p at pages slot_at place words = drop_writes at pages slot_at (freed_value place words (sector_at p slot_at).value)

-- ---- a line that changes files: bytes are put, appended and cut off, the name and the date are others, the directory gets a page
abbrev pub bytes_more : List ℕ
bytes_more = replicate 500 66

abbrev pub name_z : List ℕ
name_z = codes "Z."

abbrev pub after_put : Pack
after_put = after peopled (putting peopled 510 (1 ∷ 2 ∷ []) 6)

abbrev pub after_growth : Pack
after_growth = after after_put (growing after_put file_a 600 bytes_more (12 ∷ []) 7)

abbrev pub after_cut : Pack
after_cut = after after_growth (cutting after_growth 100 6 (7 ∷ 12 ∷ []))

abbrev pub after_title : Pack
after_title = after after_cut (titling after_cut name_z 5)

abbrev pub after_stamp : Pack
after_stamp = after after_title (stamping after_title 2000 6 1 100 5)

abbrev pub after_widening : Pack
after_widening = after after_stamp (growing after_stamp dir_d 510 widening_bytes (7 ∷ []) 9)

-- ---- a line by which a file goes, and one that renames it, into the directory
abbrev pub name_c : List ℕ
name_c = codes "C."

abbrev pub room_c : EntryRoom
room_c = record { place = 8; first_words = 247; total = 247; at = 9; next_at = 0 }

abbrev pub retitled : Pack
retitled = after peopled (titling peopled name_c 5)

abbrev pub left : Pack
left = after retitled (leaving retitled 2 24 8)

-- ---- one that renames the file within the directory: its old slot and the free one after it are joined for a longer entry
abbrev pub name_e : List ℕ
name_e = codes "BCD."

abbrev pub room_e : EntryRoom
room_e = record { place = 0; first_words = 8; total = 255; at = 9; next_at = 0 }

abbrev pub retitled_b : Pack
retitled_b = after peopled (titling peopled name_e 10)

abbrev pub left_b : Pack
left_b = after retitled_b (leaving retitled_b 9 0 8)
