-- Small cases of sectors, files and whole packs, by computation.
use Rattle.std.proofs.Common.{◌≡◌, ℕ, true, false, List, [], ◌∷◌, ◌++◌, Some, None, refl}
use Rattle.std.specs.Prelude.{◌-◌, codes, replicate, length}
use Rattle.std.specs.Fmt.{digits}
use Rattle.pack_laws.specs.alto_words.specs.Fid.{sys_dir, disk_descriptor}
use Rattle.pack_laws.specs.alto_words.specs.Names.{lost, is_stored_name}
use Rattle.pack_laws.specs.disk_records.specs.declared.records.Sector.{Sector}
use Rattle.pack_laws.specs.disk_records.specs.Addresses.{descriptor_length, real_of}
use Rattle.pack_laws.specs.disk_records.specs.Labels.{in_range, is_free, label_of}
use Rattle.pack_laws.specs.pack_model.specs.reading.Bytes.{bytes_of, words_of}
use Rattle.pack_laws.specs.pack_model.specs.reading.Leaders.{leader_of, leader_name, is_readable}
use Rattle.pack_laws.specs.pack_model.specs.reading.Sights.{Sight, sight, sights, sights_from}
use Rattle.pack_laws.specs.pack_model.specs.reading.Sights.Sight.{hidden, free, stray, leads, holds}
use Rattle.pack_laws.specs.pack_model.specs.reading.Files.{first, joined, most_pages, file_bytes, place, leader}
use Rattle.pack_laws.specs.pack_model.specs.reading.Slots.{slots_after, slot_at, is_entry}
use Rattle.pack_laws.specs.pack_model.specs.reading.Slots.Item.{space, entry}
use Rattle.pack_laws.specs.pack_model.specs.reading.Namings.{sys_dir_name, descriptor_name}
use Rattle.pack_laws.specs.pack_model.specs.reading.Model.{good_sectors, descriptor_pages, descriptor_words, last_serial}
use Rattle.pack_laws.specs.pack_model.specs.states.InUse.{free_sector_count, bad_sectors}
use Rattle.pack_laws.specs.pack_model.specs.reading.SlotWords.{slots_at}
use Rattle.pack_laws.specs.pack_model.specs.hints.Links.{HasLinks, dir_slots, next_link, previous_link}
use Rattle.pack_laws.specs.pack_model.specs.states.Sound.{mark_of}
use Rattle.pack_laws.specs.pack_model.specs.hints.Tables.{is_busy, bits_from, words_of_bits, described_table, described_free}
use Rattle.pack_laws.specs.pack_model.specs.operations.Step.{new_leader}
use Rattle.pack_laws.specs.pack_model.specs.operations.PageWords.{leader_value, page_number}
use Rattle.pack_laws.specs.pack_model.specs.sessions.Descriptor.{descriptor_text}
use Rattle.pack_laws.specs.pack_model.specs.sessions.Format.{formatted, format_slots, format_table, free_after_format, sectors_used}
use Rattle.pack_vectors.proofs.Shapes.{model_31, small}
use Rattle.pack_vectors.proofs.SmallPacks.{leader_a, file_3}

-- ---- leader pages
-- what is written is read again, whatever the hints
leader_read : leader_of file_3 (leader_value leader_a (replicate 10 7)) ≡ leader_a
unfolding leader_of leader_name is_readable is_stored_name
leader_read = refl

-- bytes after the name are ignored; a length byte of 1 or 40, or a version that isn't one or isn't spelled so, make it unreadable, and
-- the serial stands for it
abbrev with_name : List ℕ → List ℕ
with_name bytes = replicate 6 0 ++ words_of (bytes ++ replicate (40 - length bytes) 0) ++ replicate 230 0

names_read :
    (leader_name file_3 (with_name (2 ∷ codes "A.B.")) ≡ codes "A.")
    × (leader_name file_3 (with_name (1 ∷ codes ".")) ≡ codes "Lost3.")
    × (leader_name file_3 (with_name (40 ∷ replicate 39 46)) ≡ codes "Lost3.")
    × (leader_name file_3 (with_name (3 ∷ codes "A!.")) ≡ codes "Lost3.")
    × (leader_name file_3 (with_name (4 ∷ codes "A!2.")) ≡ codes "A!2.")
    × (leader_name file_3 (with_name (5 ∷ codes "A!02.")) ≡ codes "Lost3.")
    × (leader_name file_3 (with_name (39 ∷ replicate 39 46)) ≡ replicate 39 46)
unfolding leader_name is_readable is_stored_name lost digits
names_read = (refl, refl, refl, refl, refl, refl, refl)

-- ---- what a sector shows
abbrev sector_with : ℕ → List ℕ → Sector
sector_with real label = record { header = 9 ∷ real ∷ []; label = label; value = 16706 ∷ 17152 ∷ [] }

abbrev page_1 : List ℕ
page_1 = label_of (page_number file_3 1) 3 4096 8192

-- sector 0; a wrong header; a free label; serial 0 with the directory mark; a version that isn't given; a page of 513 bytes, and
-- a leader of 513; the counted bytes, whatever the links
seen :
    (sight small 0 (sector_with 0 page_1) ≡ hidden)
    × (sight small 1 (sector_with 8192 page_1) ≡ hidden)
    × (sight small 48 (sector_with 0 page_1) ≡ hidden)
    × (sight small 1 (sector_with 4096 (replicate 8 65535)) ≡ free)
    × (sight small 1 (sector_with 4096 (0 ∷ 0 ∷ 0 ∷ 0 ∷ 1 ∷ 65535 ∷ 65535 ∷ 65535 ∷ [])) ≡ free)
    × (sight small 1 (sector_with 4096 (0 ∷ 0 ∷ 0 ∷ 3 ∷ 1 ∷ 1 ∷ 32768 ∷ 0 ∷ [])) ≡ stray)
    × (sight small 1 (sector_with 4096 (0 ∷ 0 ∷ 0 ∷ 3 ∷ 1 ∷ 65535 ∷ 0 ∷ 3 ∷ [])) ≡ stray)
    × (sight small 1 (sector_with 4096 (0 ∷ 0 ∷ 0 ∷ 513 ∷ 1 ∷ 1 ∷ 0 ∷ 3 ∷ [])) ≡ stray)
    × (sight small 1 (sector_with 4096 (0 ∷ 0 ∷ 0 ∷ 513 ∷ 0 ∷ 1 ∷ 0 ∷ 3 ∷ [])) ≡ stray)
    × (sight small 1 (sector_with 4096 page_1) ≡ holds file_3 0 (codes "ABC"))
unfolding sight real_of in_range is_free
seen = (refl, refl, refl, refl, refl, refl, refl, refl, refl, refl)

-- ---- files
abbrev full : List ℕ
full = replicate 512 7

-- pages in any order; the lower of two copies; up to a page that isn't full; up to a page that is missing; a file without a leader
-- has its bytes too, and doesn't live
files :
    (file_bytes (holds file_3 1 (codes "B") ∷ holds file_3 0 full ∷ []) file_3 ≡ full ++ codes "B")
    × (file_bytes (holds file_3 0 (codes "A") ∷ holds file_3 0 (codes "XX") ∷ []) file_3 ≡ codes "A")
    × (file_bytes (holds file_3 0 (codes "A") ∷ holds file_3 1 (codes "B") ∷ []) file_3 ≡ codes "A")
    × (file_bytes (holds file_3 0 full ∷ holds file_3 2 (codes "C") ∷ []) file_3 ≡ full)
    × (leader (holds file_3 0 full ∷ []) file_3 ≡ None)
unfolding file_bytes joined most_pages first
files = (refl, refl, refl, refl, refl)

-- the lowest sector that carries a page bears it; pages are sought by the numbers in their labels
places :
    (place (hidden ∷ free ∷ holds file_3 0 (codes "A") ∷ holds file_3 0 (codes "X") ∷ []) file_3 1 ≡ Some 2)
    × (place (hidden ∷ free ∷ holds file_3 0 (codes "A") ∷ []) file_3 0 ≡ None)
    × (place (hidden ∷ leads file_3 true leader_a ∷ leads file_3 false leader_a ∷ []) file_3 0 ≡ Some 1)
unfolding first
places = (refl, refl, refl)

-- ---- links
-- a leader, a full page and the last page, in sectors 3, 1 and 2: each names its neighbours
abbrev three : List Sight
three = hidden ∷ holds file_3 0 full ∷ holds file_3 1 (codes "B") ∷ leads file_3 true leader_a ∷ []

links :
    (next_link small three (leads file_3 true leader_a) ≡ 4096)
    × (next_link small three (holds file_3 0 full) ≡ 8192)
    × (next_link small three (holds file_3 1 (codes "B")) ≡ 65535)
    × (previous_link small three (leads file_3 true leader_a) ≡ 65535)
    × (previous_link small three (holds file_3 0 full) ≡ 12288)
    × (previous_link small three (holds file_3 1 (codes "B")) ≡ 4096)
    × (next_link small (three ++ holds file_3 2 (codes "C") ∷ []) (holds file_3 1 (codes "B")) ≡ 65535)
unfolding first real_of
links = (refl, refl, refl, refl, refl, refl, refl)

-- ---- DiskDescriptor
lengths : (descriptor_length small ≡ 38) × (descriptor_length model_31 ≡ 642) × (descriptor_pages small ≡ 2) × (descriptor_pages model_31 ≡ 3)
lengths = (refl, refl, refl, refl)

-- as formatting writes it: five sectors are busy, and the bits past the last sector are 0
descriptor_written : descriptor_text small 2 1 (format_table small) ≡ 1 ∷ 2 ∷ 2 ∷ 12 ∷ 0 ∷ 2 ∷ 1 ∷ 43 ∷ 3 ∷ 0 ∷ 0 ∷ 0 ∷ 0 ∷ 0 ∷ 0 ∷ 0 ∷ 63488 ∷ 0 ∷ 0 ∷ []
descriptor_written = refl

first_bit : (is_busy (32768 ∷ 0 ∷ []) 0 ≡ true) × (is_busy (1 ∷ 0 ∷ []) 15 ≡ true) × (is_busy (1 ∷ 0 ∷ []) 0 ≡ false) × (is_busy (0 ∷ 32768 ∷ []) 16 ≡ true)
first_bit = (refl, refl, refl, refl)

table_read : bits_from (63488 ∷ 0 ∷ 1 ∷ []) 0 18 ≡ true ∷ true ∷ true ∷ true ∷ true ∷ replicate 13 false
table_read = refl

-- sixteen bits to a word, the first one the most significant; bits past the last sector are 0, and those past the words are left out
bits_written :
    (words_of_bits 2 (replicate 16 false ++ true ∷ []) ≡ 0 ∷ 32768 ∷ [])
    × (words_of_bits 2 (replicate 17 true) ≡ 65535 ∷ 32768 ∷ [])
    × (words_of_bits 1 (replicate 15 false ++ true ∷ true ∷ []) ≡ 1 ∷ [])
    × (words_of_bits 3 (true ∷ []) ≡ 32768 ∷ 0 ∷ 0 ∷ [])
bits_written = (refl, refl, refl, refl)

-- the last serial is 0 unless both words stand
last_read : (last_serial (1 ∷ 2 ∷ 2 ∷ 12 ∷ 1 ∷ 2 ∷ []) ≡ 65538) × (last_serial (1 ∷ 2 ∷ 2 ∷ 12 ∷ 1 ∷ []) ≡ 0)
last_read = (refl, refl)

-- ---- the pack that formatting writes
free_numbers : (free_after_format small ≡ 43) × (free_after_format model_31 ≡ 4866) × (sectors_used model_31 ≡ 6)
free_numbers = (refl, refl, refl)

-- each sector shows what it has to
pub formatted_sights : sights (formatted small 1 1000)
    ≡ hidden
    ∷ leads sys_dir true (new_leader sys_dir_name 1000)
    ∷ holds sys_dir 0 (bytes_of (format_slots))
    ∷ leads disk_descriptor true (new_leader descriptor_name 1000)
    ∷ holds disk_descriptor 0 (bytes_of (descriptor_text small 2 1 (format_table small)))
    ∷ replicate 43 free
unfolding sights_from sight real_of in_range is_free leader_of leader_name is_readable is_stored_name
formatted_sights = refl

-- both system files have an entry, with true addresses; the mark is clean, the last serial is 2, and the map is true
pub formatted_slots : dir_slots (formatted small 1 1000) sys_dir
    ≡ record { place = 0; item = entry sys_dir sys_dir_name; address = 1 }
    ∷ record { place = 10; item = entry disk_descriptor descriptor_name; address = 3 }
    ∷ record { place = 24; item = space 231; address = 0 }
    ∷ []
unfolding sights_from sight real_of in_range is_free leader_of leader_name is_readable is_stored_name file_bytes joined most_pages first slots_after slot_at is_entry slots_at
formatted_slots = refl

formatted_words :
    (mark_of (sights (formatted small 1 1000)) ≡ 1)
    × (last_serial (descriptor_words (sights (formatted small 1 1000))) ≡ 2)
    × (described_table (formatted small 1 1000) ≡ replicate 5 true ++ replicate 43 false)
    × (described_free (formatted small 1 1000) ≡ free_sector_count (sights (formatted small 1 1000)))
    × (good_sectors (sights (formatted small 1 1000)) ≡ 47)
    × (bad_sectors (sights (formatted small 1 1000)) ≡ 0)
unfolding sights_from sight real_of in_range is_free leader_of leader_name is_readable is_stored_name file_bytes joined most_pages first
formatted_words = (refl, refl, refl, refl, refl, refl)

-- the links of each page are true
abbrev pub Linked : ℕ → Type 0
Linked at = HasLinks (formatted small 1 1000) at

pub formatted_links : Linked 1 × Linked 2 × Linked 3 × Linked 4
unfolding sights_from sight real_of in_range is_free leader_of leader_name is_readable is_stored_name first
formatted_links = (record { next = refl; previous = refl }, record { next = refl; previous = refl }, record { next = refl; previous = refl }, record { next = refl; previous = refl })
