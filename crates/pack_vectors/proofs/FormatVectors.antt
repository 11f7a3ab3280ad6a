-- What a leader's sector shows of a label with another count; DiskDescriptor of several data pages, and of two drives; the old last serial,
-- and that of a pack that became one of two drives.
use Rattle.std.proofs.Common.{◌≡◌, ℕ, Bool, true, false, List, [], ◌∷◌, ◌++◌, refl, arith}
use Rattle.std.specs.Prelude.{◌+◌, ◌*◌, ◌-◌, codes, replicate, length, take, drop, get_or}
use Rattle.std.specs.Fmt.{digits}
use Rattle.pack_laws.specs.alto_words.specs.Names.{lost, is_stored_name}
use Rattle.pack_laws.specs.disk_records.specs.declared.shape.Shape.{Shape}
use Rattle.pack_laws.specs.disk_records.specs.declared.records.Sector.{Sector}
use Rattle.pack_laws.specs.disk_records.specs.Addresses.{real_of, descriptor_length}
use Rattle.pack_laws.specs.disk_records.specs.Labels.{in_range, is_free}
use Rattle.pack_laws.specs.disk_records.specs.Packs.{Pack}
use Rattle.pack_laws.specs.pack_model.specs.reading.Bytes.{words_of, put_at}
use Rattle.pack_laws.specs.pack_model.specs.reading.Files.{first, joined, most_pages, file_bytes}
use Rattle.pack_laws.specs.pack_model.specs.reading.Leaders.{Leader, leader_of, leader_name, is_readable}
use Rattle.pack_laws.specs.pack_model.specs.reading.Sights.{sight, sights_from}
use Rattle.pack_laws.specs.pack_model.specs.reading.Sights.Sight.{leads}
use Rattle.pack_laws.specs.pack_model.specs.reading.Slots.{slots_after, slot_at, is_entry}
use Rattle.pack_laws.specs.pack_model.specs.sessions.Descriptor.{data_pages, descriptor_value}
use Rattle.pack_laws.specs.pack_model.specs.sessions.Format.{format_page, formatted_sectors, sectors_used, free_after_format, with_headers}
use Rattle.pack_laws.specs.pack_model.specs.scavenger.Reports.{old_serial, mended_serial}
use Rattle.pack_laws.proofs.MendedByLists.{serial_is}
use Rattle.pack_vectors.proofs.Shapes.{one_of, two_of, small, model_31, model_44, two_31, two_44}
use Rattle.pack_vectors.proofs.SmallPacks.{file_3, free_sector, described_by_words, words_of_9}

-- ---- leader sectors
-- page 0 of #3 in sector 1, whose label counts 7 bytes; the name's words begin with these bytes, and the dates are 1000
abbrev leader_sector : List ℕ → Sector
leader_sector bytes = record {
  header = 9 ∷ 4096 ∷ [];
  label = 65535 ∷ 65535 ∷ 0 ∷ 7 ∷ 0 ∷ 1 ∷ 0 ∷ 3 ∷ [];
  value = 0 ∷ 1000 ∷ 0 ∷ 1000 ∷ 0 ∷ 1000 ∷ (words_of (bytes ++ replicate (40 - length bytes) 0) ++ replicate 230 0);
}

abbrev lost_3 : Leader
lost_3 = record { created = 1000; written = 1000; read = 1000; name = codes "Lost3."; rest = replicate 220 0 }

-- a name of one character can't be read, nor can one of 40, or one whose version isn't spelled as stored names spell it; a numbered name
-- can, and one that spells the lost name. A leader is one whatever its label counts
flags :
    (sight small 1 (leader_sector (1 ∷ codes ".")) ≡ leads file_3 false lost_3)
    × (sight small 1 (leader_sector (40 ∷ codes "A.")) ≡ leads file_3 false lost_3)
    × (sight small 1 (leader_sector (3 ∷ codes "A!.")) ≡ leads file_3 false lost_3)
    × (sight small 1 (leader_sector (5 ∷ codes "A!02.")) ≡ leads file_3 false lost_3)
    × (sight small 1 (leader_sector (4 ∷ codes "A!2.")) ≡ leads file_3 true (record lost_3 { name = codes "A!2." }))
    × (sight small 1 (leader_sector (6 ∷ codes "Lost3.")) ≡ leads file_3 true lost_3)
unfolding sight real_of in_range is_free leader_of leader_name is_readable is_stored_name lost digits
flags = (refl, refl, refl, refl, refl, refl)

-- ---- DiskDescriptor in two data pages: model 31, and 3,840 pages, where the first one is full and the second is empty
abbrev model_160 : Shape
model_160 = one_of 160 (omega arith) (omega arith)

abbrev model_159 : Shape
model_159 = one_of 159 (omega arith) (omega arith)

page_numbers :
    (descriptor_length model_160 ≡ 512)
    × (data_pages model_160 ≡ 2)
    × (sectors_used model_160 ≡ 6)
    × (descriptor_length model_159 ≡ 510)
    × (data_pages model_159 ≡ 1)
    × (data_pages model_31 ≡ 2)
page_numbers = (refl, refl, refl, refl, refl, refl)

-- the leader is in sector 3, the pages are in 4 and 5: each names its neighbours
page_labels :
    ((format_page model_31 0).0 ≡ 20480 ∷ 12288 ∷ 0 ∷ 512 ∷ 1 ∷ 1 ∷ 0 ∷ 2 ∷ [])
    × ((format_page model_31 1).0 ≡ 65535 ∷ 16384 ∷ 0 ∷ 130 ∷ 2 ∷ 1 ∷ 0 ∷ 2 ∷ [])
    × ((format_page model_160 0).0 ≡ 20480 ∷ 12288 ∷ 0 ∷ 512 ∷ 1 ∷ 1 ∷ 0 ∷ 2 ∷ [])
    × ((format_page model_160 1).0 ≡ 65535 ∷ 16384 ∷ 0 ∷ 0 ∷ 2 ∷ 1 ∷ 0 ∷ 2 ∷ [])
    × ((format_page model_159 0).0 ≡ 65535 ∷ 12288 ∷ 0 ∷ 510 ∷ 1 ∷ 1 ∷ 0 ∷ 2 ∷ [])
unfolding real_of
page_labels = (refl, refl, refl, refl, refl)

-- six sectors are busy; the map's words from sector 3,840 on are in the second page: all of them are free
page_values :
    (take 18 (format_page model_31 0).1 ≡ 1 ∷ 203 ∷ 2 ∷ 12 ∷ 0 ∷ 2 ∷ 1 ∷ 4866 ∷ 305 ∷ 0 ∷ 0 ∷ 0 ∷ 0 ∷ 0 ∷ 0 ∷ 0 ∷ 64512 ∷ 0 ∷ [])
    × ((format_page model_31 1).1 ≡ replicate 256 0)
    × ((format_page model_160 1).1 ≡ replicate 256 0)
page_values = (refl, refl, refl)

-- where sectors 3,824, 3,840 and 3,841 are busy, the first page ends and the second one begins with their bits
abbrev late : List Bool
late = replicate 3824 false ++ true ∷ (replicate 15 false ++ true ∷ true ∷ replicate 1030 false)

late_values :
    (drop 254 (descriptor_value model_31 2 1 late 0) ≡ 0 ∷ 32768 ∷ [])
    × (descriptor_value model_31 2 1 late 1 ≡ 49152 ∷ replicate 255 0)
late_values = (refl, refl)

-- DiskDescriptor's leader has true hints of its last page: the sector, the number and the bytes
abbrev last_hints : Shape → List ℕ
last_hints shape = drop 253 (get_or (take 4 (formatted_sectors shape 1000)) 3 ([], [])).1

leader_hints : (last_hints model_31 ≡ 5 ∷ 2 ∷ 130 ∷ []) × (last_hints model_160 ≡ 5 ∷ 2 ∷ 0 ∷ []) × (last_hints small ≡ 4 ∷ 1 ∷ 38 ∷ [])
leader_hints = (refl, refl, refl)

-- ---- larger shapes
-- model 44, two drives of 203 cylinders, two of 406: the bytes and the pages of DiskDescriptor, and what is free
drives :
    (descriptor_length model_44 ≡ 1250) × (descriptor_length two_31 ≡ 1250) × (descriptor_length two_44 ≡ 2468)
    × (data_pages model_44 ≡ 3) × (data_pages two_31 ≡ 3) × (data_pages two_44 ≡ 5)
    × (free_after_format model_44 ≡ 9737) × (free_after_format two_31 ≡ 9737) × (free_after_format two_44 ≡ 19479)
drives = (refl, refl, refl, refl, refl, refl, refl, refl, refl)

-- the last sector of the first drive, the first and the last of the second
second_drive : (real_of two_31 4871 ≡ 11 * 4096 + 202 * 8 + 4) × (real_of two_31 4872 ≡ 2) × (real_of two_31 9743 ≡ 11 * 4096 + 202 * 8 + 6) × (real_of two_44 19487 ≡ 48302)
unfolding real_of
second_drive = (refl, refl, refl, refl)

-- five pages: the last one counts 420 bytes
fifth_page : ((format_page two_44 4).0 ≡ 65535 ∷ 28672 ∷ 0 ∷ 420 ∷ 5 ∷ 1 ∷ 0 ∷ 2 ∷ []) × ((format_page two_44 3).0 ≡ 32768 ∷ 24576 ∷ 0 ∷ 512 ∷ 4 ∷ 1 ∷ 0 ∷ 2 ∷ [])
unfolding real_of
fifth_page = (refl, refl)

-- ---- the old last serial
-- that of a descriptor of so many bytes, with this number of drives, of cylinders, of heads, of sectors to a track and of map words
abbrev old_by : Shape → ℕ → List ℕ → ℕ → ℕ
old_by shape bytes form words = old_serial shape (replicate bytes 0) (form ++ 0 ∷ 9 ∷ 1 ∷ 0 ∷ words ∷ [])

-- where it has 2 heads and 12 sectors to a track
abbrev old_of : Shape → ℕ → ℕ → ℕ → ℕ → ℕ
old_of shape bytes drives cylinders words = old_by shape bytes (drives ∷ cylinders ∷ 2 ∷ 12 ∷ []) words

-- its own shape, and one drive with as many cylinders; one drive of twice as many, which has as many sectors; the words of one drive in a
-- file as long as for two, as a move that was cut leaves them; another number of drives, of cylinders, of map words or of bytes alone
old_serials :
    (old_of two_31 1250 2 203 609 ≡ 9)
    × (old_of two_31 642 1 203 305 ≡ 9)
    × (old_of two_31 1250 1 406 609 ≡ 0)
    × (old_of two_31 1250 1 203 305 ≡ 0)
    × (old_of two_31 1250 1 203 609 ≡ 0)
    × (old_of two_31 642 2 203 305 ≡ 0)
    × (old_of two_31 642 1 204 305 ≡ 0)
    × (old_of two_31 642 1 203 306 ≡ 0)
    × (old_of two_31 644 1 203 305 ≡ 0)
old_serials = (refl, refl, refl, refl, refl, refl, refl, refl, refl)

-- one more head or sector, or one less, of its own shape and of one drive
old_of_other_tracks :
    (old_by two_31 1250 (2 ∷ 203 ∷ 1 ∷ 12 ∷ []) 609 ≡ 0)
    × (old_by two_31 1250 (2 ∷ 203 ∷ 2 ∷ 13 ∷ []) 609 ≡ 0)
    × (old_by two_31 642 (1 ∷ 203 ∷ 3 ∷ 12 ∷ []) 305 ≡ 0)
    × (old_by two_31 642 (1 ∷ 203 ∷ 2 ∷ 11 ∷ []) 305 ≡ 0)
old_of_other_tracks = (refl, refl, refl, refl)

-- one drive takes none of two
old_of_two : (old_of model_44 1250 1 406 609 ≡ 9) × (old_of model_44 1250 2 203 609 ≡ 0) × (old_of two_44 1250 1 406 609 ≡ 9) × (old_of two_44 1250 2 203 609 ≡ 0)
old_of_two = (refl, refl, refl, refl)

-- ---- a second drive
-- a pack of one drive of two cylinders with a file of serial 3, whose DiskDescriptor has the last serial 9, and a second drive that is free
abbrev two_small : Shape
two_small = two_of 2 (omega arith) (omega arith)

abbrev widened : List ℕ → Pack
widened its = record { shape = two_small; sectors = (described_by_words its).sectors ++ with_headers two_small 1 48 (replicate 48 free_sector) }

-- its last serial counts, and not where it says one cylinder more
serials_of_two : (mended_serial (widened words_of_9) ≡ 9) × (mended_serial (widened (put_at 1 (3 ∷ []) words_of_9)) ≡ 3)
unfolding sights_from sight real_of in_range is_free leader_of leader_name is_readable is_stored_name first joined most_pages file_bytes slots_after slot_at is_entry
serials_of_two = (serial_is (widened words_of_9), serial_is (widened (put_at 1 (3 ∷ []) words_of_9)))
