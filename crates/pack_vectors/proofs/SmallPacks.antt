-- Small packs of 48 sectors: the cases by which reading and mending are checked.
use Rattle.std.proofs.Common.{ℕ, zero, suc, ◌-◌, List, [], ◌∷◌, ◌++◌, None, Option, Some}
use Rattle.std.specs.Prelude.{codes, replicate, length, take, set}
use Rattle.pack_laws.specs.alto_words.specs.declared.fid.Fid.{Fid}
use Rattle.pack_laws.specs.alto_words.specs.Fid.{sys_dir, disk_descriptor, ordinary_fid, directory_fid}
use Rattle.pack_laws.specs.disk_records.specs.Addresses.{real_of}
use Rattle.pack_laws.specs.disk_records.specs.Labels.{label_of}
use Rattle.pack_laws.specs.disk_records.specs.Commands.{ones}
use Rattle.pack_laws.specs.disk_records.specs.declared.records.Sector.{Sector}
use Rattle.pack_laws.specs.disk_records.specs.Packs.{Pack, sector_at}
use Rattle.pack_laws.specs.pack_model.specs.reading.Bytes.{bytes_of, put_at}
use Rattle.pack_laws.specs.pack_model.specs.reading.SlotWords.{entry_words, space_words}
use Rattle.pack_laws.specs.pack_model.specs.reading.Namings.{sys_dir_name, descriptor_name}
use Rattle.pack_laws.specs.pack_model.specs.hints.Links.{no_link}
use Rattle.pack_laws.specs.pack_model.specs.operations.PageWords.{page_number, page_value, leader_label, new_leader_value}
use Rattle.pack_laws.specs.pack_model.specs.sessions.Descriptor.{descriptor_text}
use Rattle.pack_laws.specs.pack_model.specs.sessions.Format.{Written, with_headers, formatted}
use Rattle.pack_laws.specs.pack_model.specs.operations.Step.{new_leader}
use Rattle.pack_laws.specs.pack_model.specs.reading.Leaders.{Leader}
use Rattle.pack_laws.specs.pack_model.specs.reading.Bodies.Body.{data_of}
use Rattle.pack_laws.specs.pack_model.specs.reading.Bodies.{File}
use Rattle.pack_vectors.proofs.Shapes.{small}

abbrev pub file_of_bytes : List ℕ → List ℕ → File
file_of_bytes name bytes = record { leader = new_leader name 1000; body = data_of bytes }

abbrev pub some_or : Option ℕ → ℕ
some_or None = 0
some_or (Some n) = n

abbrev pub leader_a : Leader
leader_a = new_leader (codes "A.") 1000

abbrev pub dir_4 : Fid
dir_4 = directory_fid 4

abbrev pub file_3 : Fid
file_3 = ordinary_fid 3

abbrev pub formatted_pack : Pack
formatted_pack = formatted small 1 1000

-- ---- sectors
abbrev boot_sector : Written
boot_sector = (replicate 8 0, replicate 256 0)

abbrev pub free_sector : Written
free_sector = (ones 8, ones 256)

-- a leader, whose data page is in the next sector
abbrev leader_in : ℕ → Fid → List ℕ → Written
leader_in at f name = (leader_label small f (suc at), new_leader_value f name 1000 (suc at))

abbrev pub page_in : ℕ → Fid → ℕ → List ℕ → Written
page_in at f n bytes = (label_of (page_number f n) (length bytes) no_link (real_of small at), page_value bytes [])

-- both, from this sector on
abbrev pub file_in : ℕ → Fid → List ℕ → List ℕ → List Written
file_in at f name bytes = leader_in at f name ∷ page_in at f 1 bytes ∷ []

-- ---- packs: sector 0, so many sectors, and free ones
abbrev pub pack_of : ℕ → List Written → Pack
pack_of frees others = record { shape = small; sectors = with_headers small 1 0 (boot_sector ∷ (others ++ replicate frees free_sector)) }

-- DiskDescriptor's words, with this last serial and this mark
abbrev pub its_words : ℕ → ℕ → List ℕ
its_words last mark = descriptor_text small last mark []

-- SysDir with these entries after those of the two system files, DiskDescriptor with these words, and others
abbrev pub root_words : List ℕ → List ℕ
root_words words = entry_words sys_dir 1 sys_dir_name ++ entry_words disk_descriptor 3 descriptor_name ++ words

abbrev pub system : List ℕ → List ℕ → List Written → List Written
system words its others = file_in 1 sys_dir sys_dir_name (bytes_of (root_words words)) ++ file_in 3 disk_descriptor descriptor_name (bytes_of its) ++ others

abbrev pub words_a : List ℕ
words_a = entry_words (ordinary_fid 3) 5 (codes "A.") ++ space_words 223

abbrev file_a : List ℕ → List Written
file_a bytes = file_in 5 (ordinary_fid 3) (codes "A.") bytes

-- a file of five bytes, and a copy of its data page with other bytes in sector 20
abbrev pub copied : Pack
copied = pack_of 27 (system words_a (its_words 3 1) (file_a (codes "ABCDE") ++ replicate 13 free_sector ++ page_in 5 (ordinary_fid 3) 1 (codes "XXXXX") ∷ []))

-- the same file, whose slot, word 24 of SysDir, has no words
abbrev pub unread : Pack
unread = pack_of 41 (system (put_at 0 (0 ∷ []) words_a) (its_words 3 1) (file_a (codes "ABCDE")))

-- three files of one name, two of them in directories whose slots for them are free
abbrev words_two : List ℕ
words_two = entry_words (directory_fid 3) 5 (codes "D.") ++ entry_words (directory_fid 5) 9 (codes "E.") ++ entry_words (ordinary_fid 7) 13 (codes "X.") ++ space_words 207

abbrev emptied : ℕ → ℕ → List ℕ
emptied serial at = put_at 0 (8 ∷ []) (entry_words (ordinary_fid serial) at (codes "X.")) ++ space_words 247

abbrev pub three_x : Pack
three_x = pack_of 33 (system words_two (its_words 7 1) (
    file_in 5 (directory_fid 3) (codes "D.") (bytes_of (emptied 4 7))
    ++ file_in 7 (ordinary_fid 4) (codes "X.") []
    ++ file_in 9 (directory_fid 5) (codes "E.") (bytes_of (emptied 6 11))
    ++ file_in 11 (ordinary_fid 6) (codes "X.") []
    ++ file_in 13 (ordinary_fid 7) (codes "X.") []
    ))

-- three versions of a name, their entries from the greatest down, and a nameless file whose leader has one of these names
abbrev pub versions : Pack
versions = pack_of 35 (system (entry_words (ordinary_fid 5) 9 (codes "A!10.") ++ entry_words (ordinary_fid 4) 7 (codes "a!2.") ++ entry_words (ordinary_fid 3) 5 (codes "A.") ++ space_words 205) (its_words 6 1) (
    file_in 5 (ordinary_fid 3) (codes "A.") []
    ++ file_in 7 (ordinary_fid 4) (codes "a!2.") []
    ++ file_in 9 (ordinary_fid 5) (codes "A!10.") []
    ++ file_in 11 (ordinary_fid 6) (codes "A!2.") []
    ))

-- a file in a directory
abbrev pub in_d : Pack
in_d = pack_of 39 (system (entry_words (directory_fid 3) 5 (codes "D.") ++ space_words 223) (its_words 4 1) (
    file_in 5 (directory_fid 3) (codes "D.") (bytes_of (entry_words (ordinary_fid 4) 7 (codes "A.") ++ space_words 247))
    ++ file_in 7 (ordinary_fid 4) (codes "A.") (codes "ABCDE")
    ))

-- a make that was cut after the leader's value, and after its label
abbrev pub made_6 : Pack
made_6 = pack_of 41 (system (space_words 231) (its_words 3 2) ((ones 8, new_leader_value (ordinary_fid 3) (codes "A.") 1000 6) ∷ page_in 5 (ordinary_fid 3) 1 [] ∷ []))

abbrev pub made_7 : Pack
made_7 = pack_of 41 (system (space_words 231) (its_words 3 2) (file_a []))

-- 1,200 bytes that are appended: cut after the value of the old last page, and after its label
abbrev later_pages : List Written
later_pages = page_in 6 (ordinary_fid 3) 2 (replicate 512 65) ∷ page_in 7 (ordinary_fid 3) 3 (replicate 176 65) ∷ []

abbrev pub appended_8 : Pack
appended_8 = pack_of 39 (system words_a (its_words 3 2) (file_a [] ++ later_pages))

abbrev pub appended_9 : Pack
appended_9 = pack_of 39 (system words_a (its_words 3 2) (file_a (replicate 512 65) ++ later_pages))

-- a file of 600 bytes whose last page is lost, and one whose leader is
abbrev pub no_end : Pack
no_end = pack_of 41 (system words_a (its_words 3 1) (file_a (replicate 512 17)))

abbrev pub no_leader : Pack
no_leader = pack_of 40 (system words_a (its_words 3 1) (free_sector ∷ page_in 5 (ordinary_fid 3) 1 (replicate 512 17) ∷ page_in 6 (ordinary_fid 3) 2 (replicate 88 17) ∷ []))

-- an entry after a free slot of 20 words, that of DiskDescriptor, which has no leader; a nameless file whose entry has 20 words
abbrev crowded_words : List ℕ
crowded_words = entry_words sys_dir 1 sys_dir_name ++ space_words 20 ++ entry_words (ordinary_fid 3) 5 (codes "A.") ++ entry_words disk_descriptor 3 descriptor_name

abbrev pub name_26 : List ℕ
name_26 = replicate 25 98 ++ codes "."

abbrev crowded_with : Written → Pack
crowded_with w = pack_of 39 (file_in 1 sys_dir sys_dir_name (bytes_of crowded_words) ++ w ∷ page_in 3 disk_descriptor 1 (bytes_of (its_words 9 1)) ∷ (file_a [] ++ file_in 7 (ordinary_fid 4) name_26 []))

abbrev pub crowded : Pack
crowded = crowded_with free_sector

abbrev pub crowded_alive : Pack
crowded_alive = crowded_with (leader_in 3 disk_descriptor descriptor_name)

-- DiskDescriptor with these words, and a file of serial 3
abbrev pub described_by_words : List ℕ → Pack
described_by_words its = pack_of 41 (system words_a its (file_a []))

abbrev pub words_of_9 : List ℕ
words_of_9 = its_words 9 1

-- so many leaders of one name alone, from sector 2 on, with these serials
abbrev leaders_from : ℕ → ℕ → List Written
leaders_from serial zero = []
leaders_from serial (suc n) = leader_in 5 (ordinary_fid serial) (replicate 38 97 ++ codes ".") ∷ leaders_from (suc serial) n

abbrev pub nameless_alone : ℕ → Pack
nameless_alone n = pack_of 0 (free_sector ∷ leaders_from 3 n)

-- every sector is free; the file is all zeros
abbrev pub all_free : Pack
all_free = pack_of 47 []

-- the sectors after the first so many have wrong headers
abbrev bad_sector : Sector
bad_sector = record { header = 1 ∷ 65535 ∷ []; label = ones 8; value = ones 256 }

abbrev pub good_up_to : ℕ → Pack → Pack
good_up_to n p = record { shape = p.shape; sectors = take n p.sectors ++ replicate (48 - n) bad_sector }

-- sector 1 has another header, or another label
abbrev pub root_header : List ℕ → Pack → Pack
root_header words p = record { shape = p.shape; sectors = set p.sectors 1 (record (sector_at p 1) { header = words }) }

abbrev pub root_label : List ℕ → Pack → Pack
root_label words p = record { shape = p.shape; sectors = set p.sectors 1 (record (sector_at p 1) { label = words }) }

abbrev pub zeros : Pack
zeros = record { shape = small; sectors = replicate 48 (record { header = 0 ∷ 0 ∷ []; label = replicate 8 0; value = replicate 256 0 }) }
