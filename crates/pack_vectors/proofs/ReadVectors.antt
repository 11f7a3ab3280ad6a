-- Small packs as models: what is read of them, what room they leave, and what they show.
use Rattle.std.proofs.Common.{◌≡◌, ℕ, List, [], ◌∷◌, Option, Some, None, refl, ap, ◌∙◌}
use Rattle.std.specs.Prelude.{◌==◌, codes, find, replicate}
use Rattle.std.specs.Fmt.{digits}
use Rattle.std.specs.FinMap.{entries, from_entries}
use Rattle.pack_laws.specs.alto_words.specs.declared.fid.Fid.{Fid}
use Rattle.pack_laws.specs.alto_words.specs.Fid.{fid_cmp, serial_of, sys_dir, disk_descriptor, ordinary_fid, directory_fid}
use Rattle.pack_laws.specs.alto_words.specs.Names.{is_stored_name, suffixed}
use Rattle.pack_laws.specs.disk_records.specs.Addresses.{real_of}
use Rattle.pack_laws.specs.disk_records.specs.Labels.{in_range, is_free}
use Rattle.pack_laws.specs.disk_records.specs.Packs.{Pack}
use Rattle.pack_laws.specs.pack_model.specs.reading.Leaders.{leader_of, leader_name, is_readable}
use Rattle.pack_laws.specs.pack_model.specs.reading.Sights.{sight, sights, sights_from}
use Rattle.pack_laws.specs.pack_model.specs.reading.Files.{first, joined, most_pages, file_bytes}
use Rattle.pack_laws.specs.pack_model.specs.reading.Slots.{Item, slots_after, slot_at, is_entry}
use Rattle.pack_laws.specs.pack_model.specs.reading.Slots.Item.{space, entry}
use Rattle.pack_laws.specs.pack_model.specs.reading.Stored.{StoredFile, file_of_serial}
use Rattle.pack_laws.specs.pack_model.specs.reading.Bodies.{File}
use Rattle.pack_laws.specs.pack_model.specs.reading.Bodies.Body.{items_of}
use Rattle.pack_laws.specs.pack_model.specs.reading.Namings.{sys_dir_name, descriptor_name, keeps_system}
use Rattle.pack_laws.specs.pack_model.specs.reading.Model.{read_sights, read_as, room}
use Rattle.pack_laws.specs.pack_model.specs.showing.View.{Home, view}
use Rattle.pack_laws.specs.pack_model.specs.showing.Settling.{most_suffixes, show}
use Rattle.pack_laws.specs.pack_model.specs.operations.Step.{new_leader}
use Rattle.pack_laws.proofs.Keys.{fid_total}
use Rattle.pack_laws.proofs.ByLists.{puts, entries-puts, read_list, room_is, seen_by, seen_list, shown_list}
use Rattle.pack_vectors.proofs.Shapes.{small}
use Rattle.pack_vectors.proofs.SmallPacks.{copied, unread, three_x, in_d, made_6, made_7, appended_8, appended_9, no_leader, all_free, versions, good_up_to, file_of_bytes, file_3}

abbrev directory : List ℕ → List Item → File
directory name is = record { leader = new_leader name 1000; body = items_of is }

-- SysDir with these slots after the entries of the two system files
abbrev root_with : List Item → Fid × File
root_with is = (sys_dir, directory sys_dir_name (entry sys_dir sys_dir_name ∷ entry disk_descriptor descriptor_name ∷ is))

abbrev files_of : Pack → List (Fid × File)
files_of p = entries (read_as p).files

-- ---- files, by rising full name: DiskDescriptor isn't among them
-- the lower of two copies counts
copied_files : files_of copied ≡ (file_3, file_of_bytes (codes "A.") (codes "ABCDE")) ∷ root_with (entry file_3 (codes "A.") ∷ space 223 ∷ []) ∷ []
unfolding sights_from sight real_of in_range is_free leader_of leader_name is_readable is_stored_name first joined most_pages file_bytes slots_after slot_at is_entry keeps_system
copied_files = read_list small (sights copied)

-- the slots end where one can't be read
unread_files : files_of unread ≡ (file_3, file_of_bytes (codes "A.") (codes "ABCDE")) ∷ root_with [] ∷ []
unfolding sights_from sight real_of in_range is_free leader_of leader_name is_readable is_stored_name first joined most_pages file_bytes slots_after slot_at is_entry keeps_system
unread_files = read_list small (sights unread)

-- an entry whose file doesn't live is a free slot of its length
leaderless_files : files_of no_leader ≡ root_with (space 8 ∷ space 223 ∷ []) ∷ []
unfolding sights_from sight real_of in_range is_free leader_of leader_name is_readable is_stored_name first joined most_pages file_bytes slots_after slot_at is_entry keeps_system
leaderless_files = read_list small (sights no_leader)

-- a make has happened once the leader has its label
made_files : (files_of made_6 ≡ root_with (space 231 ∷ []) ∷ []) × (files_of made_7 ≡ (file_3, file_of_bytes (codes "A.") []) ∷ root_with (space 231 ∷ []) ∷ [])
unfolding sights_from sight real_of in_range is_free leader_of leader_name is_readable is_stored_name first joined most_pages file_bytes slots_after slot_at is_entry keeps_system
made_files = (read_list small (sights made_6), read_list small (sights made_7))

-- bytes are appended once the old last page counts 512, whatever its link
appended_files :
    (files_of appended_8 ≡ (file_3, file_of_bytes (codes "A.") []) ∷ root_with (entry file_3 (codes "A.") ∷ space 223 ∷ []) ∷ [])
    × (files_of appended_9 ≡ (file_3, file_of_bytes (codes "A.") (replicate 1200 65)) ∷ root_with (entry file_3 (codes "A.") ∷ space 223 ∷ []) ∷ [])
unfolding sights_from sight real_of in_range is_free leader_of leader_name is_readable is_stored_name first joined most_pages file_bytes slots_after slot_at is_entry keeps_system
appended_files = (read_list small (sights appended_8), read_list small (sights appended_9))

-- ordinary files come before directories, SysDir before the others
three_files : files_of three_x
    ≡ (ordinary_fid 4, file_of_bytes (codes "X.") [])
    ∷ (ordinary_fid 6, file_of_bytes (codes "X.") [])
    ∷ (ordinary_fid 7, file_of_bytes (codes "X.") [])
    ∷ root_with (entry (directory_fid 3) (codes "D.") ∷ entry (directory_fid 5) (codes "E.") ∷ entry (ordinary_fid 7) (codes "X.") ∷ space 207 ∷ [])
    ∷ (directory_fid 3, directory (codes "D.") (space 8 ∷ space 247 ∷ []))
    ∷ (directory_fid 5, directory (codes "E.") (space 8 ∷ space 247 ∷ []))
    ∷ []
unfolding sights_from sight real_of in_range is_free leader_of leader_name is_readable is_stored_name first joined most_pages file_bytes slots_after slot_at is_entry keeps_system
three_files = read_list small (sights three_x)

no_files : files_of all_free ≡ []
unfolding sights_from sight real_of in_range is_free leader_of leader_name is_readable is_stored_name first joined most_pages file_bytes slots_after slot_at is_entry keeps_system
no_files = read_list small (sights all_free)

-- ---- numbers
-- the last serial, 0 where DiskDescriptor has no words; the good sectors
numbers :
    ((read_as copied).last ≡ 3) × ((read_as three_x).last ≡ 7) × ((read_as made_6).last ≡ 3) × ((read_as all_free).last ≡ 0)
    × ((read_as copied).good ≡ 47) × ((read_as all_free).good ≡ 47) × ((read_as (good_up_to 7 copied)).good ≡ 6)
unfolding read_sights sights_from sight real_of in_range is_free leader_of leader_name is_readable is_stored_name first joined most_pages file_bytes
numbers = (refl, refl, refl, refl, refl, refl, refl)

-- the room: with a file of five bytes 41 sectors, with one of 1,200 bytes 39; where nothing lives, all but two for DiskDescriptor
rooms : (room (read_as copied) ≡ 41) × (room (read_as appended_9) ≡ 39) × (room (read_as all_free) ≡ 45)
unfolding sights_from sight real_of in_range is_free leader_of leader_name is_readable is_stored_name first joined most_pages file_bytes slots_after slot_at is_entry keeps_system
rooms = (room_is copied, room_is appended_9, room_is all_free)

-- ---- what is shown
-- three files of one name: the one with an entry has it, the others get its suffixes by rising full name
abbrev in_root : Fid → List ℕ → Fid × Home
in_root f name = (f, record { dir = sys_dir; name = name })

three_names : entries (show three_x).names
    ≡ in_root (ordinary_fid 4) (codes "X.$1.")
    ∷ in_root (ordinary_fid 6) (codes "X.$2.")
    ∷ in_root (ordinary_fid 7) (codes "X.")
    ∷ in_root (directory_fid 3) (codes "D.")
    ∷ in_root (directory_fid 5) (codes "E.")
    ∷ []
unfolding sights_from sight real_of in_range is_free leader_of leader_name is_readable is_stored_name first joined most_pages file_bytes slots_after slot_at is_entry keeps_system most_suffixes suffixed digits
three_names = shown_list three_x

-- versions of a name stand beside each other; a nameless file of one that is there gets its suffix before the version
version_names : entries (show versions).names
    ≡ in_root (ordinary_fid 3) (codes "A.")
    ∷ in_root (ordinary_fid 4) (codes "a!2.")
    ∷ in_root (ordinary_fid 5) (codes "A!10.")
    ∷ in_root (ordinary_fid 6) (codes "A.$1!2.")
    ∷ []
unfolding sights_from sight real_of in_range is_free leader_of leader_name is_readable is_stored_name first joined most_pages file_bytes slots_after slot_at is_entry keeps_system most_suffixes suffixed digits
version_names = shown_list versions

-- a file whose entry can't be read is shown by its leader's name; one that has no leader isn't shown
shown_names : (entries (show unread).names ≡ in_root file_3 (codes "A.") ∷ []) × (entries (show no_leader).names ≡ [])
unfolding sights_from sight real_of in_range is_free leader_of leader_name is_readable is_stored_name first joined most_pages file_bytes slots_after slot_at is_entry keeps_system most_suffixes suffixed digits
shown_names = (shown_list unread, shown_list no_leader)

-- files without the system's, and of a directory no bytes
seen_files : entries (view (read_as in_d)).files
    ≡ (ordinary_fid 4, record { leader = new_leader (codes "A.") 1000; bytes = Some (codes "ABCDE") })
    ∷ (directory_fid 3, record { leader = new_leader (codes "D.") 1000; bytes = None })
    ∷ []
unfolding sights_from sight real_of in_range is_free leader_of leader_name is_readable is_stored_name first joined most_pages file_bytes slots_after slot_at is_entry keeps_system
seen_files = seen_list (read_as in_d) ∙ ap seen_by (read_list small (sights in_d))

-- ---- a file by its serial
-- of several with this serial the one of least full name: an ordinary file before a directory, a lower version before a higher one
abbrev stored : Fid → Fid × StoredFile
stored f = (f, record { leader = new_leader (codes "A.") 1000; bytes = [] })

abbrev version_2 : Fid
version_2 = record { high = 0; low = 3; version = 2 }

abbrev by_serial : List (Fid × StoredFile) → ℕ → Option (Fid × StoredFile)
by_serial es serial = file_of_serial (from_entries es) serial

serials_found :
    (by_serial (stored (directory_fid 3) ∷ stored version_2 ∷ stored file_3 ∷ []) 3 ≡ Some (stored file_3))
    × (by_serial (stored (directory_fid 3) ∷ stored version_2 ∷ []) 3 ≡ Some (stored version_2))
    × (by_serial (stored (directory_fid 3) ∷ []) 3 ≡ Some (stored (directory_fid 3)))
    × (by_serial (stored file_3 ∷ []) 4 ≡ None)
serials_found = (
  by (stored (directory_fid 3) ∷ stored version_2 ∷ stored file_3 ∷ []) 3,
  by (stored (directory_fid 3) ∷ stored version_2 ∷ []) 3,
  by (stored (directory_fid 3) ∷ []) 3,
  by (stored file_3 ∷ []) 4,
)
  where
    by : (es : List (Fid × StoredFile)) (serial : ℕ) → by_serial es serial ≡ find (λ e. serial_of e.0 == serial) (puts fid_cmp es)
    by es serial = ap (find (λ e. serial_of e.0 == serial)) (entries-puts fid_total es)
