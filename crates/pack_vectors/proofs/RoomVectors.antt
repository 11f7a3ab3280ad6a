-- Small cases of rooms for entries, of the values that an entry takes, and of entries that are kept.
use Rattle.std.proofs.Common.{◌≡◌, ℕ, Bool, true, List, [], ◌∷◌, ◌++◌, Some, None, refl, ap}
use Rattle.std.specs.Prelude.{not, codes, replicate}
use Rattle.std.specs.FinMap.{from_entries}
use Rattle.pack_laws.specs.alto_words.specs.declared.fid.Fid.{Fid}
use Rattle.pack_laws.specs.alto_words.specs.Fid.{is_fid, sys_dir, disk_descriptor, ordinary_fid, directory_fid}
use Rattle.pack_laws.specs.pack_model.specs.reading.Slots.{Item}
use Rattle.pack_laws.specs.pack_model.specs.reading.Slots.Item.{space, entry}
use Rattle.pack_laws.specs.pack_model.specs.reading.Bodies.{File}
use Rattle.pack_laws.specs.pack_model.specs.reading.Bodies.Body.{items_of}
use Rattle.pack_laws.specs.pack_model.specs.reading.Namings.{sys_dir_name, descriptor_name, is_kept, keeps_system, items_kept, files_kept, tidied}
use Rattle.pack_laws.specs.pack_model.specs.operations.Rooms.{find_room, placed, largest_run, items_entered}
use Rattle.pack_laws.specs.pack_model.specs.operations.Step.{items_left, new_leader}
use Rattle.pack_laws.specs.pack_model.specs.scavenger.Mended.{widens}
use Rattle.pack_laws.specs.pack_model.specs.operations.Committing.{values_before, pages_added, pages_cut, entry_place}
use Rattle.pack_laws.proofs.Keys.{fid_total, fid_same}
use Rattle.pack_laws.proofs.Mapping.{entries-from_entries}
use Rattle.pack_vectors.proofs.SmallPacks.{file_3}

-- ---- room for entries
abbrev name_39 : List ℕ
name_39 = replicate 38 97 ++ codes "."

-- the first slot that has the words; the fewest slots side by side; none with more than 1,023 words together
rooms :
    (find_room 26 (entry file_3 (codes "A.") ∷ space 248 ∷ []) ≡ Some (record { first = 1; place = 8; total = 248 }))
    × (find_room 26 (space 10 ∷ space 20 ∷ []) ≡ Some (record { first = 0; place = 0; total = 30 }))
    × (find_room 8 (space 10 ∷ space 20 ∷ []) ≡ Some (record { first = 0; place = 0; total = 10 }))
    × (find_room 8 (space 8 ∷ space 20 ∷ []) ≡ Some (record { first = 0; place = 0; total = 8 }))
    × (find_room 26 (space 10 ∷ entry file_3 (codes "A.") ∷ space 25 ∷ []) ≡ None)
    × (find_room 26 (space 10 ∷ space 1020 ∷ []) ≡ Some (record { first = 1; place = 10; total = 1020 }))
rooms = (refl, refl, refl, refl, refl, refl)

runs : (largest_run (space 10 ∷ space 20 ∷ entry file_3 (codes "A.") ∷ space 25 ∷ []) ≡ 30) × (largest_run [] ≡ 0)
runs = (refl, refl)

-- an entry and the words left over; none left over; no room
entered :
    (items_entered (entry disk_descriptor descriptor_name) (space 10 ∷ space 20 ∷ []) ≡ entry disk_descriptor descriptor_name ∷ space 16 ∷ [])
    × (items_entered (entry file_3 (codes "A.")) (space 8 ∷ space 20 ∷ []) ≡ entry file_3 (codes "A.") ∷ space 20 ∷ [])
    × (items_entered (entry file_3 (codes "A.")) (space 7 ∷ []) ≡ space 7 ∷ [])
unfolding placed
entered = (refl, refl, refl)

-- the first entry with the name becomes a free slot of its length, whatever its case
left : items_left (codes "a.") (space 1 ∷ entry file_3 (codes "A.") ∷ entry (ordinary_fid 4) (codes "A.") ∷ []) ≡ space 1 ∷ space 8 ∷ entry (ordinary_fid 4) (codes "A.") ∷ []
left = refl

-- a fresh SysDir has room for both system entries; one of 10 words gets a page for the second; one of 1 word gets a page for the
-- first, and the others go there too; nine of the longest entries go in a page, and so eleven take two
root_widens : (widens (space 255 ∷ []) ((sys_dir, sys_dir_name) ∷ (disk_descriptor, descriptor_name) ∷ []) ≡ 0)
    × (widens (space 10 ∷ []) ((sys_dir, sys_dir_name) ∷ (disk_descriptor, descriptor_name) ∷ []) ≡ 1)
    × (widens (space 1 ∷ []) ((sys_dir, sys_dir_name) ∷ (disk_descriptor, descriptor_name) ∷ (file_3, codes "A.") ∷ []) ≡ 1)
    × (widens (space 1 ∷ []) (replicate 11 (file_3, name_39)) ≡ 2)
unfolding widens placed
root_widens = (refl, refl, refl, refl)

-- ---- record writes
-- 10 free words and 20 after them are joined; words over the end of page 1 take a value of page 2; 23 words that end page 1 and
-- a page of 256 take both
values : (values_before (space 248 ∷ []) 26 (Some (record { first = 0; place = 0; total = 248 })) ≡ 0)
    × (values_before (space 10 ∷ space 20 ∷ []) 26 (Some (record { first = 0; place = 0; total = 30 })) ≡ 1)
    × (values_before (space 235 ∷ []) 26 (Some (record { first = 0; place = 230; total = 26 })) ≡ 1)
    × (values_before (space 23 ∷ space 256 ∷ []) 26 (Some (record { first = 0; place = 232; total = 279 })) ≡ 2)
values = (refl, refl, refl, refl)

-- a file that comes to fill its last page gets another
pages : (pages_added 0 1200 ≡ 2) × (pages_added 500 11 ≡ 0) × (pages_added 500 12 ≡ 1) × (pages_cut 512 0 ≡ 1) × (pages_cut 1500 1024 ≡ 0)
pages = (refl, refl, refl, refl, refl)

entry_found : entry_place (codes "B.") 0 (space 3 ∷ entry file_3 (codes "A.") ∷ entry (ordinary_fid 4) (codes "b.") ∷ []) ≡ 11
entry_found = refl

-- ---- entries that are kept
-- a second entry of a file goes, and a name for the second time, a system file under another name, a system name for another
-- file, a directory in another than SysDir
abbrev alive : Fid → Bool
alive f = true

abbrev kept_in : Fid → List Item → List Item
kept_in d is = items_kept (is_kept alive) d [] is

kept :
    (kept_in sys_dir (entry file_3 (codes "A.") ∷ entry file_3 (codes "B.") ∷ []) ≡ entry file_3 (codes "A.") ∷ space 8 ∷ [])
    × (kept_in sys_dir (entry file_3 (codes "A.") ∷ entry (ordinary_fid 4) (codes "a.") ∷ []) ≡ entry file_3 (codes "A.") ∷ space 8 ∷ [])
    × (kept_in sys_dir (entry disk_descriptor (codes "A.") ∷ []) ≡ space 8 ∷ [])
    × (kept_in sys_dir (entry disk_descriptor (codes "diskdescriptor.") ∷ []) ≡ entry disk_descriptor (codes "diskdescriptor.") ∷ [])
    × (kept_in sys_dir (entry file_3 (codes "SYSDIR.") ∷ []) ≡ space 10 ∷ [])
    × (kept_in (directory_fid 4) (entry file_3 (codes "SysDir.") ∷ []) ≡ entry file_3 (codes "SysDir.") ∷ [])
    × (kept_in (directory_fid 4) (entry (directory_fid 5) (codes "D.") ∷ []) ≡ space 8 ∷ [])
    × (kept_in sys_dir (entry (directory_fid 5) (codes "D.") ∷ []) ≡ entry (directory_fid 5) (codes "D.") ∷ [])
unfolding keeps_system
kept = (refl, refl, refl, refl, refl, refl, refl, refl)

-- the entry of a file that doesn't live goes, and its name may be had by the next, and so may a name whose entry doesn't fit
abbrev alive_but_3 : Fid → Bool
alive_but_3 f = not (is_fid f file_3)

dead_entry :
    (items_kept (is_kept alive_but_3) sys_dir [] (entry file_3 (codes "A.") ∷ entry (ordinary_fid 4) (codes "a.") ∷ []) ≡ space 8 ∷ entry (ordinary_fid 4) (codes "a.") ∷ [])
    × (kept_in (directory_fid 4) (entry (directory_fid 5) (codes "D.") ∷ entry file_3 (codes "D.") ∷ []) ≡ space 8 ∷ entry file_3 (codes "D.") ∷ [])
unfolding keeps_system
dead_entry = (refl, refl)

-- one scan goes over all directories: a file that SysDir has isn't kept in another one, and a name may stand in both
abbrev dir_with : List Item → File
dir_with is = record { leader = new_leader (codes "D.") 1000; body = items_of is }

abbrev two_dirs : List (Fid × File)
two_dirs =
    (sys_dir, dir_with (entry file_3 (codes "A.") ∷ space 9 ∷ entry (directory_fid 4) (codes "D.") ∷ []))
    ∷ (directory_fid 4, dir_with (entry file_3 (codes "B.") ∷ entry (ordinary_fid 5) (codes "a.") ∷ []))
    ∷ (directory_fid 6, dir_with (entry (ordinary_fid 5) (codes "C.") ∷ []))
    ∷ []

two_tidied : tidied alive (from_entries two_dirs) ≡ from_entries (
    (sys_dir, dir_with (entry file_3 (codes "A.") ∷ space 9 ∷ entry (directory_fid 4) (codes "D.") ∷ []))
    ∷ (directory_fid 4, dir_with (space 8 ∷ entry (ordinary_fid 5) (codes "a.") ∷ []))
    ∷ (directory_fid 6, dir_with (space 8 ∷ []))
    ∷ []
    )
unfolding tidied keeps_system
two_tidied = ap (λ es. from_entries (files_kept (is_kept alive) [] es)) (entries-from_entries fid_total fid_same two_dirs tt)
