-- Small cases of look-up where slots stand: the entry that an operand means, with its place and its address, and bases that are held.
use Rattle.std.proofs.Common.{◌≡◌, ℕ, true, false, List, [], ◌∷◌, ◌++◌, Some, None, refl}
use Rattle.std.specs.Prelude.{codes}
use Rattle.pack_laws.specs.alto_words.specs.Fid.{sys_dir, disk_descriptor, ordinary_fid, directory_fid}
use Rattle.pack_laws.specs.alto_words.specs.declared.wanted.Wanted.TheVariants.{Exact, Newest}
use Rattle.pack_laws.specs.pack_model.specs.reading.Slots.{Item}
use Rattle.pack_laws.specs.pack_model.specs.reading.Slots.Item.{space, entry}
use Rattle.pack_laws.specs.pack_model.specs.reading.SlotWords.{SlotAt, entry_words, slots_at, space_words}
use Rattle.pack_laws.specs.pack_model.specs.reading.Namings.{sys_dir_name, descriptor_name}
use Rattle.pack_laws.specs.pack_model.specs.reading.Lookup.{EntryAt, entry_at, is_held_at, meant_by}

-- SysDir's own entry, three versions of one name with four free words between them, a directory, and DiskDescriptor's
-- entry: in words 0, 10, 18, 22, 31, 40 and 48
abbrev words : List ℕ
words =
    entry_words sys_dir 1 sys_dir_name
    ++ entry_words (ordinary_fid 3) 9 (codes "A.")
    ++ space_words 4
    ++ entry_words (ordinary_fid 5) 14 (codes "a!10.")
    ++ entry_words (ordinary_fid 4) 11 (codes "A!2.")
    ++ entry_words (directory_fid 7) 20 (codes "D.")
    ++ entry_words disk_descriptor 3 descriptor_name

abbrev items : List Item
items =
    entry sys_dir sys_dir_name
    ∷ entry (ordinary_fid 3) (codes "A.")
    ∷ space 4
    ∷ entry (ordinary_fid 5) (codes "a!10.")
    ∷ entry (ordinary_fid 4) (codes "A!2.")
    ∷ entry (directory_fid 7) (codes "D.")
    ∷ entry disk_descriptor descriptor_name
    ∷ []

abbrev there : List SlotAt
there = slots_at words 0 items

-- the entries in words 10, 22 and 31
abbrev first_version : EntryAt
first_version = record { fid = ordinary_fid 3; name = codes "A."; place = 10; address = 9 }

abbrev tenth_version : EntryAt
tenth_version = record { fid = ordinary_fid 5; name = codes "a!10."; place = 22; address = 14 }

abbrev second_version : EntryAt
second_version = record { fid = ordinary_fid 4; name = codes "A!2."; place = 31; address = 11 }

-- ---- the entry that is meant
-- the greatest version of a base, whatever comes after it; an exact name in any case; none of a name or a base that isn't there
meant_there :
    (entry_at (Newest (codes "A.")) there ≡ Some tenth_version)
    × (entry_at (Exact (codes "a.")) there ≡ Some first_version)
    × (entry_at (Exact (codes "a!2.")) there ≡ Some second_version)
    × (entry_at (Newest (codes "D.")) there ≡ Some (record { fid = directory_fid 7; name = codes "D."; place = 40; address = 20 }))
    × (entry_at (Exact (codes "A!3.")) there ≡ None)
    × (entry_at (Newest (codes "B.")) there ≡ None)
unfolding slots_at
meant_there = (refl, refl, refl, refl, refl, refl)

-- slot by slot: a greater version comes in the place of a lower one, and a lower one, an equal one and a free slot change nothing
abbrev again : SlotAt
again = record { place = 62; item = entry (ordinary_fid 8) (codes "A!10."); address = 30 }

met_one_by_one :
    (meant_by (Newest (codes "A.")) (Some second_version) (record { place = 22; item = entry (ordinary_fid 5) (codes "a!10."); address = 14 }) ≡ Some tenth_version)
    × (meant_by (Newest (codes "A.")) (Some tenth_version) (record { place = 31; item = entry (ordinary_fid 4) (codes "A!2."); address = 11 }) ≡ Some tenth_version)
    × (meant_by (Newest (codes "A.")) (Some tenth_version) again ≡ Some tenth_version)
    × (meant_by (Exact (codes "A!10.")) (Some tenth_version) again ≡ Some tenth_version)
    × (meant_by (Exact (codes "A!10.")) None again ≡ Some (record { fid = ordinary_fid 8; name = codes "A!10."; place = 62; address = 30 }))
    × (meant_by (Newest (codes "A.")) None (record { place = 18; item = space 4; address = 0 }) ≡ None)
met_one_by_one = (refl, refl, refl, refl, refl, refl)

-- ---- bases that are held
-- by a directory or a system file of that name, in any case, and not by an ordinary file
held_there :
    (is_held_at (codes "d.") there ≡ true)
    × (is_held_at (codes "SysDir.") there ≡ true)
    × (is_held_at (codes "diskdescriptor.") there ≡ true)
    × (is_held_at (codes "A.") there ≡ false)
    × (is_held_at (codes "D!2.") there ≡ false)
unfolding slots_at
held_there = (refl, refl, refl, refl, refl)
