-- Small cases of entries by version: which one an operand means, and the name that a new entry gets.
use Rattle.std.proofs.Common.{◌≡◌, ℕ, true, false, List, [], ◌∷◌, ◌++◌, Some, None, refl}
use Rattle.std.specs.Prelude.{codes, replicate}
use Rattle.std.specs.Fmt.{digits}
use Rattle.pack_laws.specs.alto_words.specs.Fid.{sys_dir, disk_descriptor, ordinary_fid, directory_fid}
use Rattle.pack_laws.specs.alto_words.specs.declared.wanted.Wanted.TheVariants.{Exact, Newest}
use Rattle.pack_laws.specs.pack_model.specs.reading.Slots.{Item}
use Rattle.pack_laws.specs.pack_model.specs.reading.Slots.Item.{space, entry}
use Rattle.pack_laws.specs.pack_model.specs.reading.Namings.{sys_dir_name, descriptor_name}
use Rattle.pack_laws.specs.pack_model.specs.reading.Versions.{newest, greatest_version, exact, entry_wanted, is_held, new_name, is_name_taken, is_base_taken}
use Rattle.pack_laws.specs.pack_model.specs.operations.Step.{items_left}

-- the entry of an ordinary file with this serial
abbrev file : ℕ → List ℕ → Item
file serial name = entry (ordinary_fid serial) name

-- SysDir with three versions of one name, not in their order, two of them in another case; one version of another, above the first; and
-- a directory
abbrev root : List Item
root =
    entry sys_dir sys_dir_name
    ∷ entry disk_descriptor descriptor_name
    ∷ file 3 (codes "A.")
    ∷ space 9
    ∷ file 5 (codes "a!10.")
    ∷ file 4 (codes "A!2.")
    ∷ file 6 (codes "B!3.")
    ∷ entry (directory_fid 7) (codes "D.")
    ∷ []

-- ---- the entry that is meant
-- the greatest version as a number, whatever the order of the slots and the case; none of a base that no entry has, as one that begins
-- another
newest_found :
    (newest (codes "A.") root ≡ Some (ordinary_fid 5, codes "a!10."))
    × (newest (codes "a.") root ≡ Some (ordinary_fid 5, codes "a!10."))
    × (newest (codes "B.") root ≡ Some (ordinary_fid 6, codes "B!3."))
    × (newest (codes "D.") root ≡ Some (directory_fid 7, codes "D."))
    × (newest (codes "A.B.") root ≡ None)
    × (newest (codes "SysDir") root ≡ None)
newest_found = (refl, refl, refl, refl, refl, refl)

-- where two entries have one name, which a tidy directory never has, the first one
first_of_two : newest (codes "A.") (file 3 (codes "A!2.") ∷ file 4 (codes "a!2.") ∷ []) ≡ Some (ordinary_fid 3, codes "A!2.")
first_of_two = refl

greatest : (greatest_version (codes "A.") root ≡ 10) × (greatest_version (codes "D.") root ≡ 1) × (greatest_version (codes "C.") root ≡ 0)
greatest = (refl, refl, refl)

-- an exact name, with its version; the version 1 of a base is there only where an entry has it
exact_found :
    (exact (codes "a.") root ≡ Some (ordinary_fid 3, codes "A."))
    × (exact (codes "A!2.") root ≡ Some (ordinary_fid 4, codes "A!2."))
    × (exact (codes "A!10.") root ≡ Some (ordinary_fid 5, codes "a!10."))
    × (exact (codes "A!3.") root ≡ None)
    × (exact (codes "B.") root ≡ None)
exact_found = (refl, refl, refl, refl, refl)

meant :
    (entry_wanted (Exact (codes "A.")) root ≡ Some (ordinary_fid 3, codes "A."))
    × (entry_wanted (Newest (codes "A.")) root ≡ Some (ordinary_fid 5, codes "a!10."))
    × (entry_wanted (Newest (codes "B.")) root ≡ Some (ordinary_fid 6, codes "B!3."))
    × (entry_wanted (Exact (codes "B.")) root ≡ None)
meant = (refl, refl, refl, refl)

-- ---- the name of a new entry
-- directories and system files hold their bare names, in any case; an ordinary file doesn't, nor does a directory that a foreign hand has
-- numbered
held :
    (is_held (codes "d.") root ≡ true)
    × (is_held (codes "sysdir.") root ≡ true)
    × (is_held (codes "DiskDescriptor.") root ≡ true)
    × (is_held (codes "A.") root ≡ false)
    × (is_held (codes "C.") root ≡ false)
    × (is_held (codes "E.") (entry (directory_fid 8) (codes "E!2.") ∷ []) ≡ false)
held = (refl, refl, refl, refl, refl, refl)

-- the version after the greatest, whatever lower ones are missing, and in the case that is typed; version 1 of a new base; a stated
-- version that isn't there, also of a base that is held
names_given :
    (new_name (Newest (codes "A.")) root ≡ Some (codes "A!11."))
    × (new_name (Newest (codes "b.")) root ≡ Some (codes "b!4."))
    × (new_name (Newest (codes "C.")) root ≡ Some (codes "C."))
    × (new_name (Newest (codes "D.")) root ≡ Some (codes "D!2."))
    × (new_name (Exact (codes "A!3.")) root ≡ Some (codes "A!3."))
    × (new_name (Exact (codes "B.")) root ≡ Some (codes "B."))
    × (new_name (Exact (codes "a!2.")) root ≡ None)
unfolding digits
names_given = (refl, refl, refl, refl, refl, refl, refl)

-- a stated version that is there; a base that is held, whether or not a version is stated; else none
taken :
    (is_name_taken (Exact (codes "a!2.")) root ≡ true)
    × (is_name_taken (Newest (codes "d.")) root ≡ true)
    × (is_name_taken (Exact (codes "D!5.")) root ≡ true)
    × (is_name_taken (Newest (codes "SysDir.")) root ≡ true)
    × (is_name_taken (Newest (codes "A.")) root ≡ false)
    × (is_name_taken (Exact (codes "A!3.")) root ≡ false)
    × (is_name_taken (Newest (codes "C.")) root ≡ false)
unfolding digits
taken = (refl, refl, refl, refl, refl, refl, refl)

-- a new directory can't have the base of any entry, whatever its version
bases_taken :
    (is_base_taken (codes "a.") root ≡ true)
    × (is_base_taken (codes "B.") root ≡ true)
    × (is_base_taken (codes "D.") root ≡ true)
    × (is_base_taken (codes "C.") root ≡ false)
bases_taken = (refl, refl, refl, refl)

-- ---- no next version
-- after the greatest there is none; a lower one may be stated
abbrev full : List Item
full = file 3 (codes "A!65534.") ∷ []

versions_spent :
    (new_name (Newest (codes "A.")) full ≡ None)
    × (is_name_taken (Newest (codes "A.")) full ≡ true)
    × (new_name (Exact (codes "A!7.")) full ≡ Some (codes "A!7."))
    × (new_name (Newest (codes "A.")) (file 3 (codes "A!65533.") ∷ []) ≡ Some (codes "A!65534."))
unfolding digits
versions_spent = (refl, refl, refl, refl)

-- so many letters
abbrev letters : ℕ → List ℕ
letters n = replicate n 97

-- a name of 38 letters and its `.` has no second version, which would have 41 characters, and one of 36 letters has no tenth
names_too_long :
    (new_name (Newest (letters 38 ++ codes ".")) [] ≡ Some (letters 38 ++ codes "."))
    × (new_name (Newest (letters 38 ++ codes ".")) (file 3 (letters 38 ++ codes ".") ∷ []) ≡ None)
    × (is_name_taken (Newest (letters 38 ++ codes ".")) (file 3 (letters 38 ++ codes ".") ∷ []) ≡ true)
    × (new_name (Newest (letters 36 ++ codes ".")) (file 3 (letters 36 ++ codes "!8.") ∷ []) ≡ Some (letters 36 ++ codes "!9."))
    × (new_name (Newest (letters 36 ++ codes ".")) (file 3 (letters 36 ++ codes "!9.") ∷ []) ≡ None)
unfolding digits
names_too_long = (refl, refl, refl, refl, refl)

-- ---- `rename A A`
-- the entry that goes is the newest, and the new name is asked of the directory before it goes: the version after it, and not its own
renamed :
    (new_name (Newest (codes "A.")) root ≡ Some (codes "A!11."))
    × (new_name (Newest (codes "A.")) (items_left (codes "a!10.") root) ≡ Some (codes "A!3."))
    × (new_name (Newest (codes "A.")) (file 3 (codes "A.") ∷ []) ≡ Some (codes "A!2."))
unfolding digits
renamed = (refl, refl, refl)
