-- Small cases of what operations change in a file and in a directory, and of the widenings before a line.
use Rattle.std.proofs.Common.{◌≡◌, ℕ, List, [], ◌∷◌, Some, refl, ap, ◌∙◌}
use Rattle.std.specs.Prelude.{cond, nat_le, codes}
use Rattle.std.specs.Option.{option_map}
use Rattle.std.specs.FinMap.{get, from_entries, get-from_entries}
use Rattle.pack_laws.specs.alto_words.specs.declared.fid.Fid.{Fid}
use Rattle.pack_laws.specs.alto_words.specs.Fid.{sys_dir, ordinary_fid}
use Rattle.pack_laws.specs.pack_model.specs.sessions.Maps.{update}
use Rattle.pack_laws.specs.pack_model.specs.reading.Slots.{Item}
use Rattle.pack_laws.specs.pack_model.specs.reading.Slots.Item.{space, entry}
use Rattle.pack_laws.specs.pack_model.specs.reading.Bodies.{File, items_in}
use Rattle.pack_laws.specs.pack_model.specs.reading.Bodies.Body.{items_of}
use Rattle.pack_laws.specs.pack_model.specs.reading.Namings.{sys_dir_name}
use Rattle.pack_laws.specs.pack_model.specs.reading.Model.{Model, dir_items}
use Rattle.pack_laws.specs.pack_model.specs.operations.Rooms.{placed, largest_run}
use Rattle.pack_laws.specs.pack_model.specs.operations.Step.{step, new_leader, spare_widening, room_widening}
use Rattle.pack_laws.specs.pack_model.specs.operations.Step.Operation.{put, grow, cut, title, leave, enter, widen}
use Rattle.pack_laws.proofs.Keys.{fid_total, fid_same}
use Rattle.pack_laws.proofs.Mapping.{get-update}
use Rattle.pack_vectors.proofs.Shapes.{small}
use Rattle.pack_vectors.proofs.SmallPacks.{file_of_bytes, dir_4, file_3}

-- ---- a model with a file of five bytes, and SysDir with its entry and ten free words
abbrev directory_of : List Item → File
directory_of is = record { leader = new_leader sys_dir_name 1000; body = items_of is }

abbrev two_files : List (Fid × File)
two_files = (sys_dir, directory_of (entry file_3 (codes "A.") ∷ space 10 ∷ [])) ∷ (file_3, file_of_bytes (codes "A.") (codes "ABCDE")) ∷ []

abbrev model_by : List (Fid × File) → Model
model_by es = record { shape = small; good = 47; last = 3; files = from_entries es }

abbrev m : Model
m = model_by two_files

-- ---- what is changed
changed : (g : File → File) → get (update m.files file_3 g) file_3 ≡ Some (g (file_of_bytes (codes "A.") (codes "ABCDE")))
changed g = get-update fid_total fid_same m.files file_3 g file_3 ∙ ap (option_map g) (get-from_entries fid_total two_files file_3)

changed_root : (g : File → File) → get (update m.files sys_dir g) sys_dir ≡ Some (g (directory_of (entry file_3 (codes "A.") ∷ space 10 ∷ [])))
changed_root g = get-update fid_total fid_same m.files sys_dir g sys_dir ∙ ap (option_map g) (get-from_entries fid_total two_files sys_dir)

-- bytes in the place of others; after the last; the first ones kept; another name, and nothing else
file_changes :
    (get (step m (put file_3 1 (codes "BB"))).files file_3 ≡ Some (file_of_bytes (codes "A.") (codes "ABBDE")))
    × (get (step m (grow file_3 (codes "FG"))).files file_3 ≡ Some (file_of_bytes (codes "A.") (codes "ABCDEFG")))
    × (get (step m (cut file_3 2)).files file_3 ≡ Some (file_of_bytes (codes "A.") (codes "AB")))
    × (get (step m (title file_3 (codes "B."))).files file_3 ≡ Some (file_of_bytes (codes "B.") (codes "ABCDE")))
file_changes = (changed _, changed _, changed _, changed _)

-- an entry that becomes a free slot of its length; one more, and the words left over; a page more
root_changes :
    (get (step m (leave sys_dir (codes "a."))).files sys_dir ≡ Some (directory_of (space 8 ∷ space 10 ∷ [])))
    × (get (step m (enter sys_dir (codes "B.") (ordinary_fid 4))).files sys_dir ≡ Some (directory_of (entry file_3 (codes "A.") ∷ entry (ordinary_fid 4) (codes "B.") ∷ space 2 ∷ [])))
    × (get (step m (widen sys_dir)).files sys_dir ≡ Some (directory_of (entry file_3 (codes "A.") ∷ space 10 ∷ space 256 ∷ [])))
unfolding placed
root_changes = (changed_root _, changed_root _, changed_root _)

-- ---- the widenings before a line that makes or renames a file
abbrev one_dir : Fid → List Item → Model
one_dir d is = model_by ((d, directory_of is) ∷ [])

-- SysDir keeps 26 free words in a row, whatever the name
spares :
    (spare_widening (one_dir sys_dir (space 26 ∷ [])) ≡ [])
    × (spare_widening (one_dir sys_dir (space 25 ∷ [])) ≡ widen sys_dir ∷ [])
    × (spare_widening (one_dir sys_dir (space 13 ∷ space 13 ∷ [])) ≡ [])
    × (spare_widening (one_dir sys_dir (space 13 ∷ entry file_3 (codes "A.") ∷ space 13 ∷ [])) ≡ widen sys_dir ∷ [])
spares = (by (space 26 ∷ []), by (space 25 ∷ []), by (space 13 ∷ space 13 ∷ []), by (space 13 ∷ entry file_3 (codes "A.") ∷ space 13 ∷ []))
  where
    by : (is : List Item) → spare_widening (one_dir sys_dir is) ≡ cond (nat_le 26 (largest_run is)) [] (widen sys_dir ∷ [])
    by is = ap (λ r. cond (nat_le 26 (largest_run (items_in r))) [] (widen sys_dir ∷ [])) (get-from_entries fid_total ((sys_dir, directory_of is) ∷ []) sys_dir)

-- another directory has the words of the entry; SysDir isn't widened twice
rooms_in :
    (room_widening (one_dir dir_4 (space 8 ∷ [])) dir_4 (codes "A.") ≡ [])
    × (room_widening (one_dir dir_4 (space 7 ∷ [])) dir_4 (codes "A.") ≡ widen dir_4 ∷ [])
    × (room_widening (one_dir dir_4 (space 8 ∷ [])) dir_4 (codes "AB.") ≡ [])
    × (room_widening (one_dir dir_4 (space 8 ∷ [])) dir_4 (codes "ABC.") ≡ widen dir_4 ∷ [])
    × (room_widening (one_dir sys_dir (space 7 ∷ [])) sys_dir (codes "A.") ≡ [])
rooms_in = (by (space 8 ∷ []) 8, by (space 7 ∷ []) 8, by (space 8 ∷ []) 8, by (space 8 ∷ []) 9, refl)
  where
    by : (is : List Item) (n : ℕ) → cond (nat_le n (largest_run (dir_items (one_dir dir_4 is) dir_4))) [] (widen dir_4 ∷ []) ≡ cond (nat_le n (largest_run is)) [] (widen dir_4 ∷ [])
    by is n = ap (λ r. cond (nat_le n (largest_run (items_in r))) [] (widen dir_4 ∷ [])) (get-from_entries fid_total ((dir_4, directory_of is) ∷ []) dir_4)
