-- Small cases of operations on a model, and of the record writes that each has.
use Rattle.std.proofs.Common.{◌≡◌, ℕ, List, [], ◌∷◌, Some, None, refl, ap, ◌∙◌}
use Rattle.std.specs.Prelude.{codes, length, replicate, sum_by, take}
use Rattle.std.specs.Option.{option_map}
use Rattle.std.specs.FinMap.{get, from_entries, get-from_entries, get-remove}
use Rattle.pack_laws.specs.alto_words.specs.declared.fid.Fid.{Fid}
use Rattle.pack_laws.specs.alto_words.specs.Fid.{sys_dir, disk_descriptor, ordinary_fid, directory_fid}
use Rattle.pack_laws.specs.pack_model.specs.reading.Slots.Item.{space, entry}
use Rattle.pack_laws.specs.pack_model.specs.reading.Bodies.{File, Files}
use Rattle.pack_laws.specs.pack_model.specs.reading.Bodies.Body.{data_of, items_of}
use Rattle.pack_laws.specs.pack_model.specs.reading.Namings.{sys_dir_name, descriptor_name}
use Rattle.pack_laws.specs.pack_model.specs.reading.Model.{Model}
use Rattle.pack_laws.specs.pack_model.specs.operations.Step.{Operation, step, new_leader, new_file, file_without, on_leader}
use Rattle.pack_laws.specs.pack_model.specs.operations.Step.Operation.{make, title, stamp, drop_file}
use Rattle.pack_laws.specs.pack_model.specs.operations.Operations.{Move, weight_of, make_moves, grow_moves, cut_moves, drop_moves, enter_moves}
use Rattle.pack_laws.specs.pack_model.specs.operations.Committing.{units, pages_added, page_of_byte, pages_cut}
use Rattle.pack_laws.proofs.Keys.{fid_total, fid_same}
use Rattle.pack_laws.proofs.Mapping.{get-map_values, get-update}
use Rattle.pack_vectors.proofs.Shapes.{small}
use Rattle.pack_vectors.proofs.SmallPacks.{file_3, dir_4}

-- ---- a pack with one file, which stands in SysDir
abbrev root_with : File
root_with = record { leader = new_leader sys_dir_name 1000; body = items_of (entry sys_dir sys_dir_name ∷ entry disk_descriptor descriptor_name ∷ entry file_3 (codes "A.") ∷ space 223 ∷ []) }

abbrev file_a : List ℕ → File
file_a bytes = record { leader = new_leader (codes "A.") 1000; body = data_of bytes }

abbrev pub entries_with : List ℕ → List (Fid × File)
entries_with bytes = (sys_dir, root_with) ∷ (file_3, file_a bytes) ∷ []

abbrev files_with : List ℕ → Files
files_with bytes = from_entries (entries_with bytes)

abbrev pub model_with : List ℕ → Model
model_with bytes = record { shape = small; good = 47; last = 3; files = files_with bytes }

-- ---- what operations do
-- the last serial is the new file's, without the directory mark; no other operation changes it
last_given : (m : Model)
    → ((step m (make (ordinary_fid 7) (codes "B.") 1000)).last ≡ 7)
    × ((step m (make (directory_fid 65543) (codes "B.") 1000)).last ≡ 65543)
    × ((step m (drop_file file_3)).last ≡ m.last)
last_given m = (refl, refl, refl)

-- a new directory has one free slot of 255 words, and a new file no bytes; all three dates are the moment
new_files :
    ((new_file dir_4 (codes "D.") 7).body ≡ items_of (space 255 ∷ []))
    × ((new_file file_3 (codes "D.") 7).body ≡ data_of [])
    × ((new_file file_3 (codes "D.") 7).leader.created ≡ 7)
    × ((new_file file_3 (codes "D.") 7).leader.written ≡ 7)
    × ((new_file file_3 (codes "D.") 7).leader.read ≡ 7)
new_files = (refl, refl, refl, refl, refl)

-- a dropped file is gone, and its entry is a free slot of its length
dropped : (bytes : List ℕ) → get (step (model_with bytes) (drop_file file_3)).files file_3 ≡ None
dropped bytes =
    get-map_values fid_total fid_same (file_without file_3) _ file_3
    ∙ ap (option_map (file_without file_3 file_3)) (get-remove fid_total (files_with bytes) file_3 file_3)

root_freed : (bytes : List ℕ) → get (step (model_with bytes) (drop_file file_3)).files sys_dir
    ≡ Some (record { leader = new_leader sys_dir_name 1000; body = items_of (entry sys_dir sys_dir_name ∷ entry disk_descriptor descriptor_name ∷ space 8 ∷ space 223 ∷ []) })
root_freed bytes =
    get-map_values fid_total fid_same (file_without file_3) _ sys_dir
    ∙ ap (option_map (file_without file_3 sys_dir)) (get-remove fid_total (files_with bytes) file_3 sys_dir ∙ get-from_entries fid_total (entries_with bytes) sys_dir)

-- a stamp changes the written date, and not the read one
stamped_file : (bytes : List ℕ) → get (step (model_with bytes) (stamp file_3 2000)).files file_3
    ≡ Some (record { leader = record { created = 1000; written = 2000; read = 1000; name = codes "A."; rest = replicate 220 0 }; body = data_of bytes })
stamped_file bytes =
    get-update fid_total fid_same (files_with bytes) file_3 _ file_3
    ∙ ap (option_map (on_leader (λ l. record l { written = 2000 }))) (get-from_entries fid_total (entries_with bytes) file_3)

-- ---- the record writes of an operation
-- those of each kind: where two pages are new, where they go, where a file has one data page, and where an entry joins free slots
-- and goes over a page's end
abbrev some_operation : Operation
some_operation = title file_3 (codes "A.")

numbers :
    (length (make_moves some_operation) ≡ 6)
    × (length (grow_moves (units (pages_added 0 1200)) some_operation) ≡ 9)
    × (length (grow_moves (units (pages_added 0 511)) some_operation) ≡ 3)
    × (length (cut_moves some_operation (units (pages_cut 1200 100))) ≡ 6)
    × (length (drop_moves some_operation (units (page_of_byte 0))) ≡ 5)
    × (length (enter_moves (units 2) some_operation) ≡ 3)
numbers = (refl, refl, refl, refl, refl, refl)

-- how many of the first so many record writes are operations
abbrev pub done_after : ℕ → List Move → ℕ
done_after k moves = sum_by weight_of (take k moves)

-- the one that commits: the fifth of a make, the eighth of a grow by two pages, the first of a cut and of a drop, the last of an
-- entering
commit_places :
    (done_after 4 (make_moves some_operation) ≡ 0) × (done_after 5 (make_moves some_operation) ≡ 1)
    × (done_after 7 (grow_moves (units 2) some_operation) ≡ 0) × (done_after 8 (grow_moves (units 2) some_operation) ≡ 1)
    × (done_after 1 (cut_moves some_operation (units 2)) ≡ 1)
    × (done_after 1 (drop_moves some_operation (units 1)) ≡ 1)
    × (done_after 2 (enter_moves (units 2) some_operation) ≡ 0) × (done_after 3 (enter_moves (units 2) some_operation) ≡ 1)
commit_places = (refl, refl, refl, refl, refl, refl, refl, refl)
