-- Small cases of the record writes of whole lines, and of a session's end.
use Rattle.std.proofs.Common.{◌≡◌, ℕ, Bool, true, false, List, [], ◌∷◌, ◌++◌, Option, Some, refl, ap, ◌∙◌}
use Rattle.std.specs.Prelude.{codes, length, replicate}
use Rattle.std.specs.Option.{option_map}
use Rattle.std.specs.FinMap.{get, from_entries, get-from_entries, get-insert}
use Rattle.pack_laws.specs.alto_words.specs.declared.fid.Fid.{Fid}
use Rattle.pack_laws.specs.alto_words.specs.Fid.{sys_dir, disk_descriptor, ordinary_fid}
use Rattle.pack_laws.specs.disk_records.specs.declared.records.Event.TheVariants.{Wrote}
use Rattle.pack_laws.specs.pack_model.specs.reading.Slots.Item.{space, entry}
use Rattle.pack_laws.specs.pack_model.specs.reading.Bodies.{File, items_in}
use Rattle.pack_laws.specs.pack_model.specs.reading.Bodies.Body.{items_of}
use Rattle.pack_laws.specs.pack_model.specs.reading.Namings.{sys_dir_name, descriptor_name}
use Rattle.pack_laws.specs.pack_model.specs.reading.Model.{Model}
use Rattle.pack_laws.specs.pack_model.specs.operations.Step.{Operation, new_leader, new_file, on_items}
use Rattle.pack_laws.specs.pack_model.specs.operations.Step.Operation.{make, put, grow, stamp, drop_file, enter, widen}
use Rattle.pack_laws.specs.pack_model.specs.operations.Operations.{Move, make_moves, grow_moves, drop_moves, enter_moves}
use Rattle.pack_laws.specs.pack_model.specs.operations.Operations.Move.{quiet, commits}
use Rattle.pack_laws.specs.pack_model.specs.operations.Rooms.{find_room}
use Rattle.pack_laws.specs.pack_model.specs.operations.Committing.{units, length_in, values_before, pages_added, page_of_byte, moves_of_all, line_moves}
use Rattle.pack_laws.specs.pack_model.specs.sessions.Descriptor.{descriptor_value, open_writes, close_writes, close_moves, mark_after, ending_moves}
use Rattle.pack_laws.proofs.Keys.{fid_total, fid_same}
use Rattle.pack_laws.proofs.Mapping.{get-update}
use Rattle.pack_vectors.proofs.StepVectors.{entries_with, model_with, done_after}
use Rattle.pack_vectors.proofs.Shapes.{model_31, small}
use Rattle.pack_vectors.proofs.SmallPacks.{file_3}

-- ---- DiskDescriptor
-- closing writes the last data page first, and both with a clean mark; nothing where the mark is clean
closed :
    (busy : List Bool)
    → (close_writes 2 model_31 7 busy (4 ∷ 5 ∷ []) ≡ Wrote 5 2 (descriptor_value model_31 7 1 busy 1) ∷ Wrote 4 2 (descriptor_value model_31 7 1 busy 0) ∷ [])
    × (close_writes 1 model_31 7 busy (4 ∷ 5 ∷ []) ≡ [])
    × (close_moves {X = ℕ} 2 (4 ∷ 5 ∷ []) ≡ quiet ∷ quiet ∷ [])
    × (close_moves {X = ℕ} 1 (4 ∷ 5 ∷ []) ≡ [])
closed busy = (refl, refl, refl, refl)

-- an open mark isn't opened again
mark_opened :
    (open_writes 1 4 (1 ∷ 2 ∷ 2 ∷ 12 ∷ 0 ∷ 2 ∷ 1 ∷ 43 ∷ []) ≡ Wrote 4 2 (1 ∷ 2 ∷ 2 ∷ 12 ∷ 0 ∷ 2 ∷ 2 ∷ 43 ∷ []) ∷ [])
    × (open_writes 2 4 (1 ∷ 2 ∷ 2 ∷ 12 ∷ 0 ∷ 2 ∷ 2 ∷ 43 ∷ []) ≡ [])
mark_opened = (refl, refl)

-- ---- whole lines, as the only ones of a session whose mark is clean as it begins
-- a file made in SysDir: the mark, the serial, six of the make, one of the entering, and closing; the seventh commits the make
abbrev root_fresh : File
root_fresh = record { leader = new_leader sys_dir_name 1000; body = items_of (entry sys_dir sys_dir_name ∷ entry disk_descriptor descriptor_name ∷ space 231 ∷ []) }

abbrev fresh_entries : List (Fid × File)
fresh_entries = (sys_dir, root_fresh) ∷ []

abbrev fresh : Model
fresh = record { shape = small; good = 47; last = 2; files = from_entries fresh_entries }

abbrev entering : Operation
entering = enter sys_dir (codes "A.") file_3

abbrev making : List Operation
making = make file_3 (codes "A.") 1000 ∷ entering ∷ []

-- its moves, by what SysDir is as the entering begins
abbrev making_by : Option File → List Move
making_by r = (quiet ∷ quiet ∷ (make_moves (make file_3 (codes "A.") 1000) ++ (enter_moves (units (values_before (items_in r) 8 (find_room 8 (items_in r)))) entering ++ []))) ++ quiet ∷ []

made : ending_moves false 1 fresh making ≡ making_by (Some root_fresh)
made = ap making_by (get-insert fid_total (from_entries fresh_entries) file_3 (new_file file_3 (codes "A.") 1000) sys_dir ∙ get-from_entries fid_total fresh_entries sys_dir)

made_numbers :
    (length (making_by (Some root_fresh)) ≡ 10)
    × (done_after 6 (making_by (Some root_fresh)) ≡ 0)
    × (done_after 7 (making_by (Some root_fresh)) ≡ 1)
    × (done_after 9 (making_by (Some root_fresh)) ≡ 2)
made_numbers = (refl, refl, refl, refl)

-- a file of no bytes deleted: the mark, four for its two pages, its entry, and closing
deleted : length (ending_moves false 1 (model_with []) (drop_file file_3 ∷ [])) ≡ 7
deleted = ap (λ r. length ((quiet ∷ (drop_moves (drop_file file_3) (units (page_of_byte (length_in r))) ++ [])) ++ quiet ∷ [])) (get-from_entries fid_total (entries_with []) file_3)

-- and 1,200 bytes appended to it: the mark, nine of the grow, the stamp, and closing; no serial
appended : length (ending_moves false 1 (model_with []) (grow file_3 (replicate 1200 65) ∷ stamp file_3 1000 ∷ [])) ≡ 12
appended = ap (λ r. length ((quiet ∷ (grow_moves (units (pages_added (length_in r) 1200)) (grow file_3 (replicate 1200 65)) ++ commits (stamp file_3 1000) ∷ [])) ++ quiet ∷ [])) (get-from_entries fid_total (entries_with []) file_3)

-- SysDir with 10 free words at its end is widened and gets an entry: six for the new page, and two for the entry, since the free words
-- of both pages are joined first; the entry finds the room that the widening leaves
abbrev root_tight : File
root_tight = record { leader = new_leader sys_dir_name 1000; body = items_of (entry sys_dir sys_dir_name ∷ entry disk_descriptor descriptor_name ∷ entry file_3 (replicate 39 46) ∷ space 10 ∷ []) }

abbrev tight_entries : List (Fid × File)
tight_entries = (sys_dir, root_tight) ∷ []

abbrev tight : Model
tight = record { shape = small; good = 47; last = 4; files = from_entries tight_entries }

abbrev name_20 : List ℕ
name_20 = replicate 20 46

abbrev entering_4 : Operation
entering_4 = enter sys_dir name_20 (ordinary_fid 4)

abbrev widened_by : Option File → Option File → List Move
widened_by r t = grow_moves (units (pages_added (length_in r) 512)) (widen sys_dir) ++ (enter_moves (units (values_before (items_in t) 17 (find_room 17 (items_in t)))) entering_4 ++ [])

abbrev with_page_more : File → File
with_page_more x = on_items (λ is. is ++ space 256 ∷ []) x

tight_root : get tight.files sys_dir ≡ Some root_tight
tight_root = get-from_entries fid_total tight_entries sys_dir

widened : moves_of_all tight (widen sys_dir ∷ entering_4 ∷ []) ≡ widened_by (Some root_tight) (Some (with_page_more root_tight))
widened =
    ap (widened_by (get tight.files sys_dir)) (get-update fid_total fid_same tight.files sys_dir with_page_more sys_dir)
    ∙ ap (λ r. widened_by r (option_map with_page_more r)) tight_root

widened_numbers :
    (length (widened_by (Some root_tight) (Some (with_page_more root_tight))) ≡ 8)
    × (done_after 7 (widened_by (Some root_tight) (Some (with_page_more root_tight))) ≡ 1)
    × (done_after 8 (widened_by (Some root_tight) (Some (with_page_more root_tight))) ≡ 2)
widened_numbers = (refl, refl, refl)

-- the end of a session that needs scavenging writes nothing, whatever the mark and the open streams; of one that doesn't, it closes an
-- open mark: one data page on 48 sectors, two on model 31
ending : (m : Model)
    → (ending_moves true 2 m [] ≡ [])
    × (ending_moves true 1 m (put file_3 0 (codes "A") ∷ []) ≡ [])
    × (ending_moves false 2 fresh [] ≡ quiet ∷ [])
    × (ending_moves false 2 (record fresh { shape = model_31 }) [] ≡ quiet ∷ quiet ∷ [])
    × (ending_moves false 1 fresh (put file_3 0 (codes "A") ∷ []) ≡ quiet ∷ commits (put file_3 0 (codes "A")) ∷ quiet ∷ [])
    × (ending_moves false 2 fresh (put file_3 0 (codes "A") ∷ []) ≡ commits (put file_3 0 (codes "A")) ∷ quiet ∷ [])
    × (mark_after 1 (put file_3 0 (codes "A") ∷ []) ≡ 2)
    × (mark_after 1 [] ≡ 1)
ending m = (refl, refl, refl, refl, refl, refl, refl, refl)

-- a line without operations writes nothing, and so does the end of a session that wrote nothing; a mark that is open isn't opened
nothing_done : (m : Model) → (line_moves 1 m [] ≡ []) × (ending_moves false 1 m [] ≡ []) × (line_moves 2 m (put file_3 0 (codes "A") ∷ []) ≡ commits (put file_3 0 (codes "A")) ∷ [])
nothing_done m = (refl, refl, refl)
