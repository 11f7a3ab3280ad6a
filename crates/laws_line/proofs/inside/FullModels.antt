-- Why a line gives SysDir room for the longest entry first, and bytes are put in the place of others alone: full models in which a line
-- that doesn't leaves no room.
use Rattle.std.proofs.Common.{◌++◌, ◌+◌, ◌∙◌, ◌∷◌, ◌≡◌, ◌≤◌, List, Some, [], ap, arith, refl}
use Rattle.std.specs.FinMap.{entries, entries-insert, find, from_entries, get, get-entries}
use Rattle.std.specs.FinMap.Entries.{put}
use Rattle.std.specs.Prelude.{codes, replicate}
use Rattle.laws_room.specs.alto_words.specs.Fid.{fid_cmp, sys_dir}
use Rattle.laws_room.specs.alto_words.specs.declared.fid.Fid.{Fid}
use Rattle.disk_records.specs.declared.shape.Shape.{Shape}
use Rattle.laws_line.proofs.inside.ListedModels.{file_3, its_needs, long_name, look, root_with, settled_by, short_with, slots_with}
use Rattle.laws_line.specs.LineLaws.{IsEntered}
use Rattle.laws_line.specs.Ready.{Settled}
use Rattle.laws_room.specs.pack_laws.proofs.Keys.{fid_same, fid_total}
use Rattle.laws_room.specs.pack_laws.proofs.Mapping.{entries-from_entries}
use Rattle.pack_model.specs.reading.Bodies.{File, Files, items_in}
use Rattle.pack_model.specs.reading.Bodies.Body.{data_of}
use Rattle.pack_model.specs.operations.Committing.{pages_for_operations}
use Rattle.pack_model.specs.sessions.Maps.{update, update_found}
use Rattle.pack_model.specs.scavenger.Mended.{HasRoom, needs, widens}
use Rattle.pack_model.specs.reading.Model.{Model, descriptor_pages, files_pages, room}
use Rattle.pack_model.specs.operations.Rooms.{placed}
use Rattle.pack_model.specs.reading.Slots.Item.{entry, space}
use Rattle.pack_model.specs.operations.Step.{Operation, new_file, new_leader, room_widening, step}
use Rattle.pack_model.specs.operations.Step.Operation.{enter, leave, make, title}

-- ---- a file is made
-- SysDir with 25 free words, and two sectors that are free
abbrev pub full : Shape → Model
full shape = record { shape = shape; good = 4 + descriptor_pages shape; last = 2; files = from_entries ((sys_dir, root_with (space 25 ∷ [])) ∷ []) }

-- the line that makes a file without its first operation
abbrev pub made_at_once : Shape → List Operation
made_at_once shape = room_widening (full shape) sys_dir long_name ++ make file_3 long_name 0 ∷ enter sys_dir long_name file_3 ∷ []

-- The model is settled, the line has its pages, and after the making there is no room.
pub make_without_spare : (shape : Shape) → Settled (full shape) × (pages_for_operations (full shape) (made_at_once shape) ≤ room (full shape)) × (HasRoom (step (full shape) (make file_3 long_name 0)) → ⊥)
unfolding widens placed
make_without_spare shape = (
  settled_by (full shape) ((sys_dir, root_with (space 25 ∷ [])) ∷ []) (space 25 ∷ []) files_are refl (omega arith) (omega arith, tt)
      (short_with (space 25) (omega arith)) refl refl (refl, tt),
  (let p = ap files_pages files_are in omega arith),
  λ h. (let n = its_needs (step (full shape) (make file_3 long_name 0)) 25 made_are refl in let p = ap files_pages made_are in omega arith),
)
  where
    files_are : entries (full shape).files ≡ (sys_dir, root_with (space 25 ∷ [])) ∷ []
    files_are = entries-from_entries fid_total fid_same ((sys_dir, root_with (space 25 ∷ [])) ∷ []) tt

    made_are : entries (step (full shape) (make file_3 long_name 0)).files ≡ (file_3, record { leader = new_leader long_name 0; body = data_of [] }) ∷ (sys_dir, root_with (space 25 ∷ [])) ∷ []
    made_are = entries-insert fid_total (full shape).files file_3 (new_file file_3 long_name 0) ∙ ap (put fid_cmp file_3 (new_file file_3 long_name 0)) files_are

-- ---- a file is renamed
-- no sector is free, and SysDir has no free word
abbrev pub filled_list : List (Fid × File)
filled_list = (file_3, record { leader = new_leader (codes "A.") 0; body = data_of [] }) ∷ (sys_dir, root_with (entry file_3 (codes "A.") ∷ [])) ∷ []

abbrev pub filled : Shape → Model
filled shape = record { shape = shape; good = 4 + descriptor_pages shape; last = 3; files = from_entries filled_list }

abbrev pub renamed_at_once : Shape → List Operation
renamed_at_once shape = room_widening (filled shape) sys_dir long_name ++ title file_3 long_name ∷ leave sys_dir (codes "A.") ∷ enter sys_dir long_name file_3 ∷ []

-- the models after the title and the entry that goes
abbrev pub titled : Shape → Model
titled shape = step (filled shape) (title file_3 long_name)

abbrev pub left : Shape → Model
left shape = step (titled shape) (leave sys_dir (codes "A."))

-- a file that changes, among the entries
entries_update : (files : Files) (k : Fid) (g : File → File) (x : File) → get files k ≡ Some x → entries (update files k g) ≡ put fid_cmp k (g x) (entries files)
entries_update files k g x e = ap (λ r. entries (update_found files k g r)) e ∙ entries-insert fid_total files k (g x)

filled_are : (shape : Shape) → entries (filled shape).files ≡ filled_list
filled_are shape = entries-from_entries fid_total fid_same filled_list tt

titled_are : (shape : Shape) → entries (titled shape).files ≡ (file_3, record { leader = new_leader long_name 0; body = data_of [] }) ∷ (sys_dir, root_with (entry file_3 (codes "A.") ∷ [])) ∷ []
titled_are shape =
    entries_update (filled shape).files file_3 _ (record { leader = new_leader (codes "A.") 0; body = data_of [] }) (get-entries (filled shape).files file_3 ∙ ap (find fid_cmp file_3) (filled_are shape))
    ∙ ap (put fid_cmp file_3 (record { leader = new_leader long_name 0; body = data_of [] })) (filled_are shape)

left_are : (shape : Shape) → entries (left shape).files ≡ (file_3, record { leader = new_leader long_name 0; body = data_of [] }) ∷ (sys_dir, root_with (space 8 ∷ [])) ∷ []
left_are shape =
    entries_update (titled shape).files sys_dir _ (root_with (entry file_3 (codes "A.") ∷ [])) (get-entries (titled shape).files sys_dir ∙ ap (find fid_cmp sys_dir) (titled_are shape))
    ∙ ap (put fid_cmp sys_dir (root_with (space 8 ∷ []))) (titled_are shape)

-- The model is settled, the file entered, and the line adds no page; after the entry that goes there is no room.
pub rename_without_spare : (shape : Shape) → Settled (filled shape) × IsEntered (filled shape) sys_dir (codes "A.") file_3 × (pages_for_operations (filled shape) (renamed_at_once shape) ≤ room (filled shape)) × (HasRoom (left shape) → ⊥)
unfolding widens placed
rename_without_spare shape = (
  settled_by (filled shape) filled_list (entry file_3 (codes "A.") ∷ []) (filled_are shape) refl (omega arith) (omega arith, (omega arith, tt))
      (short_with (entry file_3 (codes "A.")) (omega arith)) refl refl (refl, (refl, tt)),
  record {
    before = slots_with [];
    own = codes "A.";
    behind = [];
    items_are = ap items_in (look (filled shape) filled_list (entry file_3 (codes "A.") ∷ []) (filled_are shape) refl sys_dir);
    same = refl;
    first = refl;
  },
  (let p = ap files_pages (filled_are shape) in omega arith),
  λ h. (let n = its_needs (left shape) 8 (left_are shape) refl in let p = ap files_pages (left_are shape) in omega arith),
)

-- ---- bytes are put past a file's end
abbrev pub put_past : Shape → Model
put_past shape = step (filled shape) (Operation.put file_3 0 (replicate 512 0))

put_are : (shape : Shape) → entries (put_past shape).files ≡ (file_3, record { leader = new_leader (codes "A.") 0; body = data_of (replicate 512 0) }) ∷ (sys_dir, root_with (entry file_3 (codes "A.") ∷ [])) ∷ []
put_are shape =
    entries_update (filled shape).files file_3 _ (record { leader = new_leader (codes "A.") 0; body = data_of [] }) (get-entries (filled shape).files file_3 ∙ ap (find fid_cmp file_3) (filled_are shape))
    ∙ ap (put fid_cmp file_3 (record { leader = new_leader (codes "A.") 0; body = data_of (replicate 512 0) })) (filled_are shape)

-- The line adds no page by its number, and there is no room after it.
pub put_past_its_end : (shape : Shape) → (pages_for_operations (filled shape) (Operation.put file_3 0 (replicate 512 0) ∷ []) ≤ room (filled shape)) × (HasRoom (put_past shape) → ⊥)
unfolding needs
put_past_its_end shape = ((let p = ap files_pages (filled_are shape) in omega arith), λ h. (let p = ap files_pages (put_are shape) in omega arith))
