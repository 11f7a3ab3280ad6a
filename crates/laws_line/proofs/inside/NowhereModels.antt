-- Why a new file's directory is one of the model: where it isn't there the line still leaves room, and the file has no name after it.
use Rattle.std.proofs.Common.{◌++◌, ◌+◌, ◌∙◌, ◌∷◌, ◌≡◌, ◌≤◌, List, [], ap, arith, cond, false, nat_le, refl, subst, sym, true}
use Rattle.std.specs.FinMap.{contains_key, entries, entries-insert, find, from_entries, get, get-entries}
use Rattle.std.specs.FinMap.Entries.{put}
use Rattle.std.specs.List.{list_any}
use Rattle.std.specs.Option.{is_some}
use Rattle.std.specs.Prelude.{codes}
use Rattle.laws_room.specs.alto_words.specs.Fid.{fid_cmp, is_fid, ordinary_fid, sys_dir}
use Rattle.laws_room.specs.alto_words.specs.declared.fid.Fid.{Fid}
use Rattle.disk_records.specs.declared.shape.Shape.{Shape}
use Rattle.laws_line.proofs.inside.ListedModels.{file_3, root_with, settled_by, short_with}
use Rattle.laws_line.specs.LineLaws.{new_file_line}
use Rattle.laws_line.specs.Ready.{Settled, steps_of}
use Rattle.laws_room.specs.pack_laws.proofs.Keys.{fid_same, fid_total}
use Rattle.laws_room.specs.pack_laws.proofs.Mapping.{entries-from_entries}
use Rattle.pack_model.specs.reading.Bodies.{File, items_in}
use Rattle.pack_model.specs.operations.Committing.{pages_for_operations}
use Rattle.pack_model.specs.sessions.Maps.{update_found}
use Rattle.pack_model.specs.reading.Model.{Model, dir_items, descriptor_pages, files_pages, room}
use Rattle.pack_model.specs.reading.Namings.{namings}
use Rattle.pack_model.specs.operations.Rooms.{items_entered, largest_run}
use Rattle.pack_model.specs.reading.Slots.Item.{entry, space}
use Rattle.pack_model.specs.operations.Step.{Operation, new_file, on_items, step}
use Rattle.pack_model.specs.operations.Step.Operation.{enter, make, widen}

-- SysDir with 26 free words, and three sectors that are free
abbrev pub lone_list : List (Fid × File)
lone_list = (sys_dir, root_with (space 26 ∷ [])) ∷ []

abbrev pub lone : Shape → Model
lone shape = record { shape = shape; good = 5 + descriptor_pages shape; last = 2; files = from_entries lone_list }

-- a file is made, and entered in a directory that isn't there
abbrev pub absent : Fid
absent = ordinary_fid 4

abbrev pub line : Shape → List Operation
line shape = new_file_line (lone shape) absent (codes "A.") file_3 0 []

lone_are : (shape : Shape) → entries (lone shape).files ≡ lone_list
lone_are shape = entries-from_entries fid_total fid_same lone_list tt

look : (shape : Shape) (g : Fid) → get (lone shape).files g ≡ find fid_cmp g lone_list
look shape g = get-entries (lone shape).files g ∙ ap (find fid_cmp g) (lone_are shape)

-- its operations
line_is : (shape : Shape) → line shape ≡ widen absent ∷ make file_3 (codes "A.") 0 ∷ enter absent (codes "A.") file_3 ∷ []
line_is shape =
    ap (λ r. cond (nat_le 26 (largest_run (items_in r))) [] (widen sys_dir ∷ []) ++ cond (nat_le 8 (largest_run (dir_items (lone shape) absent))) [] (widen absent ∷ []) ++ make file_3 (codes "A.") 0 ∷ enter absent (codes "A.") file_3 ∷ []) (look shape sys_dir)
    ∙ ap (λ r. cond (nat_le 8 (largest_run (items_in r))) [] (widen absent ∷ []) ++ make file_3 (codes "A.") 0 ∷ enter absent (codes "A.") file_3 ∷ []) (look shape absent)

-- the models after them
abbrev wide : Shape → Model
wide shape = step (lone shape) (widen absent)

abbrev made : Shape → Model
made shape = step (wide shape) (make file_3 (codes "A.") 0)

abbrev entered : Shape → Model
entered shape = step (made shape) (enter absent (codes "A.") file_3)

abbrev made_list : List (Fid × File)
made_list = (file_3, new_file file_3 (codes "A.") 0) ∷ lone_list

wide_are : (shape : Shape) → entries (wide shape).files ≡ lone_list
wide_are shape = ap (λ r. entries (update_found (lone shape).files absent (on_items (λ is. is ++ space 256 ∷ [])) r)) (look shape absent) ∙ lone_are shape

made_are : (shape : Shape) → entries (made shape).files ≡ made_list
made_are shape = entries-insert fid_total (wide shape).files file_3 (new_file file_3 (codes "A.") 0) ∙ ap (put fid_cmp file_3 (new_file file_3 (codes "A.") 0)) (wide_are shape)

entered_are : (shape : Shape) → entries (entered shape).files ≡ made_list
entered_are shape = ap (λ r. entries (update_found (made shape).files absent (on_items (items_entered (entry file_3 (codes "A.")))) r)) (get-entries (made shape).files absent ∙ ap (find fid_cmp absent) (made_are shape)) ∙ made_are shape

-- The model is settled, the file isn't there, the line has its pages, and after it the file has no name.
pub enter_nowhere : (shape : Shape) → Settled (lone shape) × (contains_key (lone shape).files file_3 ≡ false) × (pages_for_operations (lone shape) (line shape) ≤ room (lone shape)) × (Settled (steps_of (lone shape) (line shape)) → ⊥)
enter_nowhere shape = (
  settled_by (lone shape) lone_list (space 26 ∷ []) (lone_are shape) refl (omega arith) (omega arith, tt) (short_with (space 26) (omega arith)) refl refl (refl, tt),
  ap is_some (look shape file_3),
  (let p = ap files_pages (lone_are shape) in let n = ap (pages_for_operations (lone shape)) (line_is shape) in omega arith),
  λ s. unnamed (subst Settled (ap (steps_of (lone shape)) (line_is shape)) s),
)
  where
    unnamed : Settled (entered shape) → ⊥
    unnamed s =
        let there : contains_key (entered shape).files file_3 ≡ true = ap is_some (get-entries (entered shape).files file_3) ∙ ap (λ es. is_some (find fid_cmp file_3 es)) (entered_are shape) in
        let clash : true ≡ false = sym (s.all file_3 there) ∙ ap (λ es. list_any (λ n. is_fid n.fid file_3) (namings es)) (entered_are shape) in
        absurd cc
