-- Lines that make a file, as lists of operations, and entries that clash with none.
use Rattle.std.proofs.Common.{◌≡◌, ℕ, true, false, cond, List, [], ◌∷◌, ◌++◌, length, ap, ◌∙◌}
use Rattle.std.specs.List.{list_any}
use Rattle.std.specs.Prelude.{◌||◌, nat_le}
use Rattle.std.specs.FinMap.{contains_key, entries}
use Rattle.laws_steps.specs.alto_words.specs.declared.fid.Fid.{Fid}
use Rattle.laws_steps.specs.alto_words.specs.Fid.{disk_descriptor, is_directory, is_fid, sys_dir}
use Rattle.laws_steps.specs.disk_records.specs.Packs.{Pack, after}
use Rattle.laws_steps.specs.pack_model.specs.operations.Rooms.{largest_run}
use Rattle.laws_steps.specs.pack_model.specs.operations.Step.{Operation, longest_entry}
use Rattle.laws_steps.specs.pack_model.specs.operations.Step.Operation.{enter, leave, make, title, widen}
use Rattle.laws_steps.specs.pack_model.specs.hints.Links.{dir_words}
use Rattle.laws_steps.specs.pack_model.specs.reading.Files.{lives}
use Rattle.laws_steps.specs.pack_model.specs.reading.Model.{Model, dir_items, read_as}
use Rattle.laws_steps.specs.pack_model.specs.reading.Namings.{clashes, fits, namings}
use Rattle.laws_steps.specs.pack_model.specs.reading.Sights.{sights}
use Rattle.laws_steps.specs.pack_model.specs.reading.Slots.{Item, entry_length, slots}
use Rattle.laws_steps.specs.pack_model.specs.reading.Slots.Item.{entry}
use Rattle.laws_steps.specs.alto_words.specs.Names.{is_same_name}
use Rattle.laws_steps.specs.laws_record.specs.EnterLaws.{MayEnter}
use Rattle.laws_steps.specs.laws_operation.specs.EntryLaws.{is_of_another}
use Rattle.laws_steps.specs.laws_operation.proofs.entries.Laws.{items_are_slots}
use Rattle.laws_steps.specs.laws_operation.proofs.leave.Laws.{free_name_is_apart_after_leave}
use Rattle.laws_steps.specs.laws_operation.proofs.make.Laws.{free_name_is_apart_after_make}
use Rattle.laws_steps.specs.laws_operation.proofs.places.Laws.{model_has_the_living}
use Rattle.laws_steps.specs.laws_line.specs.LineLaws.{new_file_line, rename_line}
use Rattle.laws_met.specs.Peopled.{leaving, making}
use Rattle.laws_met.proofs.inside.Operating.{Done, Stands}

-- where SysDir has a run of free words for the longest entry, and the directory one for this entry, a line that makes a file has no
-- widening
pub plain_line : (m : Model) (d : Fid) (name : List ℕ) (f : Fid) (rest : List Operation) (roots items : List Item) → dir_items m sys_dir ≡ roots → dir_items m d ≡ items
    → nat_le longest_entry (largest_run roots) ≡ true → (is_fid d sys_dir || nat_le (entry_length (length name)) (largest_run items)) ≡ true
    → new_file_line m d name f 1000 rest ≡ make f name 1000 ∷ enter d name f ∷ rest
plain_line m d name f rest roots items x y long room =
    let spare : nat_le longest_entry (largest_run (dir_items m sys_dir)) ≡ true = ap (λ is. nat_le longest_entry (largest_run is)) x ∙ long in
    let own : (is_fid d sys_dir || nat_le (entry_length (length name)) (largest_run (dir_items m d))) ≡ true = ap (λ is. is_fid d sys_dir || nat_le (entry_length (length name)) (largest_run is)) y ∙ room in
    λ i. cond (spare i) [] (widen sys_dir ∷ []) ++ cond (own i) [] (widen d ∷ []) ++ make f name 1000 ∷ enter d name f ∷ rest

-- and so it is for a line that renames one
pub plain_rename : (m : Model) (d : Fid) (old : List ℕ) (to : Fid) (name : List ℕ) (f : Fid) (roots items : List Item) → dir_items m sys_dir ≡ roots → dir_items m to ≡ items
    → nat_le longest_entry (largest_run roots) ≡ true → (is_fid to sys_dir || nat_le (entry_length (length name)) (largest_run items)) ≡ true
    → rename_line m d old to name f ≡ title f name ∷ leave d old ∷ enter to name f ∷ []
plain_rename m d old to name f roots items x y long room =
    let spare : nat_le longest_entry (largest_run (dir_items m sys_dir)) ≡ true = ap (λ is. nat_le longest_entry (largest_run is)) x ∙ long in
    let own : (is_fid to sys_dir || nat_le (entry_length (length name)) (largest_run (dir_items m to))) ≡ true = ap (λ is. is_fid to sys_dir || nat_le (entry_length (length name)) (largest_run is)) y ∙ room in
    λ i. cond (spare i) [] (widen sys_dir ∷ []) ++ cond (own i) [] (widen to ∷ []) ++ title f name ∷ leave d old ∷ enter to name f ∷ []

-- a directory's slots in the model are those of its words
pub items_of_words : (p : Pack) (d : Fid) (items : List Item) → Stands p → lives (sights p) d ≡ true → is_directory d ≡ true → slots (dir_words p d) ≡ items → dir_items (read_as p) d ≡ items
items_of_words p d items s living dir is = items_are_slots p d s.tidy living dir ∙ is

-- a file that doesn't live isn't in the model
pub not_in_model : (p : Pack) (f : Fid) → is_fid f disk_descriptor ≡ false → lives (sights p) f ≡ false → contains_key (read_as p).files f ≡ false
not_in_model p f no_descriptor dead = model_has_the_living p f no_descriptor ∙ dead

pub is_in_model : (p : Pack) (f : Fid) → is_fid f disk_descriptor ≡ false → lives (sights p) f ≡ true → contains_key (read_as p).files f ≡ true
is_in_model p f no_descriptor living = model_has_the_living p f no_descriptor ∙ living

-- right after its make a file may be entered, where no entry of the directory has its name
pub may_enter_made : (p : Pack) (d f : Fid) (name : List ℕ) (leader_at page_at : ℕ) (items : List Item) → Done p (making p f name leader_at page_at) (make f name 1000) → lives (sights p) f ≡ false → dir_items (read_as p) d ≡ items
    → list_any (is_of_another f name) items ≡ false → lives (sights (after p (making p f name leader_at page_at))) f ≡ true → fits (record { dir = d; name = name; fid = f }) ≡ true
    → MayEnter (after p (making p f name leader_at page_at)) d f name
may_enter_made p d f name leader_at page_at items made dead same clear living fitting = record {
  lives = living;
  fits = fitting;
  apart = ap (λ m. list_any (clashes (record { dir = d; name = name; fid = f })) (namings (entries m.files))) made.stays.reads
      ∙ free_name_is_apart_after_make p d f name name 1000 dead (ap (list_any (is_of_another f name)) same ∙ clear);
}

-- right after its entry went a file may be entered, where no other entry of the directory had its name
pub may_enter_left : (p : Pack) (d to f : Fid) (old name : List ℕ) (at place words : ℕ) (before behind items : List Item) → Done p (leaving p at place words) (leave d old) → dir_items (read_as p) d ≡ before ++ entry f old ∷ behind → is_same_name old old ≡ true
    → dir_items (read_as p) to ≡ items → list_any (is_of_another f name) items ≡ false → lives (sights (after p (leaving p at place words))) f ≡ true → fits (record { dir = to; name = name; fid = f }) ≡ true
    → MayEnter (after p (leaving p at place words)) to f name
may_enter_left p d to f old name at place words before behind items gone own same there clear living fitting = record {
  lives = living;
  fits = fitting;
  apart = ap (λ m. list_any (clashes (record { dir = to; name = name; fid = f })) (namings (entries m.files))) gone.stays.reads
      ∙ free_name_is_apart_after_leave p d to f name old (record { before = before; behind = behind; own = old; items = own; same = same }) (ap (list_any (is_of_another f name)) there ∙ clear);
}
