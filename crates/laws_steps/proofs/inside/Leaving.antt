-- Files that no operation of a line drops or takes out of a directory.
use Rattle.std.proofs.Common.{Bool, List, Some, [], ap, cond, false, length, nat_le, refl, sym, true, ℕ, ◌++◌, ◌∙◌, ◌∷◌, ◌≡◌, ◌||◌}
use Rattle.std.proofs.lemmas.List.Folds.{list_any-append}
use Rattle.std.specs.List.{list_any}
use Rattle.laws_call.specs.alto_words.specs.Fid.{is_fid, sys_dir}
use Rattle.laws_call.specs.alto_words.specs.declared.fid.Fid.{Fid}
use Rattle.laws_call.specs.disk_records.specs.declared.records.Place.{Place}
use Rattle.laws_call.specs.laws_line.specs.LineLaws.{IsEntered, LeaveNames, LeavesNames, new_file_line, rename_line}
use Rattle.laws_call.specs.laws_line.specs.SoundLines.{changes, comes, goes, renamed}
use Rattle.laws_call.specs.laws_operation.specs.EntryLaws.{keeps_entries}
use Rattle.laws_call.specs.laws_record.proofs.Tidying.{or_false, or_false_left, or_false_right}
use Rattle.laws_call.specs.pack_model.specs.operations.Rooms.{largest_run}
use Rattle.laws_call.specs.pack_model.specs.operations.Step.Operation.{cut, drop_file, enter, grow, leave, make, put, stamp, title, widen}
use Rattle.laws_call.specs.pack_model.specs.operations.Step.{Operation, longest_entry, room_widening, spare_widening, step}
use Rattle.laws_call.specs.pack_model.specs.reading.Model.{Model, dir_items, root_items}
use Rattle.laws_call.specs.pack_model.specs.reading.Slots.{entry_length}
use Rattle.laws_call.specs.pack_model.specs.reading.Versions.{Entered, exact}
use Rattle.laws_steps.proofs.inside.Entered.{entered_is_meant, entered_stays}
use Rattle.laws_steps.proofs.inside.Keeping.{if_by_entry}
use Rattle.laws_steps.specs.LineKeepingLaws.{NoLeaveKeepsFound, OtherFilesStayFound, StaysFound, StaysFoundOver, drops_or_titles, takes_out}

-- ---- no entry is taken out
no_leave : (m : Model) (o : Operation) (g : Fid) (from : Place) → takes_out o ≡ false → StaysFound m o g from
no_leave m (make f name moment) g from none = tt
no_leave m (put f offset new) g from none = tt
no_leave m (grow f new) g from none = tt
no_leave m (cut f n) g from none = tt
no_leave m (title f name) g from none = tt
no_leave m (stamp f moment) g from none = tt
no_leave m (drop_file f) g from none = absurd cc
no_leave m (leave d name) g from none = absurd cc
no_leave m (enter d name f) g from none = tt
no_leave m (widen d) g from none = tt

pub no_leave_keeps_found : NoLeaveKeepsFound
no_leave_keeps_found m [] g from none = tt
no_leave_keeps_found m (o ∷ ops) g from none =
    (no_leave m o g from (or_false_left (takes_out o) (list_any takes_out ops) none), no_leave_keeps_found (step m o) ops g from (or_false_right (takes_out o) (list_any takes_out ops) none))

-- nor by operations that leave names as they are
names_stay : (m : Model) (o : Operation) → LeavesNames m o → takes_out o ≡ false
names_stay m (make f name moment) h = absurd h
names_stay m (put f offset new) h = refl
names_stay m (grow f new) h = refl
names_stay m (cut f n) h = refl
names_stay m (title f name) h = refl
names_stay m (stamp f moment) h = refl
names_stay m (drop_file f) h = absurd h
names_stay m (leave d name) h = absurd h
names_stay m (enter d name f) h = absurd h
names_stay m (widen d) h = refl

all_names_stay : (m : Model) (ops : List Operation) → LeaveNames m ops → list_any takes_out ops ≡ false
all_names_stay m [] h = refl
all_names_stay m (o ∷ ops) h = or_false (takes_out o) (list_any takes_out ops) (names_stay m o h.0) (all_names_stay (step m o) ops h.1)

-- ---- operations that keep entries, before others
abbrev KeepAll : List Operation → Type 0
KeepAll [] = Unit {0}
KeepAll (o ∷ ops) = (keeps_entries o ≡ true) × KeepAll ops

keep_both : (a b : List Operation) → KeepAll a → KeepAll b → KeepAll (a ++ b)
keep_both [] b x y = y
keep_both (o ∷ a) b x y = (x.0, keep_both a b x.1 y)

-- pages more for directories do
widenings_keep : (m : Model) (d : Fid) (name : List ℕ) → KeepAll (spare_widening m ++ room_widening m d name)
widenings_keep m d name =
    keep_both (spare_widening m) (room_widening m d name)
    (by sys_dir (nat_le longest_entry (largest_run (root_items m))))
    (by d (is_fid d sys_dir || nat_le (entry_length (length name)) (largest_run (dir_items m d))))
  where
    by : (e : Fid) (fits : Bool) → KeepAll (cond fits [] (widen e ∷ []))
    by e true = tt
    by e false = (refl, tt)

kept_stays : (o : Operation) → keeps_entries o ≡ true → takes_out o ≡ false
kept_stays (make f name moment) h = refl
kept_stays (put f offset new) h = refl
kept_stays (grow f new) h = refl
kept_stays (cut f n) h = refl
kept_stays (title f name) h = refl
kept_stays (stamp f moment) h = refl
kept_stays (drop_file f) h = absurd cc
kept_stays (leave d name) h = absurd cc
kept_stays (enter d name f) h = refl
kept_stays (widen d) h = refl

before_none : (a b : List Operation) → KeepAll a → list_any takes_out b ≡ false → list_any takes_out (a ++ b) ≡ false
before_none [] b keep none = none
before_none (o ∷ a) b keep none = or_false (takes_out o) (list_any takes_out (a ++ b)) (kept_stays o keep.0) (before_none a b keep.1 none)

-- an entry is the one that its name means until the others come
before_stays : (m : Model) (a b : List Operation) (d f : Fid) (name : List ℕ) (g : Fid) (from : Place) → KeepAll a → IsEntered m d name f → ((n : Model) → IsEntered n d name f → StaysFoundOver n b g from) → StaysFoundOver m (a ++ b) g from
before_stays m [] b d f name g from keep entered next = next m entered
before_stays m (o ∷ a) b d f name g from keep entered next =
    (no_leave m o g from (kept_stays o keep.0), before_stays (step m o) a b d f name g from keep.1 (entered_stays m d f name o keep.0 entered) next)

-- ---- a rename of another file
meant : (f g : Fid) (own : List ℕ) (e : Entered) → Some (f, own) ≡ Some e → is_fid g f ≡ false → is_fid g e.0 ≡ false
meant f g own e is other = let same : (f, own) ≡ e = cc in ap (λ (x : Entered). is_fid g x.0) (sym same) ∙ other

-- the entry that leaves is of that file
leaves_other : (m : Model) (d f : Fid) (old : List ℕ) (g : Fid) (from : Place) → IsEntered m d old f → is_fid g f ≡ false → StaysFound m (leave d old) g from
leaves_other m d f old g from entered other =
    if_by_entry ((e : Entered) → exact old (dir_items m d) ≡ Some e → is_fid g e.0 ≡ false) from (λ e is. meant f g entered.own e (sym (entered_is_meant m d f old entered) ∙ is) other)

rename_stays : (m : Model) (d : Fid) (old : List ℕ) (to : Fid) (name : List ℕ) (f g : Fid) (from : Place) → IsEntered m d old f → is_fid g f ≡ false → StaysFoundOver m (rename_line m d old to name f) g from
rename_stays m d old to name f g from entered other =
    before_stays m (spare_widening m ++ room_widening m to name) (title f name ∷ leave d old ∷ enter to name f ∷ []) d f old g from (widenings_keep m to name) entered
    (λ n h. (tt, (leaves_other (step n (title f name)) d f old g from (entered_stays n d f old (title f name) refl h) other, (tt, tt))))

-- it is the one that gets another name
titled_other : (m : Model) (d : Fid) (old : List ℕ) (to : Fid) (name : List ℕ) (f g : Fid) → list_any (drops_or_titles g) (rename_line m d old to name f) ≡ false → is_fid g f ≡ false
titled_other m d old to name f g none =
    let first : List Operation = spare_widening m ++ room_widening m to name in
    let moves : List Operation = title f name ∷ leave d old ∷ enter to name f ∷ [] in
    or_false_left (is_fid g f) (list_any (drops_or_titles g) (leave d old ∷ enter to name f ∷ []))
    (or_false_right (list_any (drops_or_titles g) first) (list_any (drops_or_titles g) moves) (sym (list_any-append (drops_or_titles g) first moves) ∙ none))

-- ---- each line
pub other_files_stay_found : OtherFilesStayFound
other_files_stay_found m ops g from (changes all leaves) none = no_leave_keeps_found m ops g from (all_names_stay m ops leaves)
other_files_stay_found m ops g from (goes f may) none = (or_false_left (is_fid g f) false none, tt)
other_files_stay_found m ops g from (comes d name f moment rest dir short new leaves) none =
    no_leave_keeps_found m (new_file_line m d name f moment rest) g from
    (before_none (spare_widening m ++ room_widening m d name) (make f name moment ∷ enter d name f ∷ rest) (widenings_keep m d name) (all_names_stay _ rest leaves))
other_files_stay_found m ops g from (renamed d old to name f dir entered short no_system) none = rename_stays m d old to name f g from entered (titled_other m d old to name f g none)
