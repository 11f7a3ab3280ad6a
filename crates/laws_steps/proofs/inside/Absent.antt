-- Names that no entry has, and free words in a row, over operations.
use Rattle.std.proofs.Common.{Bool, List, None, Option, Some, [], ap, arith, cond, false, not, refl, subst, sym, true, ℕ, ◌&&◌, ◌∙◌, ◌∷◌, ◌≡◌, ◌≤◌, ◌||◌}
use Rattle.std.specs.FinMap.{get}
use Rattle.std.specs.List.{list_any}
use Rattle.std.specs.Option.{option_map}
use Rattle.laws_call.specs.alto_words.specs.Fid.{disk_descriptor, is_fid, sys_dir}
use Rattle.laws_call.specs.alto_words.specs.Names.{is_same_name}
use Rattle.laws_call.specs.laws_lookup.proofs.names.Laws.{open_name_stays_open}
use Rattle.laws_call.specs.laws_lookup.proofs.slots.Laws.{absent_name_is_open}
use Rattle.laws_call.specs.laws_operation.specs.EntryLaws.{is_of_another}
use Rattle.laws_call.specs.laws_record.proofs.Tidying.{or_false_left, or_false_right}
use Rattle.pack_laws.proofs.Keys.{fid_same, fid_total, is_fid-itself, same_fid}
use Rattle.pack_laws.proofs.Mapping.{get-update}
use Rattle.laws_call.specs.pack_model.specs.operations.Rooms.{largest_run, words_free}
use Rattle.laws_call.specs.pack_model.specs.operations.Step.{items_left, on_items, step}
use Rattle.laws_call.specs.pack_model.specs.reading.Bodies.Body.{data_of, items_of}
use Rattle.laws_call.specs.pack_model.specs.reading.Bodies.{Body, File, body_items, items_in}
use Rattle.laws_call.specs.pack_model.specs.reading.Model.{dir_items}
use Rattle.laws_call.specs.pack_model.specs.reading.Slots.Item.{entry, space}
use Rattle.laws_call.specs.pack_model.specs.reading.Slots.{Item, item_words}
use Rattle.laws_call.specs.pack_model.specs.reading.Versions.{exact}
use Rattle.laws_steps.specs.NameLaws.{AbsentNameStaysAbsent, LeaveKeepsRoom}

-- ---- names
-- one that is open to two files no entry has, which would be of both
of_this : (b : Bool) → (not b && true) ≡ false → b ≡ true
of_this true e = refl
of_this false e = absurd cc

open_to_two : (name : List ℕ) (is : List Item) → list_any (is_of_another sys_dir name) is ≡ false → list_any (is_of_another disk_descriptor name) is ≡ false → exact name is ≡ None
open_to_two name [] h k = refl
open_to_two name (space n ∷ is) h k = open_to_two name is h k
open_to_two name (entry g own ∷ is) h k = by (is_same_name own name) (open_to_two name is) h k
  where
    by : (c : Bool) → (list_any (is_of_another sys_dir name) is ≡ false → list_any (is_of_another disk_descriptor name) is ≡ false → exact name is ≡ None)
        → ((not (is_fid g sys_dir) && c) || list_any (is_of_another sys_dir name) is) ≡ false → ((not (is_fid g disk_descriptor) && c) || list_any (is_of_another disk_descriptor name) is) ≡ false → cond c (Some (g, own)) (exact name is) ≡ None
    by false rest h k =
        rest
        (or_false_right (not (is_fid g sys_dir) && false) (list_any (is_of_another sys_dir name) is) h)
        (or_false_right (not (is_fid g disk_descriptor) && false) (list_any (is_of_another disk_descriptor name) is) k)
    by true rest h k =
        let one : g ≡ sys_dir = same_fid g sys_dir (of_this (is_fid g sys_dir) (or_false_left (not (is_fid g sys_dir) && true) (list_any (is_of_another sys_dir name) is) h)) in
        let other : g ≡ disk_descriptor = same_fid g disk_descriptor (of_this (is_fid g disk_descriptor) (or_false_left (not (is_fid g disk_descriptor) && true) (list_any (is_of_another disk_descriptor name) is) k)) in
        let clash : false ≡ true = ap (λ f. is_fid f disk_descriptor) (sym one ∙ other) ∙ is_fid-itself disk_descriptor in
        absurd cc

pub absent_name_stays_absent : AbsentNameStaysAbsent
absent_name_stays_absent m d name o apart none =
    open_to_two name (dir_items (step m o) d)
    (open_name_stays_open m d sys_dir name o apart (absent_name_is_open m d sys_dir name none))
    (open_name_stays_open m d disk_descriptor name o apart (absent_name_is_open m d disk_descriptor name none))

-- ---- free words in a row
-- More words are free at the front, and in a row.
record NoFewer (a b : List Item) : Type 0 where
  front : words_free a ≤ words_free b
  row : largest_run a ≤ largest_run b

left_frees : (name : List ℕ) (is : List Item) → NoFewer is (items_left name is)
left_frees name [] = record { front = omega arith; row = omega arith }
left_frees name (space n ∷ is) =
    let rest = left_frees name is in
    let front = rest.front in
    let row = rest.row in
    record { front = omega (arith, front); row = omega (arith, front, row) }
left_frees name (entry f own ∷ is) = by (is_same_name own name) (left_frees name is)
  where
    by : (c : Bool) → NoFewer is (items_left name is) → NoFewer (entry f own ∷ is) (cond c (space (item_words (entry f own)) ∷ is) (entry f own ∷ items_left name is))
    by true rest = record { front = omega arith; row = omega arith }
    by false rest = let row = rest.row in record { front = omega arith; row = omega (arith, row) }

left_in_file : (name : List ℕ) (r : Option File) → largest_run (items_in r) ≤ largest_run (items_in (option_map (on_items (items_left name)) r))
left_in_file name None = omega arith
left_in_file name (Some x) = by x.body
  where
    by : (b : Body) → largest_run (body_items b) ≤ largest_run (items_in (Some (on_items (items_left name) (record { leader = x.leader; body = b }))))
    by (data_of bytes) = omega arith
    by (items_of is) = (left_frees name is).row

pub leave_keeps_room : LeaveKeepsRoom
leave_keeps_room m d e name =
    subst (λ r. largest_run (items_in (get m.files d)) ≤ largest_run (items_in r)) (sym (get-update fid_total fid_same m.files e (on_items (items_left name)) d)) (by (is_fid d e) refl)
  where
    by : (c : Bool) → is_fid d e ≡ c → largest_run (items_in (get m.files d)) ≤ largest_run (items_in (cond c (option_map (on_items (items_left name)) (get m.files e)) (get m.files d)))
    by false is = omega arith
    by true is = subst (λ k. largest_run (items_in (get m.files k)) ≤ largest_run (items_in (option_map (on_items (items_left name)) (get m.files e)))) (sym (same_fid d e is)) (left_in_file name (get m.files e))
