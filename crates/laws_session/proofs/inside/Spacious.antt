-- After the widenings that stand before a new name its directory has room for the entry.
use Rattle.std.proofs.Common.{◌≡◌, ◌≤◌, ◌||◌, Bool, true, false, cond, nat_le, List, [], ◌∷◌, ◌++◌, ℕ, length, refl, sym, subst, ◌∙◌, ap, arith, leb-true}
use Rattle.std.specs.FinMap.{get}
use Rattle.std.specs.Option.{option_map}
use Rattle.laws_line.specs.alto_words.specs.declared.fid.Fid.{Fid}
use Rattle.laws_line.specs.alto_words.specs.Fid.{is_fid, sys_dir}
use Rattle.laws_line.specs.pack_model.specs.operations.Rooms.{largest_run}
use Rattle.laws_line.specs.pack_model.specs.operations.Step.{Operation, longest_entry, on_items, room_widening, spare_widening, step}
use Rattle.laws_line.specs.pack_model.specs.operations.Step.Operation.{widen}
use Rattle.laws_line.specs.pack_model.specs.reading.Bodies.{items_in}
use Rattle.laws_line.specs.pack_model.specs.reading.Model.{Model, dir_items, root_items}
use Rattle.laws_line.specs.pack_model.specs.reading.Slots.{Item, entry_length}
use Rattle.laws_line.specs.pack_model.specs.reading.Slots.Item.{space}
use Rattle.laws_line.specs.pack_laws.proofs.Keys.{fid_same, fid_total, is_fid-itself, same_fid}
use Rattle.laws_line.specs.pack_laws.proofs.Mapping.{get-update}
use Rattle.laws_line.specs.AfterLaws.{IsDirectory}
use Rattle.laws_line.specs.Ready.{steps_of}
use Rattle.session_model.specs.Effects.{widenings}

-- a page more at the end
abbrev with_page : List Item → List Item
with_page is = is ++ space 256 ∷ []

run_at_end : (is : List Item) → 256 ≤ largest_run (with_page is)
run_at_end [] = omega arith
run_at_end (i ∷ is) = let e = run_at_end is in omega arith

steps_twice : (m : Model) (a b : List Operation) → steps_of m (a ++ b) ≡ steps_of (steps_of m a) b
steps_twice m [] b = refl
steps_twice m (o ∷ a) b = steps_twice (step m o) a b

-- the file of another directory that gets a page
other_file : (m : Model) (d e : Fid) → is_fid d e ≡ false → get (step m (widen e)).files d ≡ get m.files d
other_file m d e apart = get-update fid_total fid_same m.files e (on_items with_page) d ∙ ap (λ b. cond b (option_map (on_items with_page) (get m.files e)) (get m.files d)) apart

-- and of the own
widened_run : (m : Model) (d : Fid) (h : IsDirectory m d) (n : Model) → get n.files d ≡ get m.files d → 256 ≤ largest_run (dir_items (step n (widen d)) d)
widened_run m d h n same =
    let now : dir_items (step n (widen d)) d ≡ with_page h.slots =
    ap items_in (get-update fid_total fid_same n.files d (on_items with_page) d)
    ∙ ap (λ b. items_in (cond b (option_map (on_items with_page) (get n.files d)) (get n.files d))) (is_fid-itself d)
    ∙ ap (λ r. items_in (option_map (on_items with_page) r)) (same ∙ h.there)
    in
    subst (λ is. 256 ≤ largest_run is) (sym now) (run_at_end h.slots)

-- the file is as before after the page for SysDir
spared : (m : Model) (d : Fid) (b : Bool) → is_fid d sys_dir ≡ false → get (steps_of m (cond b [] (widen sys_dir ∷ []))).files d ≡ get m.files d
spared m d true apart = refl
spared m d false apart = other_file m d sys_dir apart

-- room for an entry of at most 26 words
in_root : (m : Model) (n : ℕ) (b : Bool) → IsDirectory m sys_dir → n ≤ 26 → nat_le longest_entry (largest_run (root_items m)) ≡ b → n ≤ largest_run (dir_items (steps_of m (cond b [] (widen sys_dir ∷ []))) sys_dir)
in_root m n true h short is = let most = leb-true longest_entry (largest_run (root_items m)) is in omega arith
in_root m n false h short is = let most = widened_run m sys_dir h m refl in omega arith

elsewhere : (m : Model) (d : Fid) (n : ℕ) (b c : Bool) → IsDirectory m d → n ≤ 26 → is_fid d sys_dir ≡ false → nat_le n (largest_run (dir_items m d)) ≡ c
    → n ≤ largest_run (dir_items (steps_of (steps_of m (cond b [] (widen sys_dir ∷ []))) (cond c [] (widen d ∷ []))) d)
elsewhere m d n b true h short apart is =
    let least = leb-true n (largest_run (dir_items m d)) is in
    subst (λ r. n ≤ largest_run (items_in r)) (sym (spared m d b apart)) least
elsewhere m d n b false h short apart is = let most = widened_run m d h (steps_of m (cond b [] (widen sys_dir ∷ []))) (spared m d b apart) in omega arith

-- whether SysDir has room for the longest entry
abbrev spare : Model → Bool
spare m = nat_le longest_entry (largest_run (root_items m))

-- after both, with or without each page
abbrev RoomAfter : Model → Fid → ℕ → Bool → Type 0
RoomAfter m d n b = n ≤ largest_run (dir_items (steps_of (steps_of m (cond (spare m) [] (widen sys_dir ∷ []))) (cond b [] (widen d ∷ []))) d)

room_of : (m : Model) (d : Fid) (n : ℕ) → IsDirectory m d → n ≤ 26 → RoomAfter m d n (is_fid d sys_dir || nat_le n (largest_run (dir_items m d)))
room_of m d n h small = by (is_fid d sys_dir) refl (nat_le n (largest_run (dir_items m d))) refl
  where
    by : (b : Bool) → is_fid d sys_dir ≡ b → (c : Bool) → nat_le n (largest_run (dir_items m d)) ≡ c → RoomAfter m d n (is_fid d sys_dir || nat_le n (largest_run (dir_items m d)))
    by true e c k =
        let own : d ≡ sys_dir = same_fid d sys_dir e in
        let root : IsDirectory m sys_dir = subst (IsDirectory m) own h in
        subst (λ t. RoomAfter m d n (t || nat_le n (largest_run (dir_items m d)))) (sym e)
        (subst (λ q. n ≤ largest_run (dir_items (steps_of m (cond (spare m) [] (widen sys_dir ∷ []))) q)) (sym own) (in_root m n (spare m) root small refl))
    by false e c k =
        subst (λ t. RoomAfter m d n (t || nat_le n (largest_run (dir_items m d)))) (sym e)
        (subst (λ t. RoomAfter m d n t) (sym k) (elsewhere m d n (spare m) c h small e k))

pub room_after_widenings : (m : Model) (d : Fid) (name : List ℕ) → IsDirectory m d → length name ≤ 39 → entry_length (length name) ≤ largest_run (dir_items (steps_of m (widenings m d name)) d)
room_after_widenings m d name h short =
    let n : ℕ = entry_length (length name) in
    subst (λ q. n ≤ largest_run (dir_items q d)) (sym (steps_twice m (spare_widening m) (room_widening m d name))) (room_of m d n h (omega arith))
