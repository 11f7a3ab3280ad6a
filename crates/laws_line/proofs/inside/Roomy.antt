-- Directories with their slots, and with words that are free in a row, at each operation.
use Rattle.std.proofs.Common.{◌++◌, ◌∙◌, ◌∷◌, ◌≡◌, ◌≤◌, Bool, List, None, Some, [], ap, arith, cond, false, length, refl, subst, sym, take, true, ℕ}
use Rattle.std.proofs.lemmas.List.Elements.{All-append, All-cons, All-head, All-nil, All-tail}
use Rattle.std.specs.FinMap.{contains_key, get, get-insert}
use Rattle.std.specs.Option.{option_map}
use Rattle.std.specs.Prelude.{All}
use Rattle.laws_room.specs.alto_words.specs.Fid.{is_fid}
use Rattle.laws_room.specs.alto_words.specs.Names.{is_same_name}
use Rattle.laws_room.specs.alto_words.specs.declared.fid.Fid.{Fid}
use Rattle.laws_line.proofs.inside.Coming.{slots_enter}
use Rattle.laws_line.proofs.inside.FreeWords.{MoreFree, more_after, row_behind, row_widened}
use Rattle.laws_line.proofs.inside.Runs.{IsShort}
use Rattle.laws_line.proofs.inside.Updates.{got_updated}
use Rattle.laws_line.specs.AfterLaws.{IsDirectory, RootIsDirectory}
use Rattle.laws_line.specs.LineLaws.{LeaveNames, LeavesNames}
use Rattle.laws_line.specs.Ready.{steps_of}
use Rattle.laws_room.specs.pack_laws.proofs.Keys.{fid_total, is_fid-itself, same_fid}
use Rattle.pack_model.specs.reading.Bodies.{File, items_in}
use Rattle.pack_model.specs.reading.Bodies.Body.{items_of}
use Rattle.pack_model.specs.reading.Bytes.{put_at}
use Rattle.pack_model.specs.reading.Leaders.{Leader}
use Rattle.pack_model.specs.reading.Model.{Model, dir_items}
use Rattle.pack_model.specs.operations.Rooms.{items_entered, largest_run}
use Rattle.pack_model.specs.reading.Slots.{Item, item_words}
use Rattle.pack_model.specs.reading.Slots.Item.{entry, space}
use Rattle.pack_model.specs.operations.Step.{Operation, items_left, new_file, on_bytes, on_items, on_leader, step, update_file}
use Rattle.pack_model.specs.operations.Step.Operation.{cut, drop_file, enter, grow, leave, make, put, stamp, title, widen}
use Rattle.laws_room.specs.pack_laws.proofs.Placing.{none_of_false}

-- Slots of at most 1,023 words, with so many free words in a row.
pub record Slotted (k : ℕ) (x : File) : Type 0 where
  pub lead : Leader
  pub slots : List Item
  pub is : x ≡ record { leader = lead; body = items_of slots }
  pub short : All IsShort slots
  pub row : k ≤ largest_run slots

-- A directory of the model with such slots.
pub record Roomy (k : ℕ) (m : Model) (d : Fid) : Type 0 where
  pub own : File
  pub there : get m.files d ≡ Some own
  pub slotted : Slotted k own

-- it is one whose slots are in the model
pub directory_roomy : (m : Model) (d : Fid) → IsDirectory m d → Roomy 0 m d
directory_roomy m d h = record {
  own = record { leader = h.lead; body = items_of h.slots };
  there = h.there;
  slotted = record { lead = h.lead; slots = h.slots; is = refl; short = h.short; row = omega arith };
}

pub roomy_directory : (k : ℕ) (m : Model) (d : Fid) → Roomy k m d → IsDirectory m d
roomy_directory k m d h = record { lead = h.slotted.lead; slots = h.slotted.slots; there = h.there ∙ ap (λ x. Some x) h.slotted.is; short = h.slotted.short }

-- by the slots of the model
pub roomy_slots : (k : ℕ) (m : Model) (d : Fid) (h : Roomy k m d) → dir_items m d ≡ h.slotted.slots
roomy_slots k m d h = ap items_in (h.there ∙ ap (λ x. Some x) h.slotted.is)

pub roomy_more : (j k : ℕ) (m : Model) (d : Fid) → Roomy j m d → k ≤ largest_run (dir_items m d) → Roomy k m d
roomy_more j k m d h more =
    let e = ap largest_run (roomy_slots j m d h) in
    record { own = h.own; there = h.there; slotted = record { lead = h.slotted.lead; slots = h.slotted.slots; is = h.slotted.is; short = h.slotted.short; row = omega arith } }

-- SysDir is one
pub root_is_directory : RootIsDirectory
root_is_directory m s = record { lead = s.root.0; slots = s.root.1; there = s.root.2; short = subst (All IsShort) (ap items_in s.root.2) s.fitting.slots }

-- ---- one file changes
-- by what becomes of slots
pub slotted_by : (g : File → File) (j k : ℕ) → ((l : Leader) (is : List Item) → All IsShort is → j ≤ largest_run is → Slotted k (g (record { leader = l; body = items_of is }))) → (x : File) → Slotted j x → Slotted k (g x)
slotted_by g j k h x s = subst (λ y. Slotted k (g y)) (sym s.is) (h s.lead s.slots s.short s.row)

-- a directory stays one
roomy_updated : (k : ℕ) (m : Model) (f : Fid) (g : File → File) (d : Fid) → ((x : File) → Slotted k x → Slotted k (g x)) → Roomy k m d → Roomy k (update_file m f g) d
roomy_updated k m f g d stays h = by (is_fid d f) refl
  where
    by : (b : Bool) → is_fid d f ≡ b → Roomy k (update_file m f g) d
    by false e = record { own = h.own; there = got_updated m f g d ∙ ap (λ b. cond b (option_map g (get m.files f)) (get m.files d)) e ∙ h.there; slotted = h.slotted }
    by true e = record {
      own = g h.own;
      there = got_updated m f g d ∙ ap (λ b. cond b (option_map g (get m.files f)) (get m.files d)) e ∙ ap (λ q. option_map g (get m.files q)) (sym (same_fid d f e)) ∙ ap (option_map g) h.there;
      slotted = stays h.own h.slotted;
    }

-- the one that changes
roomy_changed : (j k : ℕ) (m : Model) (d : Fid) (g : File → File) → ((x : File) → Slotted j x → Slotted k (g x)) → Roomy j m d → Roomy k (update_file m d g) d
roomy_changed j k m d g becomes h = record {
  own = g h.own;
  there = got_updated m d g d ∙ ap (λ b. cond b (option_map g (get m.files d)) (get m.files d)) (is_fid-itself d) ∙ ap (option_map g) h.there;
  slotted = becomes h.own h.slotted;
}

-- ---- slots
-- a page more
widened : (j k : ℕ) (l : Leader) (is : List Item) → All IsShort is → j ≤ largest_run is → k ≤ largest_run (is ++ space 256 ∷ []) → Slotted k (on_items (λ is. is ++ space 256 ∷ []) (record { leader = l; body = items_of is }))
widened j k l is short row enough = record {
  lead = l;
  slots = is ++ space 256 ∷ [];
  is = refl;
  short = All-append IsShort is (space 256 ∷ []) short (All-cons IsShort (space 256) [] (omega arith) (All-nil IsShort));
  row = enough;
}

-- an entry goes, if there is one
short_left : (name : List ℕ) (is : List Item) → All IsShort is → All IsShort (items_left name is)
short_left name [] h = h
short_left name (space n ∷ is) h = All-cons IsShort (space n) (items_left name is) (All-head IsShort (space n) is h) (short_left name is (All-tail IsShort (space n) is h))
short_left name (entry f own ∷ is) h = by (is_same_name own name) (short_left name is (All-tail IsShort (entry f own) is h))
  where
    head : IsShort (entry f own)
    head = All-head IsShort (entry f own) is h

    by : (b : Bool) → All IsShort (items_left name is) → All IsShort (cond b (space (item_words (entry f own)) ∷ is) (entry f own ∷ items_left name is))
    by true again = All-cons IsShort (space (item_words (entry f own))) is head (All-tail IsShort (entry f own) is h)
    by false again = All-cons IsShort (entry f own) (items_left name is) head again

free_left : (name : List ℕ) (is : List Item) → MoreFree is (items_left name is)
free_left name [] = record { front = omega arith; row = omega arith }
free_left name (space n ∷ is) = more_after (space n ∷ []) is (items_left name is) (free_left name is)
free_left name (entry f own ∷ is) = by (is_same_name own name) (free_left name is)
  where
    by : (b : Bool) → MoreFree is (items_left name is) → MoreFree (entry f own ∷ is) (cond b (space (item_words (entry f own)) ∷ is) (entry f own ∷ items_left name is))
    by true again = record { front = omega arith; row = omega arith }
    by false again = more_after (entry f own ∷ []) is (items_left name is) again

-- ---- operations
-- those that leave names as they are
pub roomy_step : (k : ℕ) (m : Model) (o : Operation) (d : Fid) → LeavesNames m o → Roomy k m d → Roomy k (step m o) d
roomy_step k m (put f offset new) d leaves = roomy_updated k m f (on_bytes (put_at offset new)) d (slotted_by (on_bytes (put_at offset new)) k k (λ l is short row. record { lead = l; slots = is; is = refl; short = short; row = row }))
roomy_step k m (grow f new) d leaves = roomy_updated k m f (on_bytes (λ bytes. bytes ++ new)) d (slotted_by (on_bytes (λ bytes. bytes ++ new)) k k (λ l is short row. record { lead = l; slots = is; is = refl; short = short; row = row }))
roomy_step k m (cut f n) d leaves = roomy_updated k m f (on_bytes (take n)) d (slotted_by (on_bytes (take n)) k k (λ l is short row. record { lead = l; slots = is; is = refl; short = short; row = row }))
roomy_step k m (title f name) d leaves = roomy_updated k m f (on_leader (λ l. record l { name = name })) d (slotted_by (on_leader (λ l. record l { name = name })) k k (λ l is short row. record { lead = record l { name = name }; slots = is; is = refl; short = short; row = row }))
roomy_step k m (stamp f moment) d leaves = roomy_updated k m f (on_leader (λ l. record l { written = moment })) d (slotted_by (on_leader (λ l. record l { written = moment })) k k (λ l is short row. record { lead = record l { written = moment }; slots = is; is = refl; short = short; row = row }))
roomy_step k m (widen e) d leaves = roomy_updated k m e (on_items (λ is. is ++ space 256 ∷ [])) d (slotted_by (on_items (λ is. is ++ space 256 ∷ [])) k k (λ l is short row. let r = row_widened is (space 256 ∷ []) in widened k k l is short row (omega arith)))
roomy_step k m (make f name moment) d leaves = absurd leaves
roomy_step k m (drop_file f) d leaves = absurd leaves
roomy_step k m (leave e name) d leaves = absurd leaves
roomy_step k m (enter e name f) d leaves = absurd leaves

pub roomy_steps : (k : ℕ) (m : Model) (ops : List Operation) (d : Fid) → LeaveNames m ops → Roomy k m d → Roomy k (steps_of m ops) d
roomy_steps k m [] d leaves h = h
roomy_steps k m (o ∷ ops) d leaves h = roomy_steps k (step m o) ops d leaves.1 (roomy_step k m o d leaves.0 h)

-- a directory that gets a page has room for any entry
pub roomy_widened : (j k : ℕ) (m : Model) (d : Fid) → k ≤ 256 → Roomy j m d → Roomy k (step m (widen d)) d
roomy_widened j k m d few = roomy_changed j k m d (on_items (λ is. is ++ space 256 ∷ [])) (slotted_by (on_items (λ is. is ++ space 256 ∷ [])) j k (λ l is short row. let r = row_behind is (space 256 ∷ []) in widened j k l is short row (omega arith)))

-- an entry goes
pub roomy_leave : (k : ℕ) (m : Model) (e : Fid) (name : List ℕ) (d : Fid) → Roomy k m d → Roomy k (step m (leave e name)) d
roomy_leave k m e name d = roomy_updated k m e (on_items (items_left name)) d (slotted_by (on_items (items_left name)) k k (λ l is short row.
    let r = (free_left name is).row in
    record { lead = l; slots = items_left name is; is = refl; short = short_left name is short; row = omega arith }))

-- one comes, of a name of at most 39 characters
pub roomy_enter : (m : Model) (e : Fid) (name : List ℕ) (f : Fid) (d : Fid) → length name ≤ 39 → Roomy 0 m d → Roomy 0 (step m (enter e name f)) d
roomy_enter m e name f d few = roomy_updated 0 m e (on_items (items_entered (entry f name))) d (slotted_by (on_items (items_entered (entry f name))) 0 0 (λ l is short row. record {
  lead = l;
  slots = items_entered (entry f name) is;
  is = refl;
  short = (slots_enter e f name is few).short short;
  row = omega arith;
}))

-- a file comes
pub roomy_make : (k : ℕ) (m : Model) (f : Fid) (name : List ℕ) (moment : ℕ) (d : Fid) → contains_key m.files f ≡ false → Roomy k m d → Roomy k (step m (make f name moment)) d
roomy_make k m f name moment d fresh h = by (is_fid d f) refl
  where
    by : (b : Bool) → is_fid d f ≡ b → Roomy k (step m (make f name moment)) d
    by false e = record { own = h.own; there = get-insert fid_total m.files f (new_file f name moment) d ∙ ap (λ b. cond b (Some (new_file f name moment)) (get m.files d)) e ∙ h.there; slotted = h.slotted }
    by true e = absurd (let n : None ≡ Some h.own = sym (none_of_false (get m.files f) fresh) ∙ ap (get m.files) (sym (same_fid d f e)) ∙ h.there in cc)
