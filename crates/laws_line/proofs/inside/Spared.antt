-- What a line does before it makes or renames a file: SysDir has a run of free words for the longest entry then.
use Rattle.std.proofs.Common.{◌++◌, ◌+◌, ◌∙◌, ◌∷◌, ◌≡◌, ◌≤◌, ◌||◌, Bool, List, [], ap, arith, cond, false, inr, leb-true, length, nat_le, refl, true, ℕ}
use Rattle.std.specs.FinMap.{contains_key}
use Rattle.std.specs.Option.{option_map}
use Rattle.laws_room.specs.alto_words.specs.Fid.{is_fid, sys_dir}
use Rattle.laws_room.specs.alto_words.specs.declared.fid.Fid.{Fid}
use Rattle.laws_line.proofs.inside.Changes.{keeps_step}
use Rattle.laws_line.proofs.inside.FreeWords.{row_behind}
use Rattle.laws_line.proofs.inside.Throughout.{Pages, named_kept, pages_both, pages_kept, pages_room, ready_changes, settled_ready, steps_both, through_both}
use Rattle.laws_line.proofs.inside.Updates.{Keeps, fitting_kept, got_updated, kept_both}
use Rattle.laws_line.specs.LineLaws.{LeaveNames}
use Rattle.laws_line.specs.Ready.{Fitting, NamedBut, Ready, ReadyThroughout, Settled, steps_of}
use Rattle.pack_model.specs.reading.Bodies.{items_in}
use Rattle.pack_model.specs.operations.Committing.{pages_for_operation, pages_for_operations}
use Rattle.pack_model.specs.reading.Model.{Model, dir_items, root_items, room}
use Rattle.pack_model.specs.operations.Rooms.{largest_run}
use Rattle.pack_model.specs.reading.Slots.{Item, entry_length}
use Rattle.pack_model.specs.reading.Slots.Item.{space}
use Rattle.pack_model.specs.operations.Step.{Operation, longest_entry, on_items, room_widening, spare_widening, step}
use Rattle.pack_model.specs.operations.Step.Operation.{widen}

-- Each file but this one has a name, and SysDir has a run of free words for it.
pub record Spared (m : Model) (f : Fid) : Type 0 where
  pub fitting : Fitting m
  pub named : NamedBut m f
  pub run : longest_entry ≤ largest_run (root_items m)

pub spared_ready : (m : Model) (f : Fid) → Spared m f → Ready m
spared_ready m f s = record { fitting = s.fitting; nameless = f; named = s.named; room = inr s.run }

-- a change keeps this
pub spared_kept : (m n : Model) (more : ℕ) (f : Fid) → Keeps m n more → Pages m more → Spared m f → Spared n f
spared_kept m n more f k enough s = let r = k.row in let h = s.run in record { fitting = fitting_kept m n more k s.fitting enough; named = named_kept m n more f k s.named; run = omega arith }

-- operations that leave names as they are
pub keeps_all : (m : Model) (ops : List Operation) → LeaveNames m ops → Keeps m (steps_of m ops) (pages_for_operations m ops)
keeps_all m [] h = record { shape = refl; good = refl; pages = omega arith; names = λ s. s; slots = λ s. s; there = λ q. refl; named = λ q s. s; row = omega arith }
keeps_all m (o ∷ ops) h = kept_both m (step m o) (steps_of (step m o) ops) (pages_for_operation m o) (pages_for_operations (step m o) ops) (keeps_step m o h.0) (keeps_all (step m o) ops h.1)

-- a page more for a directory, or none
pub page_leaves : (m : Model) (d : Fid) (b : Bool) → LeaveNames m (cond b [] (widen d ∷ []))
page_leaves m d true = tt
page_leaves m d false = (tt, tt)

-- two lists
pub leave_both : (m : Model) (a b : List Operation) → LeaveNames m a → LeaveNames (steps_of m a) b → LeaveNames m (a ++ b)
leave_both m [] b h k = k
leave_both m (o ∷ a) b h k = (h.0, leave_both (step m o) a b h.1 k)

-- SysDir has a run of free words for the longest entry
run_there : (m : Model) → Settled m → longest_entry ≤ largest_run (root_items (steps_of m (spare_widening m)))
run_there m s = by (nat_le longest_entry (largest_run (root_items m))) refl
  where
    by : (b : Bool) → nat_le longest_entry (largest_run (root_items m)) ≡ b → longest_entry ≤ largest_run (root_items (steps_of m (cond b [] (widen sys_dir ∷ []))))
    by true e = leb-true longest_entry (largest_run (root_items m)) e
    by false e =
        let is : List Item = s.root.1 in
        let now : root_items (step m (widen sys_dir)) ≡ is ++ space 256 ∷ [] = ap items_in (got_updated m sys_dir (on_items (λ is. is ++ space 256 ∷ [])) sys_dir ∙ ap (option_map (on_items (λ is. is ++ space 256 ∷ []))) s.root.2) in
        let r = ap largest_run now in
        let l = row_behind is (space 256 ∷ []) in
        omega arith

-- ---- the front of a line
module _ (m : Model) (d : Fid) (name : List ℕ) (s : Settled m) where
  -- the pages that directories get, and the model after them
  abbrev pub front : List Operation
  front = spare_widening m ++ room_widening m d name

  abbrev pub behind : Model
  behind = steps_of m front

  pub leaves_second : LeaveNames (steps_of m (spare_widening m)) (room_widening m d name)
  leaves_second = page_leaves (steps_of m (spare_widening m)) d (is_fid d sys_dir || nat_le (entry_length (length name)) (largest_run (dir_items m d)))

  pub leaves_front : LeaveNames m front
  leaves_front = leave_both m (spare_widening m) (room_widening m d name) (page_leaves m sys_dir (nat_le longest_entry (largest_run (root_items m)))) leaves_second

  keeps_front : Keeps m behind (pages_for_operations m front)
  keeps_front = keeps_all m front leaves_front

  -- no file comes or goes
  pub there_after : (q : Fid) → contains_key behind.files q ≡ contains_key m.files q
  there_after q = keeps_front.there q

  -- SysDir keeps its run
  pub run_after : longest_entry ≤ largest_run (root_items behind)
  run_after =
      let r = (keeps_all (steps_of m (spare_widening m)) (room_widening m d name) leaves_second).row in
      let h = run_there m s in
      let e = ap (λ n. largest_run (root_items n)) (steps_both m (spare_widening m) (room_widening m d name)) in
      omega arith

  -- What the rest of the line finds.
  pub record Prepared (rest : List Operation) : Type 0 where
    pub spared : (f : Fid) → Spared behind f
    pub pages : Pages behind (pages_for_operations behind rest)

  prepared : (rest : List Operation) → Pages m (pages_for_operations m front + pages_for_operations behind rest) → Prepared rest
  prepared rest p = record {
    spared = λ f. record {
      fitting = fitting_kept m behind (pages_for_operations m front) keeps_front s.fitting (omega arith);
      named = named_kept m behind (pages_for_operations m front) f keeps_front (record { main = s.main; descriptor = s.descriptor; others = λ g there other. s.all g there });
      run = run_after;
    };
    pages = pages_kept m behind (pages_for_operations m front) (pages_for_operations behind rest) keeps_front p;
  }

  -- where the pages for the line are there
  pub prepared_line : (rest : List Operation) → pages_for_operations m (front ++ rest) ≤ room m → Prepared rest
  prepared_line rest few =
      let p = pages_room m (front ++ rest) s few in
      let a = pages_both m front rest in
      prepared rest (omega arith)

  -- so the line keeps the model ready where its rest does
  pub ready_line : (rest : List Operation) → pages_for_operations m (front ++ rest) ≤ room m → (Prepared rest → ReadyThroughout behind rest) → ReadyThroughout m (front ++ rest)
  ready_line rest few through =
      let p = pages_room m (front ++ rest) s few in
      let a = pages_both m front rest in
      through_both m front rest (ready_changes m front (settled_ready m s) leaves_front (omega arith)) (through (prepared_line rest few))
