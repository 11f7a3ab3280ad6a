-- Operations one after another.
use Rattle.std.proofs.Common.{List, [], ap, arith, inl, inr, refl, sym, ℕ, ◌++◌, ◌+◌, ◌∙◌, ◌∷◌, ◌≡◌, ◌≤◌, ◌⊎◌}
use Rattle.std.specs.FinMap.{entries}
use Rattle.laws_room.specs.alto_words.specs.Fid.{disk_descriptor, sys_dir}
use Rattle.laws_room.specs.alto_words.specs.declared.fid.Fid.{Fid}
use Rattle.laws_line.proofs.inside.Changes.{keeps_step}
use Rattle.laws_line.proofs.inside.Updates.{Keeps, fitting_kept}
use Rattle.laws_line.specs.LineLaws.{ChangesLeaveRoom, LeaveNames}
use Rattle.laws_line.specs.Ready.{NamedBut, Ready, ReadyThroughout, Settled, steps_of}
use Rattle.pack_model.specs.operations.Committing.{pages_for_operation, pages_for_operations}
use Rattle.pack_model.specs.reading.Model.{IsNamed, Model, descriptor_pages, files_pages, room, root_items}
use Rattle.pack_model.specs.operations.Rooms.{largest_run}
use Rattle.pack_model.specs.operations.Step.{Operation, longest_entry, step}

-- there are pages for this model's files and so many more
abbrev pub Pages : Model → ℕ → Type 0
Pages m more = files_pages (entries m.files) + more + descriptor_pages m.shape ≤ m.good

-- the room of a model is what is left of its good sectors
pub pages_room : (m : Model) (ops : List Operation) → Settled m → pages_for_operations m ops ≤ room m → Pages m (pages_for_operations m ops)
pages_room m ops s h = let p = s.fitting.pages in omega arith

-- a change takes its pages
pub pages_kept : (m n : Model) (more rest : ℕ) → Keeps m n more → Pages m (more + rest) → Pages n rest
pages_kept m n more rest k h = let p = k.pages in let s = ap descriptor_pages k.shape in let g = k.good in omega arith

-- no file loses its name
pub named_kept : (m n : Model) (more : ℕ) (f : Fid) → Keeps m n more → NamedBut m f → NamedBut n f
named_kept m n more f k h = record {
  main = k.named sys_dir h.main;
  descriptor = k.named disk_descriptor h.descriptor;
  others = λ g there other. k.named g (h.others g (sym (k.there g) ∙ there) other);
}

-- so a model stays ready
pub ready_kept : (m n : Model) (more : ℕ) → Keeps m n more → Ready m → Pages m more → Ready n
ready_kept m n more k h enough = record {
  fitting = fitting_kept m n more k h.fitting enough;
  nameless = h.nameless;
  named = named_kept m n more h.nameless k h.named;
  room = by h.room;
}
  where
    by : IsNamed m h.nameless ⊎ (longest_entry ≤ largest_run (root_items m)) → IsNamed n h.nameless ⊎ (longest_entry ≤ largest_run (root_items n))
    by (inl own) = inl (k.named h.nameless own)
    by (inr run) = let r = k.row in inr (omega arith)

-- a settled one is ready
pub settled_ready : (m : Model) → Settled m → Ready m
settled_ready m s = record {
  fitting = s.fitting;
  nameless = sys_dir;
  named = record { main = s.main; descriptor = s.descriptor; others = λ g there other. s.all g there };
  room = inl s.main;
}

-- operations that leave names as they are
pub ready_changes : (m : Model) (ops : List Operation) → Ready m → LeaveNames m ops → Pages m (pages_for_operations m ops) → ReadyThroughout m ops
ready_changes m [] h leaves enough = h
ready_changes m (o ∷ ops) h leaves enough =
    let k = keeps_step m o leaves.0 in (
      h,
      ready_changes (step m o) ops (ready_kept m (step m o) (pages_for_operation m o) k h (omega arith)) leaves.1
          (pages_kept m (step m o) (pages_for_operation m o) (pages_for_operations (step m o) ops) k enough),
    )

pub changes_leave_room : ChangesLeaveRoom
changes_leave_room m ops s leaves few = ready_changes m ops (settled_ready m s) leaves (pages_room m ops s few)

-- ---- two lists of operations
-- the models of both are those of one list
pub through_both : (m : Model) (ops more : List Operation) → ReadyThroughout m ops → ReadyThroughout (steps_of m ops) more → ReadyThroughout m (ops ++ more)
through_both m [] more a b = b
through_both m (o ∷ ops) more a b = (a.0, through_both (step m o) ops more a.1 b)

-- so is the last one
pub steps_both : (m : Model) (ops more : List Operation) → steps_of m (ops ++ more) ≡ steps_of (steps_of m ops) more
steps_both m [] more = refl
steps_both m (o ∷ ops) more = steps_both (step m o) ops more

-- and the pages
pub pages_both : (m : Model) (ops more : List Operation) → pages_for_operations m (ops ++ more) ≡ pages_for_operations m ops + pages_for_operations (steps_of m ops) more
pages_both m [] more = omega arith
pages_both m (o ∷ ops) more = let h = pages_both (step m o) ops more in omega arith

-- the last one is ready
pub last_ready : (m : Model) (ops : List Operation) → ReadyThroughout m ops → Ready (steps_of m ops)
last_ready m [] h = h
last_ready m (o ∷ ops) h = last_ready (step m o) ops h.1
