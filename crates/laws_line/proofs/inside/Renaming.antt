-- The line that renames a file.
use Rattle.std.proofs.Common.{Bool, List, [], arith, cond, false, length, nat_le, subst, sym, true, ℕ, ◌||◌, ◌∷◌, ◌≡◌, ◌≤◌}
use Rattle.laws_room.specs.alto_words.specs.Fid.{is_fid, is_system, sys_dir}
use Rattle.laws_room.specs.alto_words.specs.declared.fid.Fid.{Fid}
use Rattle.laws_line.proofs.inside.Changes.{keeps_step}
use Rattle.laws_line.proofs.inside.Coming.{entered_ready}
use Rattle.laws_line.proofs.inside.Leaving.{EntersIn, enters_in, enters_titled, enters_widened, left_spared}
use Rattle.laws_line.proofs.inside.Spared.{Prepared, Spared, behind, ready_line, spared_kept, spared_ready}
use Rattle.laws_line.proofs.inside.Throughout.{steps_both}
use Rattle.laws_line.specs.LineLaws.{IsEntered, RenameLeavesRoom}
use Rattle.laws_line.specs.Ready.{ReadyThroughout, Settled, steps_of}
use Rattle.pack_model.specs.reading.Model.{Model, dir_items, root_items}
use Rattle.pack_model.specs.operations.Rooms.{largest_run}
use Rattle.pack_model.specs.reading.Slots.{entry_length}
use Rattle.pack_model.specs.operations.Step.{Operation, longest_entry, room_widening, spare_widening, step}
use Rattle.pack_model.specs.operations.Step.Operation.{enter, leave, title, widen}

-- the entry is still there where a directory gets a page, or none
enters_page : (m : Model) (d e : Fid) (name : List ℕ) (f : Fid) (b : Bool) → EntersIn d name f (dir_items m d) → EntersIn d name f (dir_items (steps_of m (cond b [] (widen e ∷ []))) d)
enters_page m d e name f true h = h
enters_page m d e name f false h = enters_widened m d e name f h

module _ (m : Model) (d : Fid) (old : List ℕ) (to : Fid) (name : List ℕ) (f : Fid) (s : Settled m) (h : IsEntered m d old f) (short : length name ≤ 39) (ordinary : is_system f ≡ false) where
  abbrev pub rest : List Operation
  rest = title f name ∷ leave d old ∷ enter to name f ∷ []

  -- the models after the title and after the entry that goes
  abbrev pub titled : Model
  titled = step (behind m to name s) (title f name)

  abbrev pub left : Model
  left = step titled (leave d old)

  -- the entry after the front of the line
  enters_after : EntersIn d old f (dir_items (behind m to name s) d)
  enters_after = subst (λ n. EntersIn d old f (dir_items n d)) (sym (steps_both m (spare_widening m) (room_widening m to name)))
      (enters_page (steps_of m (spare_widening m)) d to old f (is_fid to sys_dir || nat_le (entry_length (length name)) (largest_run (dir_items m to)))
      (enters_page m d sys_dir old f (nat_le longest_entry (largest_run (root_items m))) (enters_in m d old f h)))

  -- after the title, and after the entry that goes, the file alone may have no name
  titled_after : Prepared m to name s rest → Spared titled f
  titled_after p = let enough = p.pages in spared_kept (behind m to name s) titled 0 f (keeps_step (behind m to name s) (title f name) short) (omega arith) (p.spared f)

  pub left_after : Prepared m to name s rest → Spared left f
  left_after p = left_spared titled d old f (enters_titled (behind m to name s) d f old name f enters_after) (titled_after p) ordinary

  -- the title, the entry that goes, and the one that comes
  rename_rest : Prepared m to name s rest → ReadyThroughout (behind m to name s) rest
  rename_rest p = (spared_ready (behind m to name s) f (p.spared f), (spared_ready titled f (titled_after p), (spared_ready left f (left_after p), entered_ready to f name short left (left_after p))))

pub rename_leaves_room : RenameLeavesRoom
rename_leaves_room m d old to name f s h short ordinary few = ready_line m to name s (title f name ∷ leave d old ∷ enter to name f ∷ []) few (rename_rest m d old to name f s h short ordinary)
