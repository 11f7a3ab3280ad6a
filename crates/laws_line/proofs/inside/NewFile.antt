-- The line that makes a file.
use Rattle.std.proofs.Common.{List, [], arith, false, length, subst, ℕ, ◌∙◌, ◌∷◌, ◌≡◌, ◌≤◌}
use Rattle.std.specs.FinMap.{contains_key}
use Rattle.laws_room.specs.alto_words.specs.declared.fid.Fid.{Fid}
use Rattle.laws_line.proofs.inside.Coming.{entered_pages, entered_ready}
use Rattle.laws_line.proofs.inside.Making.{made_pages, made_spared}
use Rattle.laws_line.proofs.inside.Spared.{Prepared, Spared, behind, front, ready_line, spared_ready, there_after}
use Rattle.laws_line.proofs.inside.Throughout.{ready_changes, steps_both}
use Rattle.laws_line.specs.LineLaws.{LeaveNames, NewFileLeavesRoom, with_new_file}
use Rattle.laws_line.specs.Ready.{ReadyThroughout, Settled}
use Rattle.pack_model.specs.reading.Model.{Model}
use Rattle.pack_model.specs.operations.Step.{Operation, step}
use Rattle.pack_model.specs.operations.Step.Operation.{enter, make}

module _ (m : Model) (d : Fid) (name : List ℕ) (f : Fid) (moment : ℕ) (rest : List Operation) (s : Settled m) (short : length name ≤ 39) (fresh : contains_key m.files f ≡ false) where
  -- the models after the making and the entering
  abbrev pub made : Model
  made = step (behind m d name s) (make f name moment)

  abbrev pub entered : Model
  entered = step made (enter d name f)

  pub fresh_after : contains_key (behind m d name s).files f ≡ false
  fresh_after = there_after m d name s f ∙ fresh

  -- after the making the file alone has no name
  pub made_after : Prepared m d name s (make f name moment ∷ enter d name f ∷ rest) → Spared made f
  made_after p = let enough = p.pages in made_spared (behind m d name s) f name moment (p.spared f) short fresh_after (omega arith)

  -- the making, the entering, and what comes then
  new_file_rest : LeaveNames entered rest → Prepared m d name s (make f name moment ∷ enter d name f ∷ rest) → ReadyThroughout (behind m d name s) (make f name moment ∷ enter d name f ∷ rest)
  new_file_rest leaves p =
      let h : Spared (behind m d name s) f = p.spared f in
      let enough = p.pages in
      let a : Spared made f = made_after p in
      let more = made_pages (behind m d name s) f name moment h short fresh_after in
      let same = entered_pages d f name short made in
      (spared_ready (behind m d name s) f h, (spared_ready made f a, ready_changes entered rest (entered_ready d f name short made a) leaves (omega arith)))

  -- what comes then leaves names as they are, on the model after the entering
  pub leaves_entered : LeaveNames (with_new_file m d name f moment) rest → LeaveNames entered rest
  leaves_entered leaves = subst (λ n. LeaveNames n rest) (steps_both m (front m d name s) (make f name moment ∷ enter d name f ∷ [])) leaves

pub new_file_leaves_room : NewFileLeavesRoom
new_file_leaves_room m d name f moment rest s short fresh leaves few =
    ready_line m d name s (make f name moment ∷ enter d name f ∷ rest) few (new_file_rest m d name f moment rest s short fresh (leaves_entered m d name f moment rest s short fresh leaves))
