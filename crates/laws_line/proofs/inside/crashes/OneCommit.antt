-- The moves of an operation, of which one commits it; and the model to which those of a line lead, whatever a cut stands for.
use Rattle.std.proofs.Common.{Bool, List, [], ap, cond, false, length, refl, true, ℕ, ◌++◌, ◌==◌, ◌∙◌, ◌∷◌, ◌≡◌}
use Rattle.disk_records.specs.Packs.{Pack}
use Rattle.pack_model.specs.operations.Committing.{length_of, line_moves, moves_of, moves_of_all, page_of_byte, pages_added, pages_cut, serial_moves, units, values_before}
use Rattle.pack_model.specs.sessions.Meanings.{OperationCut, SessionCut, Views, meaning}
use Rattle.pack_model.specs.reading.Model.{Model, dir_items}
use Rattle.pack_model.specs.sessions.Moves.{steps}
use Rattle.pack_model.specs.operations.Operations.{Move, claims_moves, quiet_moves, releases_moves}
use Rattle.pack_model.specs.operations.Operations.Move.{commits, mends, quiet}
use Rattle.pack_model.specs.operations.Rooms.{find_room}
use Rattle.pack_model.specs.reading.Slots.{entry_length}
use Rattle.pack_model.specs.states.Sound.{mark_open}
use Rattle.pack_model.specs.operations.Step.{Operation, step}
use Rattle.pack_model.specs.operations.Step.Operation.{cut, drop_file, enter, grow, leave, make, put, stamp, title, widen}
use Rattle.laws_room.specs.pack_laws.proofs.Moving.{steps-append}
use Rattle.laws_line.specs.Ready.{steps_of}
use Rattle.laws_line.specs.PartLaws.{LineMovesLeadToTheModel}

-- ---- moves of which one commits
-- each is quiet
abbrev pub Quiets : List Move → Type 0
Quiets [] = Unit {0}
Quiets (quiet ∷ os) = Quiets os
Quiets (commits o ∷ os) = ⊥
Quiets (mends n ∷ os) = ⊥

-- one commits this operation, and the others are quiet
abbrev pub Once : Operation → List Move → Type 0
Once o [] = ⊥
Once o (quiet ∷ os) = Once o os
Once o (commits x ∷ os) = (x ≡ o) × Quiets os
Once o (mends n ∷ os) = ⊥

claims_once : {X : Type 0} (cs : List X) (o : Operation) (os : List Move) → Once o os → Once o (claims_moves cs ++ os)
claims_once [] o os h = h
claims_once (c ∷ cs) o os h = claims_once cs o os h

releases_quiet : {X : Type 0} (cs : List X) (os : List Move) → Quiets os → Quiets (releases_moves cs ++ os)
releases_quiet [] os h = h
releases_quiet (c ∷ cs) os h = releases_quiet cs os h

releases_alone : {X : Type 0} (cs : List X) → Quiets (releases_moves cs)
releases_alone [] = tt
releases_alone (c ∷ cs) = releases_alone cs

quiets_once : {X : Type 0} (cs : List X) (o : Operation) (os : List Move) → Once o os → Once o (quiet_moves cs ++ os)
quiets_once [] o os h = h
quiets_once (c ∷ cs) o os h = quiets_once cs o os h

-- so it is of each operation
pub moves_once : (m : Model) (o : Operation) → Once o (moves_of m o)
moves_once m (make f name moment) = (refl, tt)
moves_once m (put f offset new) = (refl, tt)
moves_once m (grow f new) = claims_once (units (pages_added (length_of m f) (length new))) (grow f new) (quiet ∷ commits (grow f new) ∷ quiet ∷ []) (refl, tt)
moves_once m (cut f n) = (refl, releases_alone (units (pages_cut (length_of m f) n)))
moves_once m (title f name) = (refl, tt)
moves_once m (stamp f moment) = (refl, tt)
moves_once m (drop_file f) = (refl, releases_quiet (units (page_of_byte (length_of m f))) (quiet ∷ []) tt)
moves_once m (leave d name) = (refl, tt)
moves_once m (enter d name f) = quiets_once (units (values_before (dir_items m d) (entry_length (length name)) (find_room (entry_length (length name)) (dir_items m d)))) (enter d name f) (commits (enter d name f) ∷ []) (refl, tt)
moves_once m (widen d) = claims_once (units (pages_added (length_of m d) 512)) (widen d) (quiet ∷ commits (widen d) ∷ quiet ∷ []) (refl, tt)

-- a new serial is quiet
serial_quiet : (o : Operation) → Quiets (serial_moves o)
serial_quiet (make f name moment) = tt
serial_quiet (put f offset new) = tt
serial_quiet (grow f new) = tt
serial_quiet (cut f n) = tt
serial_quiet (title f name) = tt
serial_quiet (stamp f moment) = tt
serial_quiet (drop_file f) = tt
serial_quiet (leave d name) = tt
serial_quiet (enter d name f) = tt
serial_quiet (widen d) = tt

-- ---- the model to which they lead
module _ (stands : Model → Pack → Type 0) where
  quiets_stay : (m : Model) (os : List Move) → Quiets os → steps (meaning stands) m os ≡ m
  quiets_stay m [] h = refl
  quiets_stay m (quiet ∷ os) h = quiets_stay m os h
  quiets_stay m (commits x ∷ os) h = absurd h
  quiets_stay m (mends n ∷ os) h = absurd h

  once_steps : (m : Model) (o : Operation) (os : List Move) → Once o os → steps (meaning stands) m os ≡ step m o
  once_steps m o [] h = absurd h
  once_steps m o (quiet ∷ os) h = once_steps m o os h
  once_steps m o (commits x ∷ os) h = quiets_stay (step m x) os h.1 ∙ ap (step m) h.0
  once_steps m o (mends n ∷ os) h = absurd h

  -- those of an operation are the step
  pub moves_step : (m : Model) (o : Operation) → steps (meaning stands) m (moves_of m o) ≡ step m o
  moves_step m o = once_steps m o (moves_of m o) (moves_once m o)

  -- and those of a line come to the model after its operations
  all_lead : (m : Model) (ops : List Operation) → steps (meaning stands) m (moves_of_all m ops) ≡ steps_of m ops
  all_lead m [] = refl
  all_lead m (o ∷ ops) =
      let later : List Move = moves_of_all (step m o) ops in
      let one : steps (meaning stands) m (serial_moves o ++ moves_of m o) ≡ step m o =
      steps-append (meaning stands) m (serial_moves o) (moves_of m o) ∙ ap (λ n. steps (meaning stands) n (moves_of m o)) (quiets_stay m (serial_moves o) (serial_quiet o)) ∙ moves_step m o in
      steps-append (meaning stands) m (serial_moves o ++ moves_of m o) later ∙ ap (λ n. steps (meaning stands) n later) one ∙ all_lead (step m o) ops

  line_leads : (mark : ℕ) (m : Model) (ops : List Operation) → steps (meaning stands) m (line_moves mark m ops) ≡ steps_of m ops
  line_leads mark m [] = refl
  line_leads mark m (o ∷ ops) = opened (mark == mark_open) ∙ all_lead m (o ∷ ops)
    where
      opened : (c : Bool) → steps (meaning stands) m (cond c [] (quiet ∷ []) ++ moves_of_all m (o ∷ ops)) ≡ steps (meaning stands) m (moves_of_all m (o ∷ ops))
      opened true = refl
      opened false = refl

pub line_moves_lead_to_the_model : LineMovesLeadToTheModel
line_moves_lead_to_the_model mark m ops = record { in_views = line_leads Views mark m ops; in_operations = line_leads OperationCut mark m ops; in_session = line_leads SessionCut mark m ops }
