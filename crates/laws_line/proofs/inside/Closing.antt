-- Closing a sound pack, and the end of a session on it.
use Rattle.std.proofs.Common.{Bool, List, [], ap, arith, cond, eqb-true, false, length, refl, subst, sym, true, ℕ, ◌++◌, ◌∙◌, ◌∷◌, ◌≡◌}
use Rattle.std.proofs.lemmas.List.{take_all}
use Rattle.std.specs.Prelude.{◌==◌}
use Rattle.disk_records.proofs.Growing.{after-append}
use Rattle.disk_records.specs.Packs.{Pack, after, crash}
use Rattle.disk_records.specs.declared.records.Event.{Event}
use Rattle.pack_model.specs.operations.Committing.{line_moves, open_moves, units}
use Rattle.pack_model.specs.operations.Operations.Move.{quiet}
use Rattle.pack_model.specs.operations.Operations.{Move, quiet_moves}
use Rattle.pack_model.specs.operations.Step.{Operation}
use Rattle.pack_model.specs.reading.Model.{Model, read_as, read_sights}
use Rattle.pack_model.specs.reading.Sights.{sights}
use Rattle.pack_model.specs.scavenger.Scavenging.{Throughout}
use Rattle.pack_model.specs.sessions.Descriptor.{close_moves, close_writes, data_pages, ending_moves, mark_after}
use Rattle.pack_model.specs.sessions.Meanings.{Mendable, operating, reading}
use Rattle.pack_model.specs.sessions.Moves.{Obeys, rest, steps}
use Rattle.pack_model.specs.states.Sound.{Clean, Sound, mark_clean, mark_of, mark_open}
use Rattle.laws_room.specs.pack_laws.proofs.Moving.{obeys_then, stands_last}
use Rattle.laws_room.specs.laws_operation.proofs.descriptor.Laws.{close_carries_out}
use Rattle.laws_room.specs.laws_operation.specs.DescriptorLaws.{MayClose}
use Rattle.laws_room.proofs.marks.Laws.{unmarked_is_unclean}
use Rattle.laws_line.proofs.inside.crashes.Beginning.{sound_mendable}
use Rattle.laws_line.proofs.inside.crashes.OneCommit.{line_moves_lead_to_the_model}
use Rattle.laws_line.proofs.inside.crashes.Parting.{crash_by_crash, crashes_of_both_parts, operations_are_in_session, read_and_mendable_operates}
use Rattle.laws_line.specs.EndLaws.{ClosingOfASoundPack, EndingOnASoundPack, EndsSession, busy, idle}
use Rattle.laws_line.specs.Ready.{steps_of}

-- ---- closing alone
quiet_model : {X : Type 0} (m : Model) (xs : List X) → steps reading m (quiet_moves xs) ≡ m
quiet_model m [] = refl
quiet_model m (x ∷ xs) = quiet_model m xs

quiet_units : {X : Type 0} (xs : List X) → quiet_moves xs ≡ quiet_moves (units (length xs))
quiet_units [] = refl
quiet_units (x ∷ xs) = ap (λ l. quiet ∷ l) (quiet_units xs)

pub close_model : {X : Type 0} (m : Model) (mark : ℕ) (xs : List X) → steps reading m (close_moves mark xs) ≡ m
close_model m mark xs = by (mark == mark_clean)
  where
    by : (b : Bool) → steps reading m (cond b [] (quiet_moves xs)) ≡ m
    by true = refl
    by false = quiet_model m xs

pub open_model : (m : Model) (mark : ℕ) (o : Operation) (ops : List Operation) → steps reading m (open_moves mark (o ∷ ops)) ≡ m
open_model m mark o ops = by (mark == mark_open)
  where
    by : (b : Bool) → steps reading m (cond b [] (quiet ∷ [])) ≡ m
    by true = refl
    by false = refl

pub closing_of_a_sound_pack : ClosingOfASoundPack
closing_of_a_sound_pack q map pages sound may =
    let c = close_carries_out q map pages sound.whole sound.tidy may in
    let events : List Event = close_writes (mark_of (sights q)) q.shape (read_as q).last map pages in
    let moves : List Move = close_moves (mark_of (sights q)) pages in
    let all : crash q events (length events) ≡ after q events = ap (after q) (take_all (length events) events (omega arith)) in
    let still : Sound (after q events) = subst Sound all ((c.keeps (length events)).sound sound) in
    let cuts : Throughout Mendable q events = (crash_by_crash Mendable q events).1 (λ k. sound_mendable (crash q events k) ((c.keeps k).sound sound)) in
    let operates : Obeys operating (read_as q) q events moves = read_and_mendable_operates (read_as q) q events moves c.obeys cuts in
    record {
      cuts = cuts;
      operating = operates;
      session = operations_are_in_session (read_as q) q events moves operates;
      sound = still;
      clean = record { lives = still.whole.descriptor_lives; mark = c.marked };
      reads = stands_last reading c.obeys ∙ close_model (read_as q) (mark_of (sights q)) pages;
    }

-- ---- the last operations, and then closing
read_shape : (p : Pack) → (read_as p).shape ≡ p.shape
unfolding read_sights
read_shape p = refl

-- closing after some record writes has the moves of an end, where the mark is what the last operations leave, or is no clean one as that is
close_moves_are : (p : Pack) (a : List Event) (ops : List Operation) (pages : List ℕ) → MayClose (after p a) pages → (mark_of (sights (after p a)) == mark_clean) ≡ (mark_after (mark_of (sights p)) ops == mark_clean)
    → close_moves (mark_of (sights (after p a))) pages ≡ close_moves (mark_after (mark_of (sights p)) ops) (units (data_pages (read_as p).shape))
close_moves_are p a ops pages may same =
    ap (λ b. cond b [] (quiet_moves pages)) same
    ∙ ap (λ l. cond (mark_after (mark_of (sights p)) ops == mark_clean) [] l) (quiet_units pages ∙ ap (λ n. quiet_moves (units n)) (may.number ∙ ap data_pages (sym (read_shape p))))

module _ (p : Pack) (a : List Event) (ops : List Operation) (map : List Bool) (pages : List ℕ) (cuts : Throughout Mendable p a) (operates : Obeys operating (read_as p) p a (line_moves (mark_of (sights p)) (read_as p) ops))
    (reads : read_as (after p a) ≡ steps_of (read_as p) ops) (sound : Sound (after p a)) (may : MayClose (after p a) pages) (same : (mark_of (sights (after p a)) == mark_clean) ≡ (mark_after (mark_of (sights p)) ops == mark_clean)) where
  ends : EndsSession p (a ++ close_writes (mark_of (sights (after p a))) (after p a).shape (read_as (after p a)).last map pages) ops
  ends =
      let m : Model = read_as p in
      let q : Pack = after p a in
      let c : List Event = close_writes (mark_of (sights q)) q.shape (read_as q).last map pages in
      let closing = closing_of_a_sound_pack q map pages sound may in
      let both : after p (a ++ c) ≡ after q c = after-append p a c in
      let model : read_as q ≡ steps operating m (line_moves (mark_of (sights p)) m ops) = reads ∙ sym (line_moves_lead_to_the_model (mark_of (sights p)) m ops).in_operations in
      let joined : Obeys operating m p (a ++ c) (line_moves (mark_of (sights p)) m ops ++ close_moves (mark_of (sights q)) pages) =
      obeys_then operating operates (subst (λ x. Obeys operating x q c (close_moves (mark_of (sights q)) pages)) model closing.operating) in
      let all : Obeys operating m p (a ++ c) (ending_moves false (mark_of (sights p)) m ops) = subst (λ l. Obeys operating m p (a ++ c) (line_moves (mark_of (sights p)) m ops ++ l)) (close_moves_are p a ops pages may same) joined in
      record {
        cuts = crashes_of_both_parts Mendable p a c cuts closing.cuts;
        operating = all;
        session = operations_are_in_session m p (a ++ c) _ all;
        sound = subst Sound (sym both) closing.sound;
        clean = subst Clean (sym both) closing.clean;
        reads = ap read_as both ∙ closing.reads ∙ reads;
      }

-- a mark that isn't clean
not_clean : (mark : ℕ) → (mark ≡ mark_clean → ⊥) → (mark == mark_clean) ≡ false
not_clean mark other = by (mark == mark_clean) refl
  where
    by : (b : Bool) → (mark == mark_clean) ≡ b → (mark == mark_clean) ≡ false
    by true e = absurd (other (eqb-true mark mark_clean e))
    by false e = e

pub ending_on_a_sound_pack : EndingOnASoundPack
ending_on_a_sound_pack p _ _ map pages (idle sound) may = ends p [] [] map pages (sound_mendable p sound) (rest_here) refl sound may refl
  where
    rest_here : Obeys operating (read_as p) p [] (line_moves (mark_of (sights p)) (read_as p) [])
    rest_here = rest (record { views = refl; mendable = sound_mendable p sound })
ending_on_a_sound_pack p _ _ map pages (busy a [] some line) may = absurd (omega arith)
ending_on_a_sound_pack p _ _ map pages (busy a (o ∷ ops) some line) may =
    ends p a (o ∷ ops) map pages line.cuts line.operating line.reads line.sound may
    (not_clean (mark_of (sights (after p a))) (λ e. unmarked_is_unclean (after p a) line.unmarked (record { lives = line.sound.whole.descriptor_lives; mark = e })))
