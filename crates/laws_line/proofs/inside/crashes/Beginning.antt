-- The first operations of a line from a sound pack, where the rest isn't done.
use Rattle.std.proofs.Common.{Bool, List, Some, [], append_assoc, arith, ap, cond, eqb-true, false, length, refl, subst, suc, sym, take, true, ℕ, ◌++◌, ◌<◌, ◌∙◌, ◌∷◌, ◌≡◌}
use Rattle.std.specs.Prelude.{◌==◌}
use Rattle.laws_room.specs.alto_words.specs.Fid.{disk_descriptor}
use Rattle.disk_records.specs.Commands.{value_writes}
use Rattle.disk_records.specs.Packs.{Pack, after, sector_at}
use Rattle.disk_records.specs.declared.records.Event.{Event}
use Rattle.pack_model.specs.operations.Committing.{line_moves, moves_of, moves_of_all, open_moves, serial_moves, units}
use Rattle.pack_model.specs.operations.Operations.Move.{quiet}
use Rattle.pack_model.specs.operations.Operations.{Move}
use Rattle.pack_model.specs.operations.Step.{Operation, step}
use Rattle.pack_model.specs.reading.Files.{place}
use Rattle.pack_model.specs.reading.Model.{Model, read_as}
use Rattle.pack_model.specs.reading.Sights.{sights}
use Rattle.pack_model.specs.sessions.Descriptor.{close_moves, data_pages, mark_after, open_writes, opened_value}
use Rattle.pack_model.specs.sessions.Meanings.{Mendable, operating, reading, viewing}
use Rattle.pack_model.specs.sessions.Moves.{IsStartOf, Obeys, rest, write}
use Rattle.pack_model.specs.states.Sound.{Sound, mark_of, mark_open}
use Rattle.laws_room.specs.pack_laws.proofs.Moving.{obeys_first, obeys_then, stands_last, start_after}
use Rattle.laws_room.specs.laws_operation.proofs.EnterStages.{views_of}
use Rattle.laws_room.specs.laws_operation.proofs.descriptor.Laws.{open_carries_out}
use Rattle.laws_room.specs.laws_operation.specs.DescriptorLaws.{OpensMark}
use Rattle.laws_room.proofs.rooms.Laws.{free_is_the_room, sound_needs_nothing}
use Rattle.laws_line.proofs.inside.Lining.{crashes_of_an_unmarked_line}
use Rattle.laws_line.proofs.inside.Marked.{open_pack_is_unmarked, opened_unmarked}
use Rattle.laws_line.proofs.inside.SettledAgain.{prefix_ready}
use Rattle.laws_line.proofs.inside.SoundSettled.{sound_is_settled}
use Rattle.laws_line.proofs.inside.crashes.Parting.{crashes_of_parts, operations_are_in_session, viewed_and_mendable_in_session, viewed_and_mendable_operates}
use Rattle.laws_line.proofs.inside.crashes.SoundLining.{line_after}
use Rattle.laws_line.specs.CrashLaws.{Batch, LineStays}
use Rattle.laws_line.specs.PartLaws.{MovesOfALineSplit}
use Rattle.laws_line.specs.Ready.{ReadyThroughout, steps_of}
use Rattle.laws_line.specs.SoundParts.{BrokenLineOnASoundPack, PartOfALineOnASoundPack, begun_moves}

-- ---- moves of a prefix
pub start_front : {X : Type 0} (a b c : List X) → IsStartOf a b → IsStartOf a (b ++ c)
start_front [] b c h = tt
start_front (x ∷ a) [] c h = elim h [ ]
start_front (x ∷ a) (y ∷ b) c h = (h.0, start_front a b c h.1)

start_twice : {X : Type 0} (a b c : List X) → IsStartOf a b → IsStartOf b c → IsStartOf a c
start_twice [] b c h k = tt
start_twice (x ∷ a) [] c h k = elim h [ ]
start_twice (x ∷ a) (y ∷ b) [] h k = elim k [ ]
start_twice (x ∷ a) (y ∷ b) (z ∷ c) h k = (h.0 ∙ k.0, start_twice a b c h.1 k.1)

-- a prefix is as many first ones as it has
start_is_taken : {X : Type 0} (a b : List X) → IsStartOf a b → a ≡ take (length a) b
start_is_taken [] b h = refl
start_is_taken (x ∷ a) [] h = elim h [ ]
start_is_taken (x ∷ a) (y ∷ b) h = λ i. h.0 i ∷ start_is_taken a b h.1 i

-- there are as many record writes as moves
writes_as_moves : {m : Model} {p : Pack} {events : List Event} {moves : List Move} → Obeys operating m p events moves → length events ≡ length moves
writes_as_moves (rest here) = refl
writes_as_moves (write here makes later) = ap suc (writes_as_moves later)

-- the moves of a line by its operations
pub moves_of_a_line_split : MovesOfALineSplit
moves_of_a_line_split m [] o more = refl
moves_of_a_line_split m (u ∷ ops) o more =
    ap (λ l. (serial_moves u ++ moves_of m u) ++ l) (moves_of_a_line_split (step m u) ops o more)
    ∙ sym (append_assoc (serial_moves u ++ moves_of m u) (moves_of_all (step m u) ops) ((serial_moves o ++ moves_of (steps_of (step m u) ops) o) ++ moves_of_all (step (steps_of (step m u) ops) o) more))

start_moves : (m : Model) (ops more : List Operation) → IsStartOf (moves_of_all m ops) (moves_of_all m (ops ++ more))
start_moves m [] more = tt
start_moves m (o ∷ ops) more = start_after (serial_moves o ++ moves_of m o) (moves_of_all (step m o) ops) (moves_of_all (step m o) (ops ++ more)) (start_moves (step m o) ops more)

-- ---- the opening
-- a sound pack can be scavenged, and is sound
pub sound_mendable : (p : Pack) → Sound p → Mendable p
sound_mendable p sound = record { scavengeable = (sound_needs_nothing p sound).1; clean_is_sound = λ clean. sound }

-- the opening of the mark and then the first operations, of which there may be none yet
opened : (p : Pack) (at : ℕ) (events : List Event) (ops : List Operation) (o : Operation) (others : List Operation) → Sound p → place (sights p) disk_descriptor 1 ≡ Some at
    → Batch (after p (open_writes (mark_of (sights p)) at (sector_at p at).value)) events ops
    → LineStays p (open_writes (mark_of (sights p)) at (sector_at p at).value ++ events) ops (begun_moves (mark_of (sights p)) (read_as p) ops (o ∷ others))
opened p at events ops o others sound placed line = by (mark_of (sights p) == mark_open) refl (open_carries_out p at o others sound.whole sound.tidy placed) line
  where
    by : (c : Bool) → (mark_of (sights p) == mark_open) ≡ c → OpensMark p (cond c [] (value_writes at (opened_value (sector_at p at).value))) (cond c [] (quiet ∷ [])) → Batch (after p (cond c [] (value_writes at (opened_value (sector_at p at).value)))) events ops
        → LineStays p (cond c [] (value_writes at (opened_value (sector_at p at).value)) ++ events) ops (cond c [] (quiet ∷ []) ++ moves_of_all (read_as p) ops)
    by true e opens line = crashes_of_an_unmarked_line p events ops sound.whole sound.tidy (open_pack_is_unmarked p sound.whole (eqb-true (mark_of (sights p)) mark_open e)) line
    by false e opens line =
        let q : Pack = after p (value_writes at (opened_value (sector_at p at).value)) in
        let h = crashes_of_an_unmarked_line q events ops opens.keeps.whole opens.keeps.tidy (opened_unmarked p at placed) line in
        let same : read_as q ≡ read_as p = stands_last reading opens.obeys in
        record {
          obeys = obeys_then viewing (views_of opens.obeys) (subst (λ x. Obeys viewing x q events (moves_of_all x ops)) same h.obeys);
          cuts = λ ready. (sound_mendable p sound, h.cuts (subst (λ x. ReadyThroughout x ops) (sym same) ready));
          unmarked = h.unmarked;
          whole = h.whole;
          tidy = h.tidy;
          reads = h.reads ∙ ap (λ x. steps_of x ops) same;
        }

-- ---- the laws
pub part_of_a_line_on_a_sound_pack : PartOfALineOnASoundPack
part_of_a_line_on_a_sound_pack p at events ops more sound placed some is few line =
    let free = (free_is_the_room p sound.whole).room_is in
    let behind = line_after (read_as p) (ops ++ more) (sound_is_settled p sound) is (omega arith) in
    let h = by (ops ++ more) some in
    let cuts = h.cuts (prefix_ready (read_as p) ops more behind.ready) in
    record {
      cuts = cuts;
      operating = viewed_and_mendable_operates (read_as p) p _ _ h.obeys cuts;
      session = viewed_and_mendable_in_session (read_as p) p _ _ h.obeys cuts;
      start = start_after (open_moves (mark_of (sights p)) (ops ++ more)) (moves_of_all (read_as p) ops) (moves_of_all (read_as p) (ops ++ more)) (start_moves (read_as p) ops more);
      reads = h.reads;
      whole = h.whole;
      tidy = h.tidy;
      unmarked = h.unmarked;
    }
  where
    by : (all : List Operation) → 0 < length all → LineStays p (open_writes (mark_of (sights p)) at (sector_at p at).value ++ events) ops (begun_moves (mark_of (sights p)) (read_as p) ops all)
    by [] some = absurd (omega arith)
    by (o ∷ others) some = opened p at events ops o others sound placed line

pub broken_line_on_a_sound_pack : BrokenLineOnASoundPack
broken_line_on_a_sound_pack p events wrote ops all h first =
    let m : Model = read_as p in
    let mark : ℕ = mark_of (sights p) in
    let l = obeys_first operating h.operating wrote first in
    let start : IsStartOf l.ops (line_moves mark m all) = start_twice l.ops (begun_moves mark m ops all) (line_moves mark m all) l.start h.start in
    record {
      moves = l.ops;
      cuts = (crashes_of_parts Mendable).broken p events wrote first h.cuts;
      operating = l.each;
      session = operations_are_in_session m p wrote l.ops l.each;
      are = start_is_taken l.ops (line_moves mark m all) start ∙ ap (λ n. take n (line_moves mark m all)) (sym (writes_as_moves l.each));
      start = start;
      start_of_end = start_front l.ops (line_moves mark m all) (close_moves (mark_after mark all) (units (data_pages m.shape))) start;
    }
