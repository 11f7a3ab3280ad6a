-- What a history begins with, keeps and leaves.
use Rattle.std.proofs.Common.{◌≡◌, ℕ, true, false, All, List, ◌++◌, arith, refl, sym, subst, ap, ◌∙◌}
use Rattle.laws_line.specs.disk_records.specs.declared.records.Event.{Event}
use Rattle.laws_line.specs.disk_records.specs.Events.{shown_events}
use Rattle.laws_line.specs.disk_records.specs.Packs.{Pack, after}
use Rattle.laws_line.specs.disk_records.proofs.Growing.{after-append, after-shown}
use Rattle.laws_line.specs.pack_model.specs.hints.Sources.{IsFrom}
use Rattle.laws_line.specs.pack_model.specs.operations.Operations.{Move}
use Rattle.laws_line.specs.pack_model.specs.sessions.Meanings.{session}
use Rattle.laws_line.specs.pack_model.specs.sessions.Turns.{Turn}
use Rattle.laws_line.specs.pack_model.specs.states.Sound.{Clean}
use Rattle.laws_line.specs.pack_laws.proofs.Moving.{stands_last}
use Rattle.laws_line.specs.pack_laws.proofs.turns.Laws.{turns_are_shown}
use Rattle.laws_line.specs.laws_room.proofs.rooms.Laws.{sound_needs_nothing}
use Rattle.session_model.specs.Histories.{TurnsOf, begun, then, aloud}
use Rattle.session_model.specs.Keeping.{Kept, OpenFile, world_of}
use Rattle.session_model.specs.Turning.{State, Cue, StandsOn}
use Rattle.session_model.specs.Worlds.{failed_world}
use Rattle.laws_session.specs.EndLaws.{FailedTurnsKeep, KeptInNeed, SessionsLeaveClosed, SoundPacksBegin, TurnsStand}
use Rattle.laws_session.proofs.inside.Talking.{turns_talk}

-- ---- the beginning
pub sound_packs_begin : SoundPacksBegin
sound_packs_begin p moment sound = (record { sound = λ need. sound; reads = λ need. refl }, record { shows = refl; mendable = record { scavengeable = (sound_needs_nothing p sound).1; clean_is_sound = λ clean. sound } })

-- ---- as it goes on
-- the shown text of a turn leaves the pack
same_pack : (p : Pack) (events more wrote : List Event) (text : List ℕ) → more ≡ wrote ++ shown_events text → after (after p events) wrote ≡ after p (events ++ more)
same_pack p events more wrote text split =
    sym (after-append p events more ∙ ap (after (after p events)) split ∙ after-append (after p events) wrote (shown_events text) ∙ after-shown (after (after p events) wrote) text)

pub turns_stand : TurnsStand
turns_stand says p s u events cues turns start h = by h where
  by : {events : List Event} {cues : List Cue} {turns : List (Turn Move)} {u : State} → TurnsOf says p s events cues turns u → StandsOn (after p events) u
  by begun = start
  by (then {events} {more} {u = u} {made = made} so_far turn) = subst (λ q. StandsOn q u) (same_pack p events more turn.run.wrote (says made.text) turn.run.split) turn.finished.stands

worlds : {one two : Kept} → KeptInNeed one two → failed_world (world_of one) ≡ world_of two
worlds is = rw (is.moment, is.level, is.memory, is.streams, is.need) refl

needed : true ≡ false → ⊥
needed e = cc

pub failed_turns_keep : FailedTurnsKeep
failed_turns_keep p k s wrote moves two h is each = record {
  begins = refl;
  world = ap failed_world h.world ∙ worlds is;
  stands = record { sound = λ need. cc; reads = λ need. cc };
  cut = stands_last session each;
  descriptor = λ need. absurd (needed (sym is.need ∙ need));
  fits = λ k d less. absurd (omega (arith, less));
  refs = subst (All (λ (o : OpenFile). IsFrom (after p wrote) o.ref.fid o.ref.leader_at o.ref.place)) (sym is.streams) (λ k d less. absurd (omega (arith, less)));
}

-- ---- the end
closed : (says : List ℕ → List ℕ) {p : Pack} {s u : State} {events : List Event} {cues : List Cue} {turns : List (Turn Move)} → s.over ≡ false → TurnsOf says p s events cues turns u → u.over ≡ true → u.world.need ≡ false → Clean (after p events)
closed says before begun over need = cc
closed says {p = p} before (then {events} {more} {made = made} so_far turn) over need = subst Clean (same_pack p events more turn.run.wrote (says made.text) turn.run.split) (turn.finished.closed over need)

pub sessions_leave_closed : SessionsLeaveClosed
sessions_leave_closed p s u events cues turns start stands before h over need = record {
  sound = (turns_stand aloud p s u events cues turns stands h).sound need;
  clean = closed aloud before h over need;
  reads = (turns_stand aloud p s u events cues turns stands h).reads need;
  model = (turns_are_shown session s.model u.model p events turns (turns_talk start h)).model;
}
