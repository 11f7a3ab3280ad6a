-- A scavenge that a line of a session asks for, as the turn over that line.
use Rattle.std.proofs.Common.{◌≡◌, ℕ, zero, suc, nat_lt, Bool, true, false, List, [], ◌∷◌, length, Some, None, Result, Ok, Err, OnOk, IfOk, refl, sym, ap, subst, ◌∙◌, append-nil, ltb-true, arith}
use Rattle.std.specs.Option.{option_or}
use Rattle.disk_records.specs.declared.records.Event.{Event}
use Rattle.disk_records.specs.declared.records.Event.TheVariants.{Wrote}
use Rattle.disk_records.specs.Events.{shown_bytes}
use Rattle.disk_records.specs.Packs.{Pack, after}
use Rattle.disk_records.specs.Tapes.{added, pack}
use Rattle.disk_records.proofs.Growing.{after-append, shown-append}
use Rattle.pack_model.specs.operations.Committing.{EndsScavenge, units}
use Rattle.pack_model.specs.operations.Operations.{quiet_moves}
use Rattle.pack_model.specs.reading.Files.{first}
use Rattle.pack_model.specs.reading.Model.{Model, read_as, room}
use Rattle.pack_model.specs.scavenger.Reports.{report_of}
use Rattle.pack_model.specs.scavenger.Scavenging.{Mends, Throughout, first_refusal}
use Rattle.pack_model.specs.sessions.Meanings.{SessionCut, session}
use Rattle.pack_model.specs.sessions.Moves.{IsStartOf, Obeys}
use Rattle.pack_model.specs.showing.Settling.{settle}
use Rattle.pack_model.specs.showing.View.{view}
use Rattle.pack_model.specs.states.Sound.{Clean, Sound}
use Rattle.scav_names.specs.pack_laws.proofs.Moving.{start_self}
use Rattle.scav_names.specs.laws_room.proofs.rooms.Laws.{scavengeable_is_unrefused, sound_needs_nothing}
use Rattle.scav_names.specs.laws_room.proofs.shown.Laws.{sound_pack_shows_its_view}
use Rattle.laws_session.specs.session_model.specs.exec_words.specs.declared.line.Line.TheVariants as line
use Rattle.laws_session.specs.session_model.specs.exec_words.specs.declared.reply.Refusal.{Refusal}
use Rattle.laws_session.specs.session_model.specs.exec_words.specs.declared.reply.Refusal.TheVariants as refusal
use Rattle.laws_session.specs.session_model.specs.exec_words.specs.Texts.{report_text}
use Rattle.laws_session.specs.session_model.specs.Refusals.{when}
use Rattle.laws_session.specs.session_model.specs.Replies.{unless_refused}
use Rattle.laws_session.specs.session_model.specs.Turning.{Cue, State, TurnMade, asks_scavenge, opening, scavenge_moves, turn_of, typed}
use Rattle.laws_session.specs.AnswerLaws.{BreaksOff}
use Rattle.laws_session.specs.ScavengeLaws.{mended_state}
use Rattle.laws_session.proofs.ends.Laws.{sound_packs_begin}
use Rattle.laws_session.proofs.scavenges.Laws.{crashes_of_a_scavenge, quiet_writes_obey, scavenges_are_turns, scavenges_break_off, scavenges_obey}
use Rattle.scavenger.specs.declared.errors.Report.{Report}
use Rattle.scavenger.specs.declared.errors.ScavError.{ScavError}
use Rattle.scavenger.specs.declared.errors.ScavError.TheVariants.{RootBad, RootTaken, PackFull, DiskFault, Memory}
use Rattle.scavenger.specs.Answers.{Answers, report_in}
use Rattle.scavenger.specs.Runs.{AllMend, EndsIt, ScavengeWrites}
use Rattle.scavenger.specs.Runs.ScavengeWrites.{all as all_of, some as some_of}
use Rattle.scavenger.specs.Scavenges.{IsUnrefused}
use Rattle.scavenger.specs.Turning.{AsksOn, FirstLineMayScavenge, IsWholeScavenge, ScavengeIsATurn}

-- ---- crash points that keep what a scavenge keeps
-- each of them stands for the model
each_stands : (m : Model) (p : Pack) → SessionCut m p → (q : Pack) (events : List Event) → Throughout (Mends p) q events → Throughout (SessionCut m) q events
each_stands m p cut q [] mends = crashes_of_a_scavenge m p q cut mends
each_stands m p cut q (e ∷ events) mends = (crashes_of_a_scavenge m p q cut mends.0, each_stands m p cut (after q (e ∷ [])) events mends.1)

stands_on : (m : Model) (p : Pack) (events : List Event) → SessionCut m p → AllMend p events → Throughout (SessionCut m) p events
stands_on m p [] cut mends = cut
stands_on m p (e ∷ events) cut mends = (cut, each_stands m p cut (after p (e ∷ [])) events mends)

-- and the last one
last_stands : (m : Model) (p : Pack) (events : List Event) → Throughout (SessionCut m) p events → SessionCut m (after p events)
last_stands m p [] all = all
last_stands m p (e ∷ events) all = last_stands m (after p (e ∷ [])) events all.1

-- quiet moves are a prefix of those of a scavenge
quiet_start : (k : ℕ) (n : Model) → IsStartOf (quiet_moves (units k)) (scavenge_moves k n)
quiet_start zero n = tt
quiet_start (suc k) n = (refl, quiet_start k n)

module _ (p : Pack) (s : State) (cue : Cue) (events : List Event) (asked : AsksOn p s cue) (unshown : shown_bytes events ≡ []) where
  abbrev m : Model
  m = s.model

  -- ---- a scavenge that didn't come to its last record write
  some_breaks : AllMend p events → BreaksOff p s cue events
  some_breaks mends =
      scavenges_break_off p s cue events (length events) m (quiet_moves (units (length events))) asked.goes_on asked.asks (quiet_start (length events) m)
      (quiet_writes_obey m p events unshown (stands_on m p events asked.cut mends))

  -- ---- and one that did
  module _ (ends : EndsIt p events) where
    abbrev q : Pack
    q = after (after p ends.before) (Wrote ends.at ends.part ends.words ∷ [])

    abbrev n : Model
    n = read_as (after p events)

    same : q ≡ after p events
    same = sym (ap (after p) ends.split ∙ after-append p ends.before (Wrote ends.at ends.part ends.words ∷ []))

    unshown_before : shown_bytes ends.before ≡ []
    unshown_before = sym (append-nil (shown_bytes ends.before)) ∙ sym (shown-append ends.before (Wrote ends.at ends.part ends.words ∷ [])) ∙ sym (ap shown_bytes ends.split) ∙ unshown

    before_stands : Throughout (SessionCut m) p ends.before
    before_stands = stands_on m p ends.before asked.cut ends.mends

    last : SessionCut m (after p ends.before)
    last = last_stands m p ends.before before_stands

    sound : Sound q
    sound = subst Sound (sym same) ends.scavenged.sound

    ends_it : EndsScavenge (after p ends.before) q n
    ends_it = record {
      reads = ap read_as same;
      views = sym (sound_pack_shows_its_view (after p events) ends.scavenged.sound) ∙ ends.scavenged.shown ∙ asked.cut.shows ∙ sym last.shows;
      sound = sound;
      clean = subst Clean (sym same) ends.scavenged.clean;
    }

    stands_after : SessionCut n q
    stands_after = record {
      shows = ap (λ l. settle (view (read_as l))) same;
      mendable = record { scavengeable = (sound_needs_nothing q sound).1; clean_is_sound = λ clean. sound };
    }

    obeys : Obeys session m p events (scavenge_moves (length ends.before) n)
    obeys =
        subst (λ es. Obeys session m p es (scavenge_moves (length ends.before) n)) (sym ends.split)
        (scavenges_obey m n p ends.before ends.at ends.part ends.words unshown_before before_stands last ends_it stands_after)

    all_breaks : BreaksOff p s cue events
    all_breaks =
        scavenges_break_off p s cue events (length ends.before) n (scavenge_moves (length ends.before) n) asked.goes_on asked.asks (start_self (scavenge_moves (length ends.before) n)) obeys

    whole : (report : Report) → report_in report ≡ report_of p → IsWholeScavenge p s cue events report
    whole report is = record {
      quiets = length ends.before;
      each = obeys;
      made =
          subst (λ r. TurnMade p s cue events (turn_of (scavenge_moves (length ends.before) n) (report_text r)) (mended_state s n)) (sym is)
          (scavenges_are_turns p s cue events (length ends.before) n asked.asks ends.scavenged refl);
    }

  breaks : ScavengeWrites p events → BreaksOff p s cue events
  breaks (some_of mends) = some_breaks mends
  breaks (all_of ends) = all_breaks ends

  done : (result : Result Report ScavError) → OnOk result (EndsIt p events) → Answers p result → IfOk result (IsWholeScavenge p s cue events)
  done (Ok report) ends answers = whole ends report answers.1
  done (Err e) ends answers = tt

  none : first_refusal p ≡ None
  none = (scavengeable_is_unrefused p).0 asked.cut.mendable.scavengeable

  unrefused : (result : Result Report ScavError) → Answers p result → IsUnrefused result
  unrefused (Ok report) answers = tt
  unrefused (Err (RootBad header)) answers = absurd (let both : None ≡ Some _ = sym none ∙ answers in cc)
  unrefused (Err (RootTaken found)) answers = absurd (let both : None ≡ Some _ = sym none ∙ answers in cc)
  unrefused (Err (PackFull needed free)) answers = absurd (let both : None ≡ Some _ = sym none ∙ answers in cc)
  unrefused (Err DiskFault) answers = refl
  unrefused (Err Memory) answers = refl

-- ---- the law
pub scavenge_is_a_turn : ScavengeIsATurn
scavenge_is_a_turn old new s cue result asked unshown does = record {
  done = done (pack old) s cue (added old new) asked unshown result does.done does.answers;
  unrefused = unrefused (pack old) s cue (added old new) asked unshown result does.answers;
  broke = breaks (pack old) s cue (added old new) asked unshown does.writes;
}

-- ---- a line that may ask for it
room_for_none : (n : ℕ) (r : Refusal) → unless_refused (option_or (when (nat_lt n 0) r) None) true false ≡ true
room_for_none n r = ap (λ b. unless_refused (option_or (when b r) None) true false) (by (nat_lt n 0) refl)
  where
    by : (b : Bool) → nat_lt n 0 ≡ b → nat_lt n 0 ≡ false
    by false is = is
    by true is = absurd (let less = ltb-true n 0 is in omega (arith, less))

is_asked : (p : Pack) (moment : ℕ) → asks_scavenge (opening p moment) (typed line.Scavenge) ≡ true
unfolding first
is_asked p moment = room_for_none (room (read_as p)) (refusal.Full 0 (room (read_as p)))

pub first_line_may_scavenge : FirstLineMayScavenge
first_line_may_scavenge p moment sound = record {
  goes_on = refl;
  asks = is_asked p moment;
  cut = (sound_packs_begin p moment sound).1;
}
