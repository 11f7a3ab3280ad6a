-- A scavenge as a turn of a session.
use Rattle.std.proofs.Common.{◌≡◌, ◌<◌, ℕ, zero, suc, Bool, true, false, List, [], ◌∷◌, Option, Some, None, Contains, arith, refl, sym, subst, ◌∙◌, ap, length}
use Rattle.laws_line.specs.alto_words.specs.declared.fid.Fid.{Fid}
use Rattle.laws_line.specs.disk_records.specs.declared.records.Event.{Event}
use Rattle.laws_line.specs.disk_records.specs.declared.records.Event.TheVariants.{Wrote, Shown}
use Rattle.laws_line.specs.disk_records.specs.Events.{shown_events}
use Rattle.laws_line.specs.disk_records.specs.Packs.{Pack, after}
use Rattle.laws_line.specs.disk_records.proofs.Growing.{after-append, after-shown}
use Rattle.laws_line.specs.pack_model.specs.operations.Committing.{units}
use Rattle.laws_line.specs.pack_model.specs.operations.Operations.{Move, quiet_moves}
use Rattle.laws_line.specs.pack_model.specs.operations.Operations.Move.{mends}
use Rattle.laws_line.specs.pack_model.specs.reading.Model.{Model, read_as}
use Rattle.laws_line.specs.pack_model.specs.sessions.Meanings.{session}
use Rattle.laws_line.specs.pack_model.specs.sessions.Moves.{Obeys, rest, write, steps}
use Rattle.laws_line.specs.pack_model.specs.sessions.Turns.{Turn}
use Rattle.laws_line.specs.pack_model.specs.showing.Settling.{settle}
use Rattle.laws_line.specs.pack_model.specs.showing.View.{view}
use Rattle.laws_line.specs.pack_model.specs.states.Sound.{Sound}
use Rattle.laws_line.specs.pack_model.specs.hints.Tables.{HintsTrue}
use Rattle.laws_line.specs.pack_laws.proofs.turns.Laws.{runs_join}
use Rattle.session_model.specs.exec_words.specs.declared.line.Line.{Line}
use Rattle.session_model.specs.exec_words.specs.declared.line.Line.TheVariants as line
use Rattle.session_model.specs.exec_words.specs.declared.reply.Refusal.{Refusal}
use Rattle.session_model.specs.Replies.{refusal, unless_refused}
use Rattle.session_model.specs.Touched.{touched}
use Rattle.session_model.specs.Turning.{State, Cue, typed, aside, ended, TurnKind, plain, failed, scavenged, asks_scavenge, cue_files, is_scavenge, scavenge_moves}
use Rattle.session_model.specs.Worlds.{World}
use Rattle.laws_session.specs.ScavengeLaws.{CrashesOfAScavenge, QuietWritesObey, ScavengesAreTurns, ScavengesCure, ScavengesObey}

-- ---- its record writes
pub crashes_of_a_scavenge : CrashesOfAScavenge
crashes_of_a_scavenge m p q cut kept = record {
  shows = kept.keeps.shown ∙ cut.shows;
  mendable = record { scavengeable = kept.keeps.scavengeable cut.mendable.scavengeable; clean_is_sound = λ clean. absurd (kept.unclean clean) };
}

pub quiet_writes_obey : QuietWritesObey
quiet_writes_obey m p [] silent all = rest all
quiet_writes_obey m p (Wrote at part words ∷ events) silent all = write all.0 tt (quiet_writes_obey m (after p (Wrote at part words ∷ [])) events silent all.1)
quiet_writes_obey m p (Shown byte ∷ events) silent all = cc

-- quiet moves leave the model
quiet_model : (m : Model) (k : ℕ) → steps session m (quiet_moves (units k)) ≡ m
quiet_model m zero = refl
quiet_model m (suc k) = quiet_model m k

mended_model : (m n : Model) (k : ℕ) → steps session m (scavenge_moves k n) ≡ n
mended_model m n zero = refl
mended_model m n (suc k) = mended_model m n k

pub scavenges_obey : ScavengesObey
scavenges_obey m n p events at part words silent all last ends later =
    runs_join session m p events (Wrote at part words ∷ []) (quiet_moves (units (length events))) (mends n ∷ []) (quiet_writes_obey m p events silent all)
    (subst (λ l. Obeys session l (after p events) (Wrote at part words ∷ []) (mends n ∷ [])) (sym (quiet_model m (length events))) (write last ends (rest later)))

-- ---- the turn
pub scavenges_are_turns : ScavengesAreTurns
scavenges_are_turns p s cue wrote k n asks done reads = record {
  kind = scavenged k n asks;
  model = sym (mended_model s.model n k);
  stands = record { sound = λ need. done.sound; reads = λ need. reads };
  closed = λ over need. cc;
  mended = λ is. done;
}

-- ---- and what it cures
never : (r : Option Refusal) → unless_refused r false false ≡ true → ⊥
never None e = cc
never (Some r) e = cc

either : (r : Option Refusal) → unless_refused {X = List Fid} r [] [] ≡ []
either None = refl
either (Some r) = refl

-- a line that asks for it touches no file
no_file : (l : Line) (m : Model) (w : World) (r : Option Refusal) → unless_refused r (is_scavenge l) false ≡ true → touched l m w ≡ []
no_file line.Scavenge m w r e = either _
no_file l m w r e = absurd (never r e)

none_below : (n : ℕ) → n < 0 → ⊥
none_below n h = omega (arith, h)

none_in : (f : Fid) (l : List Fid) → l ≡ [] → Contains l f → ⊥
none_in f l e h = apart (subst (λ k. Contains k f) e h) where
  apart : Contains [] f → ⊥
  apart (x, below, is) = none_below x below

asked_none : (s : State) (cue : Cue) → asks_scavenge s cue ≡ true → cue_files s cue ≡ []
asked_none s (typed l) e = no_file l s.model s.world (refusal l s.model s.world) e
asked_none s (aside text) e = cc
asked_none s ended e = cc

-- so no hint of it misleads
pub none_touched : (s : State) (cue : Cue) → asks_scavenge s cue ≡ true → (f : Fid) → Contains (cue_files s cue) f → ⊥
none_touched s cue is f there = none_in f (cue_files s cue) (asked_none s cue is) there

-- its last record write has left the model of a pack that is viewed as what was shown
viewed : (m : Model) (quiets : ℕ) (n : Model) (q : Pack) (events : List Event) → Obeys session m q events (scavenge_moves quiets n) → view n ≡ settle (view m)
viewed m zero n q _ (write here makes later) = makes.views ∙ here.shows
viewed m (suc k) n q _ (write here makes later) = viewed m k n _ _ later

module _ {p : Pack} {s : State} {cue : Cue} {wrote : List Event} where
  cured : {made : Turn Move} {world : World} {over : Bool} → TurnKind p s cue wrote made world over → asks_scavenge s cue ≡ true → world.need ≡ false
  cured (plain asks) is = cc
  cured (failed {wanted = wanted} moves f start) is = absurd (none_touched s cue is wanted.fid f.file)
  cured (scavenged quiets n asks) is = refl

  seen : {made : Turn Move} {world : World} {over : Bool} → TurnKind p s cue wrote made world over → asks_scavenge s cue ≡ true → Obeys session s.model p wrote made.ops → view (steps session s.model made.ops) ≡ settle (view s.model)
  seen (plain asks) is each = cc
  seen (failed {wanted = wanted} moves f start) is each = absurd (none_touched s cue is wanted.fid f.file)
  seen (scavenged quiets n asks) is each = ap view (mended_model s.model n quiets) ∙ viewed s.model quiets n p wrote each

pub scavenges_cure : ScavengesCure
scavenges_cure says p s u cue events made t is =
    let need = cured t.finished.kind is in
    let same : after p t.run.wrote ≡ after p events = sym (ap (after p) t.run.split ∙ after-append p t.run.wrote (shown_events (says made.text)) ∙ after-shown (after p t.run.wrote) (says made.text)) in
    record {
      sound = subst Sound same (t.finished.stands.sound need);
      reads = subst (λ q. read_as q ≡ u.model) same (t.finished.stands.reads need);
      views = ap view t.finished.model ∙ seen t.finished.kind is t.run.each;
      hints = subst HintsTrue same (t.finished.mended is).hints;
      need = need;
    }
