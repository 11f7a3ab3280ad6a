-- The headline: what a stopped session leaves is mended and entered again, with everything that was acknowledged.
-- That it is stated of three calls of the program is this project's choice.
use Rattle.std.specs.Prelude.{◌≡◌, ◌≤◌, ◌⊎◌, ℕ, List}
use Rattle.disk_records.specs.Packs.{Pack, crash}
use Rattle.pack_model.specs.hints.Tables.{HintsTrue}
use Rattle.pack_model.specs.operations.Operations.{Move}
use Rattle.pack_model.specs.reading.Model.{Model}
use Rattle.pack_model.specs.sessions.Meanings.{SessionCut, Shows}
use Rattle.pack_model.specs.sessions.Turns.{Turn}
use Rattle.pack_model.specs.showing.Settling.{settle}
use Rattle.pack_model.specs.showing.View.{view}
use Rattle.pack_model.specs.states.Sound.{Clean, Sound}
use Rattle.session_boot.specs.declared.status.Status.TheVariants as status
use Rattle.session_model.specs.Histories.{NoneFailedIn}
use Rattle.session_model.specs.Turning.{opening}
use Rattle.laws_headline.specs.Calls.{Call, Called, DoneUnlessStopped, HasSession, HasTurns, Leads, StopsBefore, acknowledged_at, boot, done_at, events_of, found, left, model_at, scavenge}

-- ---- what is known
-- A session on a sound and clean pack, whose machine stopped after k events; and a scavenge of what stood then, also if others before it
-- were stopped themselves.
pub record StoppedThere (k : ℕ) (first second : Call) : Type 0 where
  pub booted : Called boot first
  pub sound : Sound (found first)
  pub clean : Clean (found first)
  pub stopped : Leads (crash (found first) (events_of first) k) (found second)
  pub scavenges : Called scavenge second

-- ---- what is promised
-- A pack is sound and clean, all its hints are true, and it shows the names and bytes of the model, nameless files by their leaders' names.
pub record IsMendedTo (m : Model) (p : Pack) : Type 0 where
  pub sound : Sound p
  pub clean : Clean p
  pub hints : HintsTrue p
  pub shows : Shows m p

-- The pack was opened, and no hint misleads in the session.
pub record IsEntered (c : Call) : Type 0 where
  pub session : HasSession c
  pub unfailed : NoneFailedIn session.session.history

-- The session of a call begins with these names and bytes; only a fault of the disk or out of memory comes before it. The call is done,
-- unless a device fails or no memory is left.
pub record Enters (m : Model) (c : Call) : Type 0 where
  pub begins : view (opening (found c) c.moment).model ≡ settle (view m)
  pub enters : IsEntered c ⊎ StopsBefore c
  pub ends : DoneUnlessStopped c c.answer

-- The turns of the session say which operations are done at the crash point, and every acknowledged one is among them. What the scavenge
-- finds shows the model after these. It is never refused; once it is done the pack is mended to that model, and the next session on this
-- pack enters it.
pub record Recovered (k : ℕ) (first second : Call) : Type 0 where
  pub turns : List (Turn Move)
  pub has : HasTurns first turns
  pub none_missing : acknowledged_at first turns k ≤ done_at first turns k
  pub found_so : SessionCut (model_at first turns k) (found second)
  pub ends : DoneUnlessStopped second second.answer
  pub mended : second.answer ≡ status.Done → IsMendedTo (model_at first turns k) (left second)
  pub entered : second.answer ≡ status.Done → (third : Call) → Called boot third → found third ≡ left second → Enters (model_at first turns k) third

abbrev pub StoppedSessionsRecover : Type 0
StoppedSessionsRecover = (k : ℕ) (first second : Call) → StoppedThere k first second → Recovered k first second
