-- The three calls together.
use Rattle.std.proofs.Common.{◌≡◌, Some, None, refl, sym, subst, ◌∙◌}
use Rattle.disk_records.specs.Packs.{Pack}
use Rattle.pack_model.specs.reading.Model.{Model}
use Rattle.pack_model.specs.scavenger.Scavenging.{Scavengeable}
use Rattle.pack_model.specs.sessions.Meanings.{SessionCut}
use Rattle.pack_model.specs.sessions.Tallies.{no_tally}
use Rattle.scavenger.specs.laws_room.proofs.rooms.Laws.{scavengeable_is_unrefused}
use Rattle.session_boot.specs.Faults.{HasStatusCause}
use Rattle.session_boot.specs.declared.status.Status.{Status}
use Rattle.session_boot.specs.declared.status.Status.TheVariants as status
use Rattle.session_model.specs.Ending.{BootOf}
use Rattle.alto_top.specs.Scavenging.{IsRefused, ScavengesPack, TellsScavenge}
use Rattle.laws_headline.specs.Calls.{Call, Called, DoneUnlessStopped, found, left, scavenge}
use Rattle.laws_headline.specs.Headline.{IsMendedTo, StoppedSessionsRecover}
use Rattle.laws_headline.proofs.inside.Entered.{mended_is_entered}
use Rattle.laws_headline.proofs.inside.Stopped.{ended_by, leads_so, stood}

-- ---- the scavenge
not_refused : {X : Type 0} (p : Pack) → Scavengeable p → IsRefused p → X
not_refused p may refused = absurd (let both : None ≡ Some refused.0 = sym ((scavengeable_is_unrefused p).0 may) ∙ refused.1 in cc)

module _ (c : Call) (may : Scavengeable (found c)) (s : ScavengesPack c.before c.now c.answer) where
  ends : (answer : Status) → TellsScavenge (found c) s.writes s.shown answer → HasStatusCause c.before c.now answer → DoneUnlessStopped c answer
  ends status.Done tells cause = tt
  ends status.Usage tells cause = tells
  ends status.NeedsScavenge tells cause = tells
  ends status.DiskFault tells cause = cause
  ends status.KeyFault tells cause = cause
  ends status.DisplayFault tells cause = cause
  ends status.Memory tells cause = tt
  ends status.CannotScavenge tells cause = not_refused (found c) may tells.0

mended : (m : Model) (c : Call) → SessionCut m (found c) → Called scavenge c → c.answer ≡ status.Done → IsMendedTo m (left c)
mended m c cut called is =
    let leaves = (called.does.scavenge refl).leaves is in
    record { sound = leaves.sound; clean = leaves.clean; hints = leaves.hints; shows = leaves.shown ∙ cut.shows }

-- ---- all three
pub stopped_sessions_recover : StoppedSessionsRecover
stopped_sessions_recover k first second there =
    let alone = there.booted.does.boot refl in
    let ended = ended_by first.answer (λ stop. BootOf first.moment first.before first.now (no_tally 0) alone.tally stop) (alone.booted.boots there.sound there.clean) in
    let at = stood first k (no_tally 0) alone.tally ended.stop ended.is there.sound ended.has in
    let cut = leads_so _ at.cut there.stopped in
    let scavenges = there.scavenges.does.scavenge refl in
    record {
      turns = at.turns;
      has = at.has;
      none_missing = at.none_missing;
      found_so = cut;
      ends = ends second cut.mendable.scavengeable scavenges second.answer scavenges.tells there.scavenges.cause;
      mended = λ is. mended _ second cut there.scavenges is;
      entered = λ is third called finds. mended_is_entered _ third called (subst (IsMendedTo _) (sym finds) (mended _ second cut there.scavenges is));
    }
