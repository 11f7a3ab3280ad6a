-- A pack whose hints are true is entered.
use Rattle.std.proofs.Common.{◌≡◌, ◌⊎◌, true, false, ℕ, List, [], Option, Some, None, inl, inr, refl, sym, subst, ap, ◌∙◌}
use Rattle.disk_records.specs.declared.records.Event.{Event}
use Rattle.disk_records.specs.declared.records.Page.{Page}
use Rattle.disk_records.specs.declared.records.Place.{Place}
use Rattle.disk_records.specs.declared.records.Tally.{Tally}
use Rattle.disk_records.specs.Packs.{AreFormed, Pack}
use Rattle.pack_model.specs.hints.Tables.{HintsTrue}
use Rattle.pack_model.specs.operations.Operations.{Move}
use Rattle.pack_model.specs.reading.Model.{Model}
use Rattle.pack_model.specs.sessions.Tallies.{no_tally}
use Rattle.pack_model.specs.sessions.Turns.{Turn}
use Rattle.pack_model.specs.states.Sound.{Sound}
use Rattle.executive.specs.laws_lookup.proofs.hints.Laws.{true_hints_never_mislead}
use Rattle.scavenger.specs.laws_room.proofs.shown.Laws.{sound_pack_shows_its_view}
use Rattle.session_boot.specs.Boots.{Boots, EndsAs}
use Rattle.session_boot.specs.Faults.{HasStatusCause}
use Rattle.session_boot.specs.declared.status.Status.{Status}
use Rattle.session_boot.specs.declared.status.Status.TheVariants as status
use Rattle.executive.specs.laws_contents.proofs.pages.Laws.{formed_pages_have_256_words}
use Rattle.session_boot.proofs.SoFar.{unfailed_need}
use Rattle.session_model.specs.Ending.{BootOf, CanStop, IsOver, Stop, needs_scavenge, opened, stopped, unopened}
use Rattle.session_model.specs.Histories.{HistoryOf, NoneFailed, NoneFailedIn, TurnsOf, aloud, begun, broken, then, whole}
use Rattle.session_model.specs.Opening.{system_files}
use Rattle.session_model.specs.Turning.{Cue, HintFailing, State, opening}
use Rattle.laws_headline.specs.Calls.{Call, Called, DoneUnlessStopped, StopsBefore, boot, found}
use Rattle.laws_headline.specs.Headline.{Enters, IsEntered, IsMendedTo}
use Rattle.laws_headline.proofs.inside.Stopped.{ended_by}

-- ---- a session without a hint that failed needs no scavenge
none_need : {moment : ℕ} {p : Pack} {events : List Event} {cues : List Cue} {turns : List (Turn Move)} {u : State} (h : TurnsOf aloud p (opening p moment) events cues turns u) → NoneFailed h → u.world.need ≡ false
none_need begun none = refl
none_need (then so_far turn) none = unfailed_need turn.finished.kind none.1 (none_need so_far none.0)

none_over : {X : Type 0} {moment : ℕ} {p : Pack} {events : List Event} {cues : List Cue} {turns : List (Turn Move)} {end : Option State} (h : HistoryOf aloud p (opening p moment) events cues turns end) → NoneFailedIn h → IsOver true end → X
none_over (whole {u = u} so_far) none over = absurd (let is : u ≡ over.state = same over.is in let both : true ≡ false = sym over.need_is ∙ ap (λ s. s.world.need) (sym is) ∙ none_need so_far none in cc)
  where
    same : {a b : State} → Some a ≡ Some b → a ≡ b
    same e = cc
none_over (broken so_far turn) none over = absurd (let both : ◌≡◌ {A = Option State} None (Some over.state) = over.is in cc)

-- ---- on a pack with true hints
module _ (c : Call) (sound : Sound (found c)) (formed : AreFormed (found c)) (hints : HintsTrue (found c)) where
  none_misleads : {X : Type 0} {place : Place} {at : ℕ} {wanted : Page} {seen : Option (List ℕ)} → HintFailing (found c) [] system_files place at wanted seen → X
  none_misleads {place = place} {at = at} {wanted = wanted} failing =
      absurd (true_hints_never_mislead (found c) place at wanted sound.whole sound.tidy (λ i page e. formed_pages_have_256_words (found c) i page formed e) hints.links failing.on_disk failing.misled.misled)

  needs_none : {X : Type 0} (given tally : Tally) → BootOf c.moment c.before c.now given tally needs_scavenge → X
  needs_none given tally (opened session ends) = none_over session.history (session.unfailed hints) ends
  needs_none given tally (unopened failing shows nothing) = none_misleads failing
  needs_none given tally (stopped can none nothing) = absurd can

  -- no scavenge is asked for
  ends : (answer : Status) (given tally : Tally) → Boots c.moment c.before c.now given tally answer → HasStatusCause c.before c.now answer → DoneUnlessStopped c answer
  ends status.Done given tally boots cause = tt
  ends status.Usage given tally boots cause = boots
  ends status.NeedsScavenge given tally boots cause = needs_none given tally boots
  ends status.DiskFault given tally boots cause = cause
  ends status.KeyFault given tally boots cause = cause
  ends status.DisplayFault given tally boots cause = cause
  ends status.Memory given tally boots cause = tt
  ends status.CannotScavenge given tally boots cause = boots

  -- and the pack is opened
  enters : (given tally : Tally) (stop : Stop) → EndsAs c.answer (λ s. s ≡ stop) → BootOf c.moment c.before c.now given tally stop → IsEntered c ⊎ StopsBefore c
  enters given tally stop is (opened {end} session ends) = inl (record { session = record { given = given; tally = tally; stop = stop; end = end; session = session; ends = ends; answer = is }; unfailed = session.unfailed hints })
  enters given tally stop is (unopened failing shows nothing) = none_misleads failing
  enters given tally stop is (stopped can none nothing) = inr (record { silent = none; keys = nothing.keys; answer = can_stop c.answer is can })
    where
      can_stop : (answer : Status) → EndsAs answer (λ s. s ≡ stop) → CanStop stop → EndsAs answer CanStop
      can_stop status.Done e can = subst CanStop (sym e) can
      can_stop status.Usage e can = e
      can_stop status.NeedsScavenge e can = subst CanStop (sym e) can
      can_stop status.DiskFault e can = subst CanStop (sym e) can
      can_stop status.KeyFault e can = subst CanStop (sym e) can
      can_stop status.DisplayFault e can = subst CanStop (sym e) can
      can_stop status.Memory e can = subst CanStop (sym e) can
      can_stop status.CannotScavenge e can = e

pub mended_is_entered : (m : Model) (c : Call) → Called boot c → IsMendedTo m (found c) → Enters m c
mended_is_entered m c called mended =
    let alone = called.does.boot refl in
    let boots = alone.booted.boots mended.sound mended.clean in
    let ended = ended_by c.answer (λ stop. BootOf c.moment c.before c.now (no_tally 0) alone.tally stop) boots in
    record {
      begins = sym (sound_pack_shows_its_view (found c) mended.sound) ∙ mended.shows;
      enters = enters c mended.sound called.formed mended.hints (no_tally 0) alone.tally ended.stop ended.is ended.has;
      ends = ends c mended.sound called.formed mended.hints c.answer (no_tally 0) alone.tally boots called.cause;
    }
