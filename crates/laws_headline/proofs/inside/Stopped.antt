-- What stands where a call stopped.
use Rattle.std.proofs.Common.{◌≡◌, ◌≤◌, ℕ, zero, suc, List, [], ◌∷◌, take, refl, sym, subst, ap, ◌∙◌, arith}
use Rattle.disk_records.specs.declared.records.Event.{Event}
use Rattle.disk_records.specs.declared.records.Event.TheVariants.{Shown, Wrote}
use Rattle.disk_records.specs.declared.records.Tally.{Tally}
use Rattle.disk_records.specs.Events.{writes_in}
use Rattle.disk_records.specs.Packs.{Pack, after, crash}
use Rattle.disk_records.proofs.Growing.{writes-shown}
use Rattle.pack_model.specs.operations.Operations.{Move}
use Rattle.pack_model.specs.reading.Model.{Model, read_as}
use Rattle.pack_model.specs.sessions.Meanings.{SessionCut}
use Rattle.pack_model.specs.sessions.Turns.{Turn}
use Rattle.pack_model.specs.states.Sound.{Clean, Sound}
use Rattle.scavenger.specs.Scavenges.{IsSafe}
use Rattle.scavenger.specs.laws_session.proofs.ends.Laws.{sound_packs_begin}
use Rattle.session_boot.specs.Boots.{EndsAs}
use Rattle.session_boot.specs.declared.status.Status.{Status}
use Rattle.session_boot.specs.declared.status.Status.TheVariants as status
use Rattle.session_boot.proofs.Unread.{first_shown}
use Rattle.session_model.specs.Ending.{BootOf, ShowsWhy, Stop, disk_failed, display_failed, done, keys_failed, needs_scavenge, no_memory, opened, stopped, unopened}
use Rattle.laws_headline.specs.Calls.{Call, HasTurns, Leads, Unopened, acknowledged_at, at_once, done_at, events_of, found, model_at}
use Rattle.laws_headline.specs.Calls.{opened as in_session, unopened as in_none, stopped as after_one_more}

-- ---- events that write no record
pub unwritten : (p : Pack) (events : List Event) → writes_in events ≡ 0 → after p events ≡ p
unwritten p [] none = refl
unwritten p (Wrote at part words ∷ events) none = absurd (omega (arith, none))
unwritten p (Shown byte ∷ events) none = unwritten p events none

unwritten_first : (k : ℕ) (events : List Event) → writes_in events ≡ 0 → writes_in (take k events) ≡ 0
unwritten_first zero events none = refl
unwritten_first (suc k) [] none = refl
unwritten_first (suc k) (Wrote at part words ∷ events) none = absurd (omega (arith, none))
unwritten_first (suc k) (Shown byte ∷ events) none = unwritten_first k events none

-- one text, or a prefix of it
text_unwritten : (stop : Stop) (text : List ℕ) (events : List Event) → ShowsWhy stop text events → writes_in events ≡ 0
text_unwritten needs_scavenge text events shows = ap writes_in shows ∙ writes-shown text
text_unwritten display_failed text events shows = first_shown text events shows
text_unwritten done text events shows = absurd shows
text_unwritten disk_failed text events shows = absurd shows
text_unwritten keys_failed text events shows = absurd shows
text_unwritten no_memory text events shows = absurd shows

-- ---- how a session ended, by the answer
pub record Ended (answer : Status) (P : Stop → Type 0) : Type 0 where
  pub stop : Stop
  pub is : EndsAs answer (λ s. s ≡ stop)
  pub has : P stop

pub ended_by : (answer : Status) (P : Stop → Type 0) → EndsAs answer P → Ended answer P
ended_by status.Done P h = record { stop = done; is = refl; has = h }
ended_by status.Usage P h = absurd h
ended_by status.NeedsScavenge P h = record { stop = needs_scavenge; is = refl; has = h }
ended_by status.DiskFault P h = record { stop = disk_failed; is = refl; has = h }
ended_by status.KeyFault P h = record { stop = keys_failed; is = refl; has = h }
ended_by status.DisplayFault P h = record { stop = display_failed; is = refl; has = h }
ended_by status.Memory P h = record { stop = no_memory; is = refl; has = h }
ended_by status.CannotScavenge P h = absurd h

-- ---- a session that stopped
pub record Stood (c : Call) (k : ℕ) : Type 0 where
  pub turns : List (Turn Move)
  pub has : HasTurns c turns
  pub none_missing : acknowledged_at c turns k ≤ done_at c turns k
  pub cut : SessionCut (model_at c turns k) (crash (found c) (events_of c) k)

-- nothing was written
stood_still : (c : Call) (k : ℕ) → Sound (found c) → Unopened c → Stood c k
stood_still c k sound still =
    let same : found c ≡ crash (found c) (events_of c) k = sym (unwritten (found c) (take k (events_of c)) (unwritten_first k (events_of c) still.unwritten)) in
    record {
      turns = [];
      has = in_none still;
      none_missing = omega arith;
      cut = subst (SessionCut (read_as (found c))) same (sound_packs_begin (found c) c.moment sound).1;
    }

pub stood : (c : Call) (k : ℕ) (given tally : Tally) (stop : Stop) → EndsAs c.answer (λ s. s ≡ stop) → Sound (found c) → BootOf c.moment c.before c.now given tally stop → Stood c k
stood c k given tally stop is sound (opened {end} session ends) = record {
  turns = session.turns;
  has = in_session (record { given = given; tally = tally; stop = stop; end = end; session = session; ends = ends; answer = is });
  none_missing = (session.cuts k).none_missing;
  cut = record { shows = session.states k; mendable = (session.cuts k).stands.mendable };
}
stood c k given tally stop is sound (unopened failing shows nothing) = stood_still c k sound (record { unwritten = text_unwritten stop _ (events_of c) shows; keys = nothing.keys })
stood c k given tally stop is sound (stopped can none nothing) = stood_still c k sound (record { unwritten = ap writes_in none; keys = nothing.keys })

-- ---- a scavenge that stopped
-- it leaves what it found so
pub stays_so : (m : Model) (p : Pack) (events : List Event) (j : ℕ) → SessionCut m p → IsSafe p events j → SessionCut m (crash p events j)
stays_so m p events j cut safe = record {
  shows = safe.shown ∙ cut.shows;
  mendable = record { scavengeable = safe.scavengeable cut.mendable.scavengeable; clean_is_sound = by (writes_in (take j events)) refl };
}
  where
    by : (n : ℕ) → writes_in (take j events) ≡ n → Clean (crash p events j) → Sound (crash p events j)
    by zero none clean =
        let same : crash p events j ≡ p = unwritten p (take j events) none in
        subst Sound (sym same) (cut.mendable.clean_is_sound (subst Clean same clean))
    by (suc n) some clean = safe.clean (omega (arith, some)) clean

pub leads_so : (m : Model) {p q : Pack} → SessionCut m p → Leads p q → SessionCut m q
leads_so m cut at_once = cut
leads_so m cut (after_one_more c so_far called j) = stays_so m (found c) (events_of c) j (leads_so m cut so_far) ((called.does.scavenge refl).safe j)
