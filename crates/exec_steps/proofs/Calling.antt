-- Calls on files and directories as steps: their premises alone.
use Rattle.std.proofs.Common.{Bool, Contains, List, Result, [], arith, false, refl, true, ℕ, ◌<◌, ◌^◌, ◌∷◌, ◌≡◌}
use Rattle.alto_words.specs.declared.fid.Fid.{Fid}
use Rattle.directory.specs.Asked.{DirStands}
use Rattle.disk_records.specs.Events.{writes_in}
use Rattle.disk_records.specs.Packs.{Pack}
use Rattle.disk_records.specs.Tapes.{DiskAlone, Taped, added, capped, pack}
use Rattle.disk_records.specs.declared.records.Place.{Place}
use Rattle.disk_records.specs.declared.records.Tally.{Tally}
use Rattle.exec_session.specs.hint_cache.specs.declared.hints.Hints.{Hints}
use Rattle.exec_session.specs.laws_call.proofs.counts.Laws.{count_of_a_call}
use Rattle.exec_session.specs.laws_call.specs.Acting.{Operates, around}
use Rattle.exec_session.specs.laws_midway.proofs.found.Laws.{found_file_lives}
use Rattle.exec_session.specs.laws_steps.specs.LineKeepingLaws.{StaysFoundOver}
use Rattle.page_seeking.specs.Refs.{FileIsFrom}
use Rattle.page_seeking.specs.declared.refs.FileRef.{FileRef}
use Rattle.pack_model.specs.hints.Misled.{AnswersMisled}
use Rattle.pack_model.specs.operations.Committing.{serial_moves}
use Rattle.pack_model.specs.operations.Step.{Operation}
use Rattle.pack_model.specs.reading.Model.{Model}
use Rattle.session_model.specs.Keeping.{Kept}
use Rattle.exec_session.specs.Meant.{IfHint, kept}
use Rattle.exec_steps.specs.Rooms.{widens_if}
use Rattle.exec_session.specs.declared.session.Session.{Session}
use Rattle.exec_session.specs.declared.stop.Stop.{Stop}
use Rattle.exec_session.specs.declared.stop.Stop.TheVariants as stop
use Rattle.exec_steps.specs.Midway.{Arrived, StepsOn}
use Rattle.exec_steps.proofs.Stepping.{step_of_operates}

-- ---- a call that is lent the hints and the tally
pub hints_step : {T : Type 0} (a b : Taped) (s : Session) (h : Hints) (u : Tally) (o : Operation) (claimed : List ℕ) (files : List Fid) (result : Result T Stop) → serial_moves o ≡ [] → DiskAlone a b → a.writes ≡ capped (writes_in a.events) → b.writes ≡ capped (writes_in b.events) → s.tally.limit < 2 ^ 64
    → Operates stop.DiskFault stop.Memory o claimed (around a s.hints.table s.tally) (around b h.table u) result
    → IfHint result (λ place at wanted found. Contains files wanted.fid × AnswersMisled (pack a) (added a b) place at wanted found)
    → StepsOn a b (kept s) (kept (record s { hints = h; tally = u })) (o ∷ []) claimed files result
hints_step a b s h u o claimed files result none alone first last low operates hints =
    step_of_operates a b (kept s) (kept (record s { hints = h; tally = u })) o claimed files result none (record {
      operates = operates;
      grown = alone.grown;
      counts = count_of_a_call a b alone.grown first last;
      low = low;
      keeps = λ q fits. fits;
      hints = hints;
    })

pub in_one : (f : Fid) (files : List Fid) → Contains (f ∷ files) f
in_one f files = (0, omega arith, refl)

-- ---- directories that were found
pub widens_stay : (b : Bool) (d : Fid) (m : Model) (g : Fid) (from : Place) → StaysFoundOver m (widens_if b d) g from
widens_stay true d m g from = (tt, tt)
widens_stay false d m g from = tt

pub dir_stands_still : {p q : Pack} {two : Kept} {ops : List Operation} {reserved : List ℕ} (dir : FileRef) → Arrived p q two ops reserved → ((m : Model) → StaysFoundOver m ops dir.fid dir.from) → DirStands p dir → DirStands q dir
dir_stands_still {p} {q} dir arrived stays stands =
    let from : FileIsFrom q dir = arrived.found dir.fid dir.leader_at dir.from (stays _) stands.stands.from in
    record {
      stands = record { whole = arrived.whole; tidy = arrived.tidy; from = from };
      directory = stands.directory;
      living = found_file_lives q dir.fid dir.leader_at dir.from arrived.whole arrived.tidy from;
    }
