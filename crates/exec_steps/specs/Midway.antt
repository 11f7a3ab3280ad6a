-- A line midway: what it has done of its operations, in which sectors, and what is known then.
use Rattle.std.specs.Prelude.{◌≡◌, ◌≢◌, ◌≤◌, ℕ, true, All, List, [], ◌∷◌, ◌++◌, length, take, Some, Result, OnOk}
use Rattle.std.specs.List.{AllPairs}
use Rattle.alto_words.specs.declared.fid.Fid.{Fid}
use Rattle.alto_words.specs.Fid.{disk_descriptor}
use Rattle.disk_records.specs.declared.records.Event.{Event}
use Rattle.disk_records.specs.Events.{IsFirstOf}
use Rattle.disk_records.specs.Packs.{Pack, after, is_free_at}
use Rattle.disk_records.specs.Tapes.{Grown, Taped, added, pack}
use Rattle.pack_model.specs.hints.Tables.{TableTrue}
use Rattle.pack_model.specs.operations.Operations.{Move}
use Rattle.pack_model.specs.operations.Step.{Operation}
use Rattle.pack_model.specs.reading.Files.{place}
use Rattle.pack_model.specs.reading.Model.{read_as}
use Rattle.pack_model.specs.reading.Sights.{sights}
use Rattle.pack_model.specs.sessions.Tallies.{Tells, counted}
use Rattle.pack_model.specs.states.Sound.{Sound, mark_of, mark_open}
use Rattle.pack_model.specs.states.Whole.{Whole, Tidy}
use Rattle.exec_session.specs.laws_call.specs.Acting.{around}
use Rattle.exec_session.specs.laws_call.specs.CountLaws.{CountedSoFar}
use Rattle.exec_session.specs.laws_call.specs.Going.{Goes}
use Rattle.exec_session.specs.laws_hint.specs.LineLinks.{opening_writes}
use Rattle.exec_session.specs.laws_hint.specs.TableLaws.{TableReserves}
use Rattle.exec_session.specs.laws_line.specs.CrashLaws.{Batch}
use Rattle.exec_session.specs.laws_line.specs.Ready.{steps_of}
use Rattle.exec_session.specs.laws_line.specs.SoundParts.{begun_moves}
use Rattle.exec_session.specs.laws_lookup.specs.StayLaws.{MisledBefore}
use Rattle.exec_session.specs.laws_operation.specs.LinkLaws.{KeepsLinks}
use Rattle.exec_session.specs.laws_steps.specs.LineKeepingLaws.{KeepsFound}
use Rattle.session_model.specs.Keeping.{Kept}
use Rattle.session_model.specs.Turning.{HintFailing}
use Rattle.pack_model.specs.sessions.Descriptor.{DescriptorFits}
use Rattle.exec_session.specs.Meant.{IfHint}
use Rattle.exec_session.specs.declared.stop.Stop.{Stop}
use Rattle.exec_session.specs.declared.stop.Stop.TheVariants as stop

-- each is free, and each is listed once
abbrev pub AreFree : Pack → List ℕ → Type 0
AreFree p fresh = All (λ i. is_free_at p i ≡ true) fresh × AllPairs (λ i j. i ≢ j) fresh

-- ---- a line
-- the pack with the open mark, from which a line's operations go
abbrev pub opened_pack : Pack → ℕ → Pack
opened_pack p at = after p (opening_writes p at)

-- the moves of the opening of the mark and of these operations, a prefix of all of these
abbrev pub moves_so_far : Taped → List Operation → List Operation → List Move
moves_so_far old done all = begun_moves (mark_of (sights (pack old))) (read_as (pack old)) done all

-- The line began on the machine `old` with what `one` keeps, and has opened the mark and done these operations, all of them, with one record
-- write a move; so the pack is read as the model after them, and its mark is open. What is kept of DiskDescriptor fits; the tally counts the moves so far; hints
-- that mislead now misled as the line began, links that were true are true, and a table that was true has these sectors reserved.
pub record Midway (old now : Taped) (one two : Kept) (at : ℕ) (done all : List Operation) (reserved : List ℕ) : Type 0 where
  pub grown : Grown old now
  pub placed : place (sights (pack old)) disk_descriptor 1 ≡ Some at
  pub wrote : List Event
  pub events : added old now ≡ opening_writes (pack old) at ++ wrote
  pub line : Batch (opened_pack (pack old) at) wrote done
  pub many : length (added old now) ≡ length (moves_so_far old done all)
  pub reads : read_as (pack now) ≡ steps_of (read_as (pack old)) done
  pub whole : Whole (pack now)
  pub tidy : Tidy (pack now)
  pub marked : mark_of (sights (pack now)) ≡ mark_open
  pub fits : DescriptorFits (pack now) two.shape two.last two.mark two.pages
  pub counted : CountedSoFar old.writes one.tally (moves_so_far old done all) (around now two.busy two.tally)
  pub misled : MisledBefore (pack old) (added old now)
  pub links : KeepsLinks (pack old) (added old now)
  pub free : AreFree (pack now) reserved
  pub table : TableTrue (pack old) one.busy → TableReserves (pack now) two.busy reserved

-- What is asked as the mark is opened: a sound pack, of which what is kept fits; nothing counted since the line began, and a table that was true
-- then has these sectors reserved.
pub record MayStart (p : Pack) (one now : Kept) (at : ℕ) (reserved : List ℕ) : Type 0 where
  pub sound : Sound p
  pub placed : place (sights p) disk_descriptor 1 ≡ Some at
  pub fits : DescriptorFits p now.shape now.last now.mark now.pages
  pub tally : now.tally ≡ one.tally
  pub free : AreFree p reserved
  pub table : TableTrue p one.busy → TableReserves p now.busy reserved

-- The mark is opened: for every answer a prefix of its record writes is made, and at Ok the line is midway with no operation done, and files
-- that were found stay found.
pub record Started {T : Type 0} (old new : Taped) (one two : Kept) (at : ℕ) (reserved : List ℕ) (result : Result T Stop) : Type 0 where
  pub some : IsFirstOf (opening_writes (pack old) at) (added old new)
  pub midway : (o : Operation) (ops : List Operation) → OnOk result (Midway old new one two at [] (o ∷ ops) reserved)
  pub found : OnOk result (KeepsFound (pack old) (pack new) [])
  pub tally : two.tally ≡ one.tally
  pub failing : IfHint result (λ place at wanted found. ⊥)

-- What is known once some operations are done: the pack is whole, tidy, and read as the model after them; what is kept of DiskDescriptor fits;
-- files that were found are found; and these sectors are free.
pub record Arrived (p q : Pack) (two : Kept) (ops : List Operation) (reserved : List ℕ) : Type 0 where
  pub whole : Whole q
  pub tidy : Tidy q
  pub reads : read_as q ≡ steps_of (read_as p) ops
  pub fits : DescriptorFits q two.shape two.last two.mark two.pages
  pub found : KeepsFound p q ops
  pub free : AreFree q reserved

-- A step of the line with these operations, from the machine `now` to the machine `new`: for every answer its record writes go on with the
-- line, at most one a move; a hint that misleads is one of these files. At Ok the line is midway again, these sectors are reserved still, and
-- files that were found stay found.
pub record Stepped {T : Type 0} (old now new : Taped) (one two : Kept) (at : ℕ) (done ops all : List Operation) (reserved : List ℕ) (files : List Fid) (result : Result T Stop) : Type 0 where
  pub wrote : List Event
  pub events : added old new ≡ opening_writes (pack old) at ++ wrote
  pub goes : Goes (opened_pack (pack old) at) (done ++ ops) wrote result
  pub within : length (added old new) ≤ length (moves_so_far old (done ++ ops) all)
  pub midway : OnOk result (Midway old new one two at (done ++ ops) all reserved)
  pub found : OnOk result (KeepsFound (pack now) (pack new) ops)
  pub counted : Tells stop.DiskFault new result → two.tally ≡ counted old.writes (take (length (added old new)) (moves_so_far old (done ++ ops) all)) one.tally
  pub failing : IfHint result (HintFailing (pack old) (added old new) files)

-- so it is from wherever the line is midway, with what it has done, and the sectors that it has reserved besides
abbrev pub StepsOn : {T : Type 0} → Taped → Taped → Kept → Kept → List Operation → List ℕ → List Fid → Result T Stop → Type 0
StepsOn now new two three ops claimed files result =
    (old : Taped) (one : Kept) (at : ℕ) (done all : List Operation) (rest : List ℕ) → Midway old now one two at done all (claimed ++ rest)
    → Stepped old now new one three at done ops all rest files result
