-- The part of a line that writes: the mark is opened, and then its steps are done.
use Rattle.std.proofs.Common.{◌≡◌, ◌++◌, ◌∷◌, ◌∙◌, ℕ, List, [], Result, Ok, Err, OnErr, append-nil, sym, subst}
use Rattle.std.specs.Result.{IsErrAnd}
use Rattle.alto_words.specs.declared.fid.Fid.{Fid}
use Rattle.disk_records.specs.Packs.{Pack}
use Rattle.disk_records.specs.Tapes.{Taped, added, pack}
use Rattle.exec_words.specs.declared.line.Line.{Line}
use Rattle.exec_session.specs.laws_call.specs.SoundCalls.{LineFits}
use Rattle.exec_session.specs.laws_steps.specs.LineKeepingLaws.{StaysFoundOver}
use Rattle.exec_session.specs.laws_midway.proofs.found.Laws.{found_file_lives}
use Rattle.page_seeking.specs.Refs.{FileIsFrom}
use Rattle.page_seeking.specs.declared.refs.FileRef.{FileRef}
use Rattle.pack_model.specs.operations.Step.{Operation}
use Rattle.pack_model.specs.reading.Model.{Model}
use Rattle.session_model.specs.Keeping.{Kept}
use Rattle.session_model.specs.Turning.{HintFailing, State}
use Rattle.exec_session.specs.Meant.{IfHint}
use Rattle.exec_session.specs.Turned.{Begins, line_ops}
use Rattle.exec_session.specs.declared.stop.Stop.{Stop}
use Rattle.exec_session.specs.declared.stop.Stop.TheVariants as stop
use Rattle.exec_session.proofs.Stopping.{error_is}
use Rattle.exec_steps.specs.Asked.{IsFile}
use Rattle.exec_steps.specs.Lines.{BrokeOff}
use Rattle.exec_steps.specs.Midway.{Arrived, MayStart, Midway, Started, Stepped, StepsOn}
use Rattle.exec_steps.proofs.laws.Laws.{lines_break_off}
use Rattle.exec_writing.proofs.Streamed.{found_later}
use Rattle.exec_writing.specs.Writing.{WritesAll}

-- ---- a file that was found, after some steps
pub file_stands_still : {p q : Pack} {two : Kept} {ops : List Operation} {reserved : List ℕ} (file : FileRef) → Arrived p q two ops reserved → ((m : Model) → StaysFoundOver m ops file.fid file.from) → IsFile p file → IsFile q file
file_stands_still {p} {q} file arrived stays is =
    let from : FileIsFrom q file = arrived.found file.fid file.leader_at file.from (stays _) is.stands.from in
    record {
      stands = record { whole = arrived.whole; tidy = arrived.tidy; from = from };
      ordinary = is.ordinary;
      living = found_file_lives q file.fid file.leader_at file.from arrived.whole arrived.tidy from;
    }

-- ---- the mark isn't opened to its end
no_hint : (error : Stop) (old new : Taped) (files : List Fid) → IfHint {T = Unit {0}} (Err error) (λ place at wanted found. ⊥) → IfHint {T = Unit {0}} (Err error) (HintFailing (pack old) (added old new) files)
no_hint (stop.Refused r) old new files h = tt
no_hint (stop.Misled place at wanted found) old new files h = absurd h
no_hint stop.DiskFault old new files h = tt
no_hint stop.Memory old new files h = tt

stopped_opening : (old new : Taped) (before after : Kept) (ops : List Operation) (reserved : List ℕ) (files : List Fid) (error : Stop)
    → ((one : Kept) (at : ℕ) → MayStart (pack old) one before at reserved → Started {T = Unit {0}} old new one after at reserved (Err error)) → WritesAll {T = Unit {0}} old new before after ops reserved files (Err error)
stopped_opening old new before after ops reserved files error starts = λ one at may.
    let started = starts one at may in
    record {
      done = tt;
      found = tt;
      broke = λ s l begins is fits. (lines_break_off (Unit {0}) old one s l begins).opening new after at reserved error (subst (LineFits (pack old) at) (sym is) fits) started;
      failing = no_hint error old new files started.failing;
    }

pub opening_fails : (old new : Taped) (before after : Kept) (ops : List Operation) (reserved : List ℕ) (files : List Fid) (error : Stop) (result : Result (Unit {0}) Stop) → IsErrAnd result (λ x. x ≡ error)
    → ((one : Kept) (at : ℕ) → MayStart (pack old) one before at reserved → Started {T = Unit {0}} old new one after at reserved (Err error)) → WritesAll old new before after ops reserved files result
opening_fails old new before after ops reserved files error result is starts =
    subst (λ r. WritesAll old new before after ops reserved files r) (sym (error_is result is)) (stopped_opening old new before after ops reserved files error starts)

-- ---- the mark is opened, and the steps go on
module _ (old mid new : Taped) (before between after : Kept) (o : Operation) (more : List Operation) (reserved : List ℕ) (files : List Fid) where
  abbrev ops : List Operation
  ops = o ∷ more

  module _ (one : Kept) (at : ℕ) where
    broke_in_step : (result : Result (Unit {0}) Stop) → Stepped old mid new one after at [] ops ops [] files result → OnErr result ((s : State) (l : Line) → Begins old one s l → line_ops s l ≡ ops → LineFits (pack old) at ops → BrokeOff old new one after s l result)
    broke_in_step (Ok x) st = tt
    broke_in_step (Err error) st = λ s l begins is fits.
        (lines_break_off (Unit {0}) old one s l begins).step mid new after at [] ops [] [] files error (subst (LineFits (pack old) at) (sym is) fits) (append-nil ops ∙ sym is)
        (subst (λ all. Stepped {T = Unit {0}} old mid new one after at [] ops all [] files (Err error)) (sym is) st)

  pub opens_and_steps : (x : Unit {0}) (result : Result (Unit {0}) Stop) → ((one : Kept) (at : ℕ) → MayStart (pack old) one before at reserved → Started old mid one between at reserved (Ok x))
      → (Arrived (pack old) (pack mid) between [] (reserved ++ []) → StepsOn mid new between after ops reserved files result) → WritesAll old new before after ops reserved files result
  opens_and_steps x result starts steps = λ one at may.
      let started = starts one at may in
      let m : Midway old mid one between at [] ops (reserved ++ []) = subst (λ l. Midway old mid one between at [] ops l) (sym (append-nil reserved)) (started.midway o more) in
      let arrived : Arrived (pack old) (pack mid) between [] (reserved ++ []) = record { whole = m.whole; tidy = m.tidy; reads = m.reads; fits = m.fits; found = started.found; free = m.free } in
      let st : Stepped old mid new one after at [] ops ops [] files result = steps arrived old one at [] ops [] m in
      record { done = st.midway; found = found_later old mid new ops result m.reads started.found st.found; broke = broke_in_step one at result st; failing = st.failing }
