-- A line that has found its operands and reserved its sectors: how it ends as a turn, over the opening of the mark and its steps.
use Rattle.std.proofs.Common.{◌≡◌, ◌<◌, ℕ, Contains, List, [], ◌∷◌, Option, None, Result, Ok, Err, append-nil, length, sym, subst, ap, ◌∙◌, arith}
use Rattle.alto_words.specs.declared.fid.Fid.{Fid}
use Rattle.disk_records.specs.Tapes.{DiskAlone, Taped, added, pack}
use Rattle.disk_records.specs.declared.records.Page.{Page}
use Rattle.disk_records.specs.declared.records.Place.{Place}
use Rattle.exec_words.specs.declared.line.Line.{Line}
use Rattle.exec_words.specs.declared.reply.Reply.{Reply}
use Rattle.exec_session.specs.laws_call.specs.SoundCalls.{LineFits}
use Rattle.pack_model.specs.hints.Truth.{Truthful}
use Rattle.pack_model.specs.operations.Step.{Operation}
use Rattle.pack_model.specs.sessions.Tallies.{counted}
use Rattle.session_model.specs.Keeping.{Kept}
use Rattle.session_model.specs.Replies.{refusal as refusal_to}
use Rattle.session_model.specs.Turning.{HintFailing, State, cue_files, typed}
use Rattle.exec_session.specs.Meant.{IfHint, IfRefused, kept_stopped, stopped}
use Rattle.exec_session.specs.Turned.{Begins, LeavesWorld, SameWorld, Turned, line_ops}
use Rattle.exec_session.specs.declared.stop.Stop.{Stop}
use Rattle.exec_session.specs.declared.stop.Stop.TheVariants as stop
use Rattle.exec_steps.proofs.Joining.{steps_err}
use Rattle.exec_steps.proofs.Stepping.{if_hint_weaker}
use Rattle.exec_steps.proofs.laws.Laws.{line_stops, lines_break_off}
use Rattle.exec_steps.specs.Midway.{MayStart, Midway, Started, Stepped, StepsOn}
use Rattle.exec_writing.proofs.Streamed.{found_later, line_ends}
use Rattle.exec_writing.specs.Writes.{IsWritten}

-- ---- a turn from before some looks
-- of what is kept neither the tally nor the table was changed
pub kept_before : (old new : Taped) (zero one two : Kept) (s : State) (l : Line) (r : Reply) → one.tally ≡ zero.tally → one.busy ≡ zero.busy → Turned old new one two s l r → Turned old new zero two s l r
kept_before old new zero one two s l r tally busy t = record {
  state = t.state;
  goes_on = t.goes_on;
  answered = t.answered;
  need = t.need;
  keeping = t.keeping;
  tally = λ tells. t.tally tells ∙ ap (λ x. counted old.writes t.answered.moves x) tally;
  truthful = λ was. t.truthful (subst (λ b. Truthful (pack old) b) (sym busy) was);
}

-- ---- as a line begins to write
-- It has begun on this machine with what `one` keeps, its operations are a line that fits, and with what is kept now the mark may be opened.
pub record MayWrite (old : Taped) (one now : Kept) (s : State) (l : Line) (at : ℕ) (fresh : List ℕ) : Type 0 where
  pub begins : Begins old one s l
  pub leaves : LeavesWorld s l
  pub fits : LineFits (pack old) at (line_ops s l)
  pub start : MayStart (pack old) one now at fresh

-- no hint is blamed
no_hint : (P : Place → ℕ → Page → Option (List ℕ) → Type 0) (e : Stop) → IfHint {T = Unit {0}} (Err e) (λ place at wanted found. ⊥) → IfHint {T = Unit {0}} (Err e) P
no_hint P e h = if_hint_weaker {T = Unit {0}} (λ place at wanted found. ⊥) P (Err e) (λ place at wanted found none. absurd none) h

module _ (old : Taped) (one now : Kept) (s : State) (l : Line) (at : ℕ) (fresh : List ℕ) (m : MayWrite old one now s l at fresh) where
  abbrev own : List Operation
  own = line_ops s l

  -- ---- the mark isn't opened
  pub opening_stops : (new : Taped) (two : Kept) (e : Stop) → SameWorld one two → DiskAlone old new → IfRefused {T = Unit {0}} (Err e) (λ r. ⊥) → Started {T = Unit {0}} old new one two at fresh (Err e) → Turned old new one (kept_stopped e two) s l (stopped e)
  opening_stops new two e same alone unrefused started =
      line_stops old new one two s l e m.begins same alone
      ((lines_break_off (Unit {0}) old one s l m.begins).opening new two at fresh e m.fits started)
      unrefused (no_hint (HintFailing (pack old) (added old new) (cue_files s (typed l))) e started.failing)

  -- ---- the mark is open
  module _ (mid : Taped) (k : Kept) (x : Unit {0}) (started : Started old mid one k at fresh (Ok x)) where
    opened_for : (ops : List Operation) → 0 < length ops → Midway old mid one k at [] ops fresh
    opened_for [] some = absurd (omega (arith, some))
    opened_for (o ∷ ops) some = started.midway o ops

    pub opened : Midway old mid one k at [] own fresh
    opened = opened_for own m.fits.some

    -- the steps from there, to their end
    stepped : {T : Type 0} (new : Taped) (two : Kept) (files : List Fid) (result : Result T Stop) → StepsOn mid new k two own fresh files result → Stepped old mid new one two at [] own own [] files result
    stepped new two files result steps = steps old one at [] own [] (subst (Midway old mid one k at [] own) (sym (append-nil fresh)) opened)

    -- they break off
    pub steps_stop : (T : Type 0) (new : Taped) (two : Kept) (files : List Fid) (e : Stop) → SameWorld one two → DiskAlone old new → IfRefused {T = Unit {0}} (Err e) (λ r. ⊥) → ((f : Fid) → Contains files f → Contains (cue_files s (typed l)) f)
        → StepsOn {T = T} mid new k two own fresh files (Err e) → Turned old new one (kept_stopped e two) s l (stopped e)
    steps_stop T new two files e same alone unrefused touched steps =
        let t : Stepped {T = Unit {0}} old mid new one two at [] own own [] files (Err e) = stepped new two files (Err e) (steps_err (Unit {0}) T mid new k two own fresh files e steps) in
        line_stops old new one two s l e m.begins same alone
        ((lines_break_off (Unit {0}) old one s l m.begins).step mid new two at [] own [] [] files e m.fits (append-nil own) t)
        unrefused
        (if_hint_weaker {T = Unit {0}} (HintFailing (pack old) (added old new) files) (HintFailing (pack old) (added old new) (cue_files s (typed l))) (Err e)
        (λ place at wanted found h. record { misled = h.misled; on_disk = h.on_disk; file = touched wanted.fid h.file }) t.failing)

    -- they are done
    pub steps_done : (T : Type 0) (new : Taped) (two : Kept) (files : List Fid) (y : T) → SameWorld one two → DiskAlone old new → refusal_to l s.model s.world ≡ None → StepsOn mid new k two own fresh files (Ok y) → IsWritten old new one two s l
    steps_done T new two files y same alone none steps =
        let st = stepped new two files (Ok y) steps in
        let done = st.midway in
        record {
          unrefused = none;
          plain = λ form formed. line_ends old new one two s l at m.begins m.leaves same form formed m.fits (found_later old mid new own (Ok y) opened.reads started.found st.found) done;
          memory = line_stops old new one two s l stop.Memory m.begins same alone
              ((lines_break_off (Unit {0}) old one s l m.begins).later new two at own [] [] (Err stop.Memory) m.fits (append-nil own) done) tt tt;
        }
