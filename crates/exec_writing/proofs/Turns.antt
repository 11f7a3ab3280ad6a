-- A line that writes, as a turn: refused or stopped before its first record write, broken off, or done.
use Rattle.std.proofs.Common.{◌≡◌, ◌≤◌, ◌<◌, ◌∙◌, ◌-◌, ◌∷◌, ℕ, false, List, [], length, slice_get, Contains, Some, None, Vec, Result, Ok, Err, refl, sym, subst, ap, append-nil, arith}
use Rattle.std.specs.Result.{IsErrAnd}
use Rattle.alto_words.specs.declared.fid.Fid.{Fid}
use Rattle.alto_words.specs.Fid.{disk_descriptor}
use Rattle.disk_records.proofs.Growing.{pack-silent}
use Rattle.disk_records.specs.Packs.{AreFormed, Pack}
use Rattle.disk_records.specs.Tapes.{DiskAlone, Taped, added, pack}
use Rattle.disk_records.specs.declared.records.Event.{Event}
use Rattle.exec_words.specs.declared.line.Line.{Line}
use Rattle.exec_words.specs.declared.reply.Reply.TheVariants as reply
use Rattle.exec_session.specs.laws_call.specs.SoundCalls.{LineFits}
use Rattle.exec_session.specs.laws_contents.proofs.pages.Laws.{formed_pages_have_256_words}
use Rattle.exec_session.specs.laws_hint.specs.TableLaws.{TableReserves}
use Rattle.exec_session.specs.laws_line.specs.SoundLines.{IsKindOfLine}
use Rattle.exec_session.specs.laws_room.proofs.rooms.Laws.{free_is_the_room}
use Rattle.exec_session.specs.laws_session.specs.LineAnswers.{GoesOnWith}
use Rattle.pack_model.specs.hints.Tables.{TableTrue}
use Rattle.pack_model.specs.operations.Committing.{pages_for_operations}
use Rattle.pack_model.specs.operations.Step.{Operation}
use Rattle.pack_model.specs.reading.Files.{place}
use Rattle.pack_model.specs.reading.Model.{Model, read_as, room}
use Rattle.pack_model.specs.reading.Sights.{sights}
use Rattle.pack_model.specs.sessions.Descriptor.{DescriptorFits}
use Rattle.pack_model.specs.states.Sound.{Sound}
use Rattle.session_model.specs.Answering.{TakesTurn, plain_reply}
use Rattle.session_model.specs.Bounds.{RunsWithin}
use Rattle.session_model.specs.Effects.{effect}
use Rattle.session_model.specs.Keeping.{Keeping, Kept, world_of}
use Rattle.session_model.specs.Refusals.{is_obeyed_in_need}
use Rattle.session_model.specs.Replies.{refusal as refusal_to, unless_refused}
use Rattle.session_model.specs.Touched.{files_touched}
use Rattle.session_model.specs.Turning.{HintFailing, IsTakenUp, State, cue_files, is_quit, is_scavenge, typed}
use Rattle.session_model.specs.Worlds.{World}
use Rattle.exec_session.specs.declared.session.Session.{Session}
use Rattle.exec_session.specs.declared.stop.Stop.{Stop}
use Rattle.exec_session.specs.declared.stop.Stop.TheVariants as stop
use Rattle.exec_session.specs.Meant.{IfHint, IfRefused, IsTakenUpBy, MayObey, TakesLine, kept, kept_replied, kept_stopped, replied, stopped}
use Rattle.exec_session.specs.Turned.{Begins, FewRuns, LeavesWorld, SameBut, SameWorld, Turned, line_ops}
use Rattle.exec_session.proofs.Stopping.{error_is}
use Rattle.exec_session.proofs.TakingUp.{goes_on, need_none, plain_text}
use Rattle.exec_session.proofs.Turning.{line_is_refused, line_stops_unwritten, line_writes_nothing, turned_is_a_turn}
use Rattle.exec_steps.specs.Lines.{BrokeOff}
use Rattle.exec_steps.specs.Midway.{AreFree, MayStart, Midway}
use Rattle.exec_steps.proofs.laws.Laws.{line_stops, lines_break_off}
use Rattle.exec_steps.specs.Asked.{Works}
use Rattle.exec_session.specs.laws_steps.specs.LineKeepingLaws.{KeepsFound}
use Rattle.exec_writing.proofs.Streamed.{line_ends}
use Rattle.exec_writing.specs.Writing.{WritesAll, Wrote}
use Rattle.exec_steps.proofs.Frames.{world_worked}
use Rattle.exec_session.proofs.LookedBefore.{looked_before}

-- ---- lines that write files
-- It leaves the world, goes on with the session, and isn't obeyed while a scavenge is needed.
pub record IsWriting (l : Line) : Type 0 where
  pub world : (m : Model) (w : World) → (effect l m w).world ≡ w
  pub quit : is_quit l ≡ false
  pub scavenge : is_scavenge l ≡ false
  pub needs : is_obeyed_in_need l ≡ false

-- It isn't refused, and has these operations and this text.
pub record Unrefused (m : Model) (l : Line) (w : World) (ops : List Operation) (text : List ℕ) : Type 0 where
  pub unrefused : refusal_to l m w ≡ None
  pub ops_are : (effect l m w).ops ≡ ops
  pub text_is : (effect l m w).text ≡ text

-- They are some, of a line of the operating system, and there is room for their pages.
pub record AreOfALine (m : Model) (ops : List Operation) : Type 0 where
  pub some : 0 < length ops
  pub kind : IsKindOfLine m ops
  pub room : pages_for_operations m ops ≤ room m

-- And these are files that it touches.
pub record Plans (m : Model) (l : Line) (w : World) (ops : List Operation) (text : List ℕ) (files : List Fid) : Type 0 where
  pub answers : Unrefused m l w ops text
  pub line : AreOfALine m ops
  pub among : (f : Fid) → Contains files f → Contains (files_touched l m w) f

-- From the machine `old` to the machine `mid` it has only looked; of what a session keeps the hints alone may be others, and these sectors are
-- reserved in them.
pub record ReadyToWrite (old mid : Taped) (one now : Session) (reserved : List ℕ) : Type 0 where
  pub looked : DiskAlone old mid
  pub silent : added old mid ≡ []
  pub writes : mid.writes ≡ old.writes
  pub formed : AreFormed (pack mid)
  pub same : now ≡ record one { hints = now.hints }
  pub free : Sound (pack old) → AreFree (pack old) reserved
  pub table : Sound (pack old) → TableTrue (pack old) one.hints.table → TableReserves (pack old) now.hints.table reserved

-- ---- as it is taken up
-- a stopped line has no bound on its sector commands
few_stopped : (p : Pack) (m : Model) (l : Line) (error : Stop) (n : ℕ) → RunsWithin p m l (stopped error) n
few_stopped p m l (stop.Refused x) n = tt
few_stopped p m l (stop.Misled place at wanted found) n = tt
few_stopped p m l stop.DiskFault n = tt
few_stopped p m l stop.Memory n = tt

-- ---- the first page of DiskDescriptor
slice_first : (pages : List ℕ) → 0 < length pages → (at : ℕ) × (slice_get pages 0 ≡ Some at)
slice_first [] some = absurd (omega (arith, some))
slice_first (at ∷ pages) some = (at, refl)

pub first_placed : (p : Pack) (k : Kept) → DescriptorFits p k.shape k.last k.mark k.pages → (at : ℕ) × (place (sights p) disk_descriptor 1 ≡ Some at)
first_placed p k fits =
    let size = fits.size in
    let some : 0 < length k.pages = omega (arith, size) in
    let at = slice_first k.pages some in
    (at.0, fits.bears 0 some ∙ at.1)

-- ---- the line, from a state for which what is kept is right
module _ (old : Taped) (one : Session) (l : Line) (writing : IsWriting l) (may : MayObey old one l) (s : State) (keeping : Keeping (pack old) (kept one) s) where
  abbrev w : World
  w = world_of (kept one)

  taken : IsTakenUp s (typed l)
  taken = subst (λ w. IsTakenUpBy w l) (sym keeping.world) may.taken_up

  pub unneeded : s.world.need ≡ false
  unneeded = need_none l s.world writing.needs taken

  pub sound : Sound (pack old)
  sound = keeping.stands.sound unneeded

  goes : GoesOnWith s l
  goes = goes_on l s writing.quit writing.scavenge

  -- what is so of the pack's model and the world that is kept is so of the state
  at_state : (P : Model → World → Type 0) → P (read_as (pack old)) w → P s.model s.world
  at_state P h = subst (λ v. P s.model v) (sym keeping.world) (subst (λ m. P m w) (keeping.stands.reads unneeded) h)

  pub touches : cue_files s (typed l) ≡ files_touched l s.model s.world
  touches = ap (λ x. unless_refused x (files_touched l s.model s.world) []) taken

  hint_touched : (T : Type 0) (p : Pack) (events : List Event) (error : Stop) → IfHint {T = T} (Err error) (HintFailing p events (files_touched l (read_as (pack old)) w)) → IfHint {T = T} (Err error) (HintFailing p events (cue_files s (typed l)))
  hint_touched T p events error h = subst (λ files. IfHint {T = T} (Err error) (HintFailing p events files)) (sym touches) (at_state (λ m v. IfHint {T = T} (Err error) (HintFailing p events (files_touched l m v))) h)

  -- its plain reply
  plain_of : (text : List ℕ) (ops : List Operation) → Unrefused s.model l s.world ops text → plain_reply s (typed l) ≡ reply.Done text
  plain_of text ops h = plain_text l s writing.quit h.unrefused ∙ ap reply.Done h.text_is

  -- ---- before the first record write
  module _ (new : Taped) (two : Session) (alone : DiskAlone old new) (silent : added old new ≡ []) (same : SameBut old new (kept one) (kept two)) where
    unwritten : (error : Stop) → IfRefused {T = Unit {0}} (Err error) (λ x. refusal_to l (read_as (pack old)) w ≡ Some x) → IfHint {T = Unit {0}} (Err error) (HintFailing (pack old) [] (files_touched l (read_as (pack old)) w))
        → Turned old new (kept one) (kept_stopped error (kept two)) s l (stopped error)
    unwritten (stop.Refused x) refused hint = line_is_refused old new (kept one) (kept two) s l x keeping (at_state (λ m v. refusal_to l m v ≡ Some x) refused) alone silent same
    unwritten (stop.Misled place at wanted found) refused hint =
        line_stops_unwritten old new (kept one) (kept two) s l (stop.Misled place at wanted found) keeping goes taken alone silent same tt (hint_touched (Unit {0}) (pack old) [] (stop.Misled place at wanted found) hint)
    unwritten stop.DiskFault refused hint = line_stops_unwritten old new (kept one) (kept two) s l stop.DiskFault keeping goes taken alone silent same tt tt
    unwritten stop.Memory refused hint = line_stops_unwritten old new (kept one) (kept two) s l stop.Memory keeping goes taken alone silent same tt tt

    -- done without an operation
    nothing : (text : List ℕ) → Unrefused (read_as (pack old)) l w [] text → Turned old new (kept one) (kept two) s l (reply.Done text)
    nothing text plan =
        let h = at_state (λ m v. Unrefused m l v [] text) plan in
        subst (Turned old new (kept one) (kept two) s l) (plain_of text [] h)
        (line_writes_nothing old new (kept one) (kept two) s l keeping goes
        (ap (λ x. unless_refused x (effect l s.model s.world).world s.world) h.unrefused ∙ writing.world s.model s.world)
        (ap (λ x. unless_refused x (effect l s.model s.world).ops []) h.unrefused ∙ h.ops_are) alone silent same)

  -- ---- after some looks it writes
  module _ (mid new : Taped) (now two : Session) (reserved : List ℕ) (ready : ReadyToWrite old mid one now reserved) (alone : DiskAlone mid new) (worked : SameWorld (kept one) (kept two)) (ops : List Operation) (text : List ℕ) (files : List Fid)
      (plans : Plans (read_as (pack old)) l w ops text files) where
    pub here : pack mid ≡ pack old
    here = pack-silent ready.looked.grown ready.silent

    pub fitting : DescriptorFits (pack mid) (kept one).shape (kept one).last (kept one).mark (kept one).pages
    fitting = subst (λ p. DescriptorFits p (kept one).shape (kept one).last (kept one).mark (kept one).pages) (sym here) (keeping.descriptor (sym (ap (λ (v : World). v.need) keeping.world) ∙ unneeded))

    abbrev first_page : (at : ℕ) × (place (sights (pack mid)) disk_descriptor 1 ≡ Some at)
    first_page = first_placed (pack mid) (kept one) fitting

    abbrev at : ℕ
    at = first_page.0

    pub may_start : MayStart (pack mid) (kept one) (kept now) at reserved
    may_start = record {
      sound = subst Sound (sym here) sound;
      placed = first_page.1;
      fits = subst (λ (x : Session). DescriptorFits (pack mid) (kept x).shape (kept x).last (kept x).mark (kept x).pages) (sym ready.same) fitting;
      tally = ap (λ (x : Session). x.tally) ready.same;
      free = subst (λ p. AreFree p reserved) (sym here) (ready.free sound);
      table = λ was. subst (λ p. TableReserves p now.hints.table reserved) (sym here) (ready.table sound (subst (λ p. TableTrue p one.hints.table) here was));
    }

    begins : Begins mid (kept one) s l
    begins = record {
      keeping = subst (λ p. Keeping p (kept one) s) (sym here) keeping;
      unneeded = sym (ap (λ (v : World). v.need) keeping.world) ∙ unneeded;
      stays = goes;
      taken_up = taken;
      full = λ i page e. formed_pages_have_256_words (pack mid) i page ready.formed e;
    }

    planned : Unrefused s.model l s.world ops text
    planned = at_state (λ m v. Unrefused m l v ops text) plans.answers

    ops_are : line_ops s l ≡ ops
    ops_are = ap (λ x. unless_refused x (effect l s.model s.world).ops []) planned.unrefused ∙ planned.ops_are

    leaves : LeavesWorld s l
    leaves = ap (λ x. unless_refused x (effect l s.model s.world).world s.world) planned.unrefused ∙ writing.world s.model s.world

    fits : LineFits (pack mid) at ops
    fits = record {
      sound = subst Sound (sym here) sound;
      placed = first_page.1;
      some = plans.line.some;
      line = subst (λ p. IsKindOfLine (read_as p) ops) (sym here) plans.line.kind;
      room = subst (λ n. pages_for_operations (read_as (pack mid)) ops ≤ n) (free_is_the_room (pack mid) (subst Sound (sym here) sound).whole).room_is (subst (λ p. pages_for_operations (read_as p) ops ≤ room (read_as p)) (sym here) plans.line.room);
    }

    stops : (error : Stop) → BrokeOff {T = Unit {0}} mid new (kept one) (kept two) s l (Err error) → IfRefused {T = Unit {0}} (Err error) (λ r. ⊥) → IfHint {T = Unit {0}} (Err error) (HintFailing (pack mid) (added mid new) (cue_files s (typed l)))
        → Turned old new (kept one) (kept_stopped error (kept two)) s l (stopped error)
    stops error broke unrefused hint =
        looked_before old mid new (kept one) (kept_stopped error (kept two)) s l (stopped error) ready.looked alone ready.silent ready.writes (line_stops mid new (kept one) (kept two) s l error begins worked alone broke unrefused hint)

    wider : (error : Stop) → IfHint {T = Unit {0}} (Err error) (HintFailing (pack mid) (added mid new) files) → IfHint {T = Unit {0}} (Err error) (HintFailing (pack mid) (added mid new) (files_touched l (read_as (pack old)) w))
    wider (stop.Refused r) h = tt
    wider (stop.Misled place hint wanted found) h = record { misled = h.misled; on_disk = h.on_disk; file = plans.among wanted.fid h.file }
    wider stop.DiskFault h = tt
    wider stop.Memory h = tt

    broke_off : (error : Stop) → Wrote {T = Unit {0}} mid new (kept one) (kept two) at ops files (Err error) → IfRefused {T = Unit {0}} (Err error) (λ r. ⊥) → Turned old new (kept one) (kept_stopped error (kept two)) s l (stopped error)
    broke_off error wrote unrefused = stops error (wrote.broke s l begins ops_are fits) unrefused (hint_touched (Unit {0}) (pack mid) (added mid new) error (wider error wrote.failing))

    midway : {x : Unit {0}} → Wrote mid new (kept one) (kept two) at ops files (Ok x) → Midway mid new (kept one) (kept two) at (line_ops s l) (line_ops s l) []
    midway wrote = subst (λ own. Midway mid new (kept one) (kept two) at own own []) (sym ops_are) wrote.done

    -- done, but for its text
    late : {x : Unit {0}} → Wrote mid new (kept one) (kept two) at ops files (Ok x) → Turned old new (kept one) (kept two) s l reply.Memory
    late wrote =
        stops stop.Memory
        ((lines_break_off (Unit {0}) mid (kept one) s l begins).later new (kept two) at (line_ops s l) [] [] (Err stop.Memory) (subst (LineFits (pack mid) at) (sym ops_are) fits) (append-nil (line_ops s l)) (midway wrote))
        tt tt

    done : {x : Unit {0}} → Wrote mid new (kept one) (kept two) at ops files (Ok x) → Turned old new (kept one) (kept two) s l (reply.Done text)
    done wrote =
        looked_before old mid new (kept one) (kept two) s l (reply.Done text) ready.looked alone ready.silent ready.writes
        (subst (Turned mid new (kept one) (kept two) s l) (plain_of text ops planned)
        (line_ends mid new (kept one) (kept two) s l at begins leaves worked old.form may.formed (subst (LineFits (pack mid) at) (sym ops_are) fits) (subst (KeepsFound (pack mid) (pack new)) (sym ops_are) wrote.found) (midway wrote)))

-- ---- as turns
-- refused, or stopped before its first record write
pub unwritten_turns : {Z : Type 0} (old new : Taped) (one two : Session) (l : Line) (e : Stop) (r : Result (Vec ℕ Z) Stop) → r ≡ Err e → IsWriting l → MayObey old one l → DiskAlone old new → added old new ≡ [] → (Sound (pack old) → SameBut old new (kept one) (kept two))
    → (Sound (pack old) → IfRefused {T = Unit {0}} (Err e) (λ x. refusal_to l (read_as (pack old)) (world_of (kept one)) ≡ Some x)) → (Sound (pack old) → IfHint {T = Unit {0}} (Err e) (HintFailing (pack old) [] (files_touched l (read_as (pack old)) (world_of (kept one)))))
    → TakesLine old new one two l r
unwritten_turns {Z} old new one two l e r is writing may alone silent same refused hint = λ s keeping.
    let right = sound old one l writing may s keeping in
    subst (λ x. TakesTurn old new (kept one) (kept_replied {T = Vec ℕ Z} x (kept two)) s (typed l) (replied {Z = Z} x)) (sym is)
    (turned_is_a_turn old new (kept one) (kept_stopped e (kept two)) s l (stopped e) (unwritten old one l writing may s keeping new two alone silent (same right) e (refused right) (hint right)) (λ handy none. few_stopped (pack old) s.model l e (new.runs - old.runs)))

-- done without an operation
pub nothing_turns : {Z : Type 0} (old new : Taped) (one two : Session) (l : Line) (text : Vec ℕ Z) → IsWriting l → MayObey old one l → DiskAlone old new → added old new ≡ [] → SameBut old new (kept one) (kept two)
    → (Sound (pack old) → Unrefused (read_as (pack old)) l (world_of (kept one)) [] text.items) → ((s : State) → Keeping (pack old) (kept one) s → FewRuns old new (kept one) (kept two) s l (reply.Done text.items)) → TakesLine old new one two l (Ok text)
nothing_turns old new one two l text writing may alone silent same plan few = λ s keeping.
    turned_is_a_turn old new (kept one) (kept two) s l (reply.Done text.items) (nothing old one l writing may s keeping new two alone silent same text.items (plan (sound old one l writing may s keeping))) (few s keeping)

module _ (old mid new : Taped) (one now two : Session) (l : Line) (writing : IsWriting l) (may : MayObey old one l) (reserved : List ℕ) (ready : ReadyToWrite old mid one now reserved) (alone : DiskAlone mid new) (works : Works one two) (ops : List Operation) (text : List ℕ) (files : List Fid)
    (plans : Sound (pack old) → Plans (read_as (pack old)) l (world_of (kept one)) ops text files) where
  abbrev worked : SameWorld (kept one) (kept two)
  worked = world_worked works

  -- broken off
  pub broke_turns : {Z : Type 0} (e : Stop) (r : Result (Vec ℕ Z) Stop) → IsErrAnd r (λ x. x ≡ e) → (Sound (pack old) → WritesAll {T = Unit {0}} mid new (kept now) (kept two) ops reserved files (Err e)) → IfRefused {T = Unit {0}} (Err e) (λ r. ⊥) → TakesLine old new one two l r
  broke_turns {Z} e r is wrote unrefused = λ s keeping.
      let right = sound old one l writing may s keeping in
      let start = may_start old one l writing may s keeping mid new now two reserved ready alone worked ops text files (plans right) in
      subst (λ x. TakesTurn old new (kept one) (kept_replied {T = Vec ℕ Z} x (kept two)) s (typed l) (replied {Z = Z} x)) (sym (error_is r is))
      (turned_is_a_turn old new (kept one) (kept_stopped e (kept two)) s l (stopped e)
      (broke_off old one l writing may s keeping mid new now two reserved ready alone worked ops text files (plans right) e (wrote right (kept one) _ start) unrefused)
      (λ handy none. few_stopped (pack old) s.model l e (new.runs - old.runs)))

  -- done, and memory for its text was refused
  pub late_turns : {Z : Type 0} (x : Unit {0}) (r : Result (Vec ℕ Z) Stop) → IsErrAnd r (λ x. x ≡ stop.Memory) → (Sound (pack old) → WritesAll mid new (kept now) (kept two) ops reserved files (Ok x)) → TakesLine old new one two l r
  late_turns {Z} x r is wrote = λ s keeping.
      let right = sound old one l writing may s keeping in
      let start = may_start old one l writing may s keeping mid new now two reserved ready alone worked ops text files (plans right) in
      subst (λ y. TakesTurn old new (kept one) (kept_replied {T = Vec ℕ Z} y (kept two)) s (typed l) (replied {Z = Z} y)) (sym (error_is r is))
      (turned_is_a_turn old new (kept one) (kept two) s l reply.Memory
      (late old one l writing may s keeping mid new now two reserved ready alone worked ops text files (plans right) {x = x} (wrote right (kept one) _ start))
      (λ handy none. tt))

  -- done
  pub done_turns : {Z : Type 0} (x : Unit {0}) (answer : Vec ℕ Z) → answer.items ≡ text → (Sound (pack old) → WritesAll mid new (kept now) (kept two) ops reserved files (Ok x)) → ((s : State) → Keeping (pack old) (kept one) s → FewRuns old new (kept one) (kept two) s l (reply.Done text))
      → TakesLine old new one two l (Ok answer)
  done_turns x answer is wrote few = λ s keeping.
      let right = sound old one l writing may s keeping in
      let start = may_start old one l writing may s keeping mid new now two reserved ready alone worked ops text files (plans right) in
      subst (λ t. TakesTurn old new (kept one) (kept two) s (typed l) (reply.Done t)) (sym is)
      (turned_is_a_turn old new (kept one) (kept two) s l (reply.Done text)
      (done old one l writing may s keeping mid new now two reserved ready alone worked ops text files (plans right) {x = x} (wrote right (kept one) _ start)) (few s keeping))
