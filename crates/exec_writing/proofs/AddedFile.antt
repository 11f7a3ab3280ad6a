-- A line that makes a file, from its beginning to what stopped it or to its end.
use Rattle.std.proofs.Common.{◌≡◌, ◌≤◌, ◌<◌, ◌+◌, ℕ, All, Bool, true, List, [], ◌∷◌, Contains, Some, None, Result, Ok, Err, get_or, length, take, take_all, sym, subst, ap, ◌∙◌, arith}
use Rattle.alto_words.specs.Fid.{sys_dir}
use Rattle.alto_words.specs.declared.fid.Fid.{Fid}
use Rattle.disk_records.specs.Packs.{Pack, is_free_at}
use Rattle.disk_records.specs.Events.{writes_in}
use Rattle.disk_records.specs.Tapes.{DiskAlone, Taped, added, capped, pack}
use Rattle.exec_words.specs.declared.line.Line.{Line}
use Rattle.exec_session.specs.laws_call.specs.SoundCalls.{LineFits}
use Rattle.laws_hint.specs.TableLaws.{TableReserves}
use Rattle.exec_session.specs.laws_line.specs.SoundLines.{IsKindOfLine}
use Rattle.exec_session.specs.laws_session.proofs.unrefused.Laws.{unrefused_lines_have_their_pages}
use Rattle.exec_session.specs.laws_session.specs.UnrefusedLaws.{ops_on}
use Rattle.page_alloc.specs.Free.{IsReserved}
use Rattle.pack_model.specs.hints.Tables.{TableTrue}
use Rattle.pack_model.specs.operations.Committing.{pages_for_operations}
use Rattle.pack_model.specs.operations.Step.{Operation}
use Rattle.pack_model.specs.reading.Model.{read_as, room}
use Rattle.pack_model.specs.reading.Sights.{sights}
use Rattle.pack_model.specs.sessions.Descriptor.{DescriptorFits}
use Rattle.pack_model.specs.states.InUse.{free_sector_count}
use Rattle.pack_model.specs.states.Sound.{Sound}
use Rattle.session_model.specs.Effects.{effect}
use Rattle.session_model.specs.Refusals.{most_serials}
use Rattle.session_model.specs.Replies.{ops, refusal as refusal_to}
use Rattle.session_model.specs.Turning.{HintFailing, State, cue_files, typed}
use Rattle.exec_session.specs.Meant.{IfHint, IfRefused, kept, kept_stopped, stopped}
use Rattle.exec_steps.specs.Asked.{IsSameButMark, IsSameButTable, MayMakeEntered, Works, made_entered, made_fid}
use Rattle.exec_steps.specs.Rooms.{pages_planned}
use Rattle.exec_session.specs.Turned.{Begins, LeavesWorld, Turned, line_ops}
use Rattle.exec_steps.specs.declared.rooms.NewEntry.{NewEntry}
use Rattle.exec_session.specs.declared.session.Session.{Session}
use Rattle.exec_session.specs.declared.stop.Stop.{Stop}
use Rattle.exec_steps.specs.Midway.{AreFree, Arrived, Midway, Started, StepsOn}
use Rattle.exec_writing.proofs.Writing.{MayWrite, opened, opening_stops, steps_done, steps_stop}
use Rattle.exec_writing.specs.Entries.{AddsFile, new_refusal}
use Rattle.disk_records.proofs.Growing.{pack-silent}
use Rattle.exec_words.specs.declared.reply.Reply.TheVariants as reply
use Rattle.session_model.specs.Answering.{plain_reply}
use Rattle.session_model.specs.Touched.{files_touched}
use Rattle.exec_steps.proofs.Stepping.{if_hint_weaker}
use Rattle.exec_writing.proofs.Ends.{begins_fits, begins_model, begins_sound, files_are, stops_unwritten}
use Rattle.exec_steps.proofs.Frames.{world_worked}
use Rattle.exec_writing.proofs.NewSectors.{refused_then}
use Rattle.exec_session.proofs.LookedBefore.{looked_before, same_count}
use Rattle.exec_writing.specs.Writes.{IsWritten}
use Rattle.exec_writing.proofs.Adding.{are_free, begins_there, first_placed, may_make, same_but_reserved, some_made, touched_pair, unless_same, unrefused_ops}

-- no page comes besides
no_more : (n : ℕ) → n + 2 + 0 ≡ n + 2
no_more n = omega arith

-- ---- once its sectors are reserved
-- What is known then: the line began on the machine `a`, and was looked at alone until `b`.
pub record HasSectors (a b : Taped) (s0 s1 : Session) (s : State) (l : Line) (e : NewEntry) (of_directory : Bool) (fresh : List ℕ) : Type 0 where
  pub begins : Begins a (kept s0) s l
  pub adds : AddsFile (pack a) s.world l e of_directory
  pub alone : DiskAlone a b
  pub silent : added a b ≡ []
  pub writes : b.writes ≡ a.writes
  pub same : IsSameButTable s0 s1
  pub many : length fresh ≡ pages_planned e + 2
  pub free : AreFree (pack a) fresh
  pub left : s0.descriptor.last < most_serials
  pub enough : new_refusal s0.descriptor.last (pages_planned e + 2) (room (read_as (pack a))) ≡ None
  pub table : TableTrue (pack a) s0.hints.table → TableReserves (pack a) s1.hints.table fresh

pub has_sectors : (a b : Taped) (s0 s1 : Session) (s : State) (l : Line) (e : NewEntry) (of_directory : Bool) (end : ℕ) (fresh : List ℕ) → Begins a (kept s0) s l → AddsFile (pack a) s.world l e of_directory → DiskAlone a b → added a b ≡ [] → a.writes ≡ capped (writes_in a.events) → b.writes ≡ capped (writes_in b.events) → IsSameButTable s0 s1
    → IsReserved end (pages_planned e + 2 + 0) s1.hints.table fresh → All (λ i. is_free_at (pack a) i ≡ true) fresh → s0.descriptor.last < most_serials → new_refusal s0.descriptor.last (pages_planned e + 2 + 0) (room (read_as (pack a))) ≡ None
    → (TableTrue (pack a) s0.hints.table → TableReserves (pack a) s1.hints.table fresh) → HasSectors a b s0 s1 s l e of_directory fresh
has_sectors a b s0 s1 s l e of_directory end fresh begins adds alone silent before after same reserved free left enough table = record {
  begins = begins;
  adds = adds;
  alone = alone;
  silent = silent;
  writes = same_count a b alone silent before after;
  same = same;
  many = let n = reserved.count in omega (arith, n);
  free = are_free (pack a) end (pages_planned e + 2 + 0) s1.hints.table fresh reserved free;
  left = left;
  enough = ap (λ n. new_refusal s0.descriptor.last n (room (read_as (pack a)))) (sym (no_more (pages_planned e))) ∙ enough;
  table = table;
}

-- ---- they aren't
-- no serial or no room is left, or the sectors weren't taken
pub reserve_stops : (a b : Taped) (s0 s1 : Session) (s : State) (l : Line) (e : NewEntry) (of_directory : Bool) (x : Stop) → Begins a (kept s0) s l → AddsFile (pack a) s.world l e of_directory → DiskAlone a b → added a b ≡ [] → IsSameButTable s0 s1
    → (TableTrue (pack a) s0.hints.table → TableTrue (pack a) s1.hints.table) → IfRefused {T = Unit {0}} (Err x) (λ r. new_refusal s0.descriptor.last (pages_planned e + 2 + 0) (room (read_as (pack a))) ≡ Some r) → IfHint {T = Unit {0}} (Err x) (λ place at wanted found. ⊥)
    → Turned a b (kept s0) (kept_stopped x (kept s1)) s l (stopped x)
reserve_stops a b s0 s1 s l e of_directory x begins adds alone silent same table refused never =
    let model = begins_model begins in
    stops_unwritten (Unit {0}) a b (kept s0) (kept s1) s l x begins.keeping begins.stays begins.taken_up alone silent (same_but_reserved a b s0 s1 (pack-silent alone.grown silent) same table)
    (refused_then {T = Unit {0}} (λ r. new_refusal s0.descriptor.last (pages_planned e + 2 + 0) (room (read_as (pack a))) ≡ Some r) (λ r. refusal_to l s.model s.world ≡ Some r) (Err x)
    (λ r is. ap (λ m. refusal_to l m s.world) (sym model) ∙ adds.refused ∙ ap (λ k. new_refusal k (pages_planned e + 2) (room (read_as (pack a)))) (begins_fits begins).last_is ∙ ap (λ k. new_refusal s0.descriptor.last k (room (read_as (pack a)))) (sym (no_more (pages_planned e))) ∙ is) refused)
    (if_hint_weaker {T = Unit {0}} (λ place at wanted found. ⊥) (HintFailing (pack a) [] (cue_files s (typed l))) (Err x) (λ place at wanted found none. absurd none) never)

-- ---- they are
module _ (a b : Taped) (s0 s1 : Session) (s : State) (l : Line) (e : NewEntry) (of_directory : Bool) (fresh : List ℕ) (h : HasSectors a b s0 s1 s l e of_directory fresh) where
  abbrev p : Pack
  p = pack b

  abbrev at : ℕ
  at = get_or s0.descriptor.pages 0 0

  abbrev own : List Operation
  own = line_ops s l

  here : pack b ≡ pack a
  here = pack-silent h.alone.grown h.silent

  begins : Begins b (kept s0) s l
  begins = begins_there a b (kept s0) s l here h.begins

  adds : AddsFile p s.world l e of_directory
  adds = subst (λ q. AddsFile q s.world l e of_directory) (sym here) h.adds

  reads : read_as p ≡ s.model
  reads = begins_model begins

  sound : Sound p
  sound = begins_sound begins

  was : DescriptorFits p s0.descriptor.shape s0.descriptor.last s0.descriptor.mark s0.descriptor.pages
  was = begins_fits begins

  none : refusal_to l (read_as p) s.world ≡ None
  none = adds.refused ∙ ap (λ n. new_refusal n (pages_planned e + 2) (room (read_as p))) was.last_is ∙ ap (λ q. new_refusal s0.descriptor.last (pages_planned e + 2) (room (read_as q))) here ∙ h.enough

  -- its operations
  own_on : own ≡ ops_on p s.world l
  own_on = ap (λ m. ops l m s.world) (sym reads)

  own_is : own ≡ made_entered e (made_fid of_directory ((read_as p).last + 1)) s.world.moment
  own_is = own_on ∙ unrefused_ops l (read_as p) s.world none ∙ adds.ops

  fits : LineFits p at own
  fits = record {
    sound = sound;
    placed = first_placed p (kept s0) was;
    some = subst (λ o. 0 < length o) (sym own_is) (some_made e (made_fid of_directory ((read_as p).last + 1)) s.world.moment);
    line = subst (IsKindOfLine (read_as p)) (sym own_on) (adds.makes none).is_line;
    room = subst (λ o. pages_for_operations (read_as p) o ≤ free_sector_count (sights p)) (sym own_on) (unrefused_lines_have_their_pages p s.world l sound.whole none).pages;
  }

  leaves : LeavesWorld s l
  leaves = unless_same (refusal_to l s.model s.world) (effect l s.model s.world).world s.world (ap (λ m. (effect l m s.world).world) (sym reads) ∙ adds.world)

  pub may : MayWrite b (kept s0) (kept s1) s l at fresh
  may = record {
    begins = begins;
    leaves = leaves;
    fits = fits;
    start = record {
      sound = sound;
      placed = first_placed p (kept s0) was;
      fits = subst (λ x. DescriptorFits p x.descriptor.shape x.descriptor.last x.descriptor.mark x.descriptor.pages) (sym h.same) was;
      tally = ap (λ x. x.tally) h.same;
      free = subst (λ q. AreFree q fresh) (sym here) h.free;
      table = λ true. subst (λ q. TableReserves q s1.hints.table fresh) (sym here) (h.table (subst (λ q. TableTrue q s0.hints.table) here true));
    };
  }

  -- the mark isn't opened
  pub mark_stops : (c : Taped) (s2 : Session) (x : Stop) → Works s0 s2 → DiskAlone b c → IfRefused {T = Unit {0}} (Err x) (λ r. ⊥) → Started {T = Unit {0}} b c (kept s0) (kept s2) at fresh (Err x) → Turned a c (kept s0) (kept_stopped x (kept s2)) s l (stopped x)
  mark_stops c s2 x worked next unrefused started =
      looked_before a b c (kept s0) (kept_stopped x (kept s2)) s l (stopped x) h.alone next h.silent h.writes
      (opening_stops b (kept s0) (kept s1) s l at fresh may c (kept s2) x (world_worked worked) next unrefused started)

  -- ---- once the mark is open
  module _ (c : Taped) (s2 : Session) (u : Unit {0}) (started : Started b c (kept s0) (kept s2) at fresh (Ok u)) (mark : IsSameButMark s1 s2) where
    midway : Midway b c (kept s0) (kept s2) at [] own fresh
    midway = opened b (kept s0) (kept s1) s l at fresh may c (kept s2) u started

    arrived : Arrived p (pack c) (kept s2) [] fresh
    arrived = record { whole = midway.whole; tidy = midway.tidy; reads = midway.reads; fits = midway.fits; found = started.found; free = midway.free }

    same_last : s2.descriptor.last ≡ s0.descriptor.last
    same_last = ap (λ y. y.descriptor.last) mark ∙ ap (λ y. y.descriptor.last) h.same

    same_moment : s.world.moment ≡ s2.moment
    same_moment = ap (λ w. w.moment) begins.keeping.world ∙ sym (ap (λ y. y.moment) h.same) ∙ sym (ap (λ y. y.moment) mark)

    pub asks : MayMakeEntered (pack c) (kept s2) e of_directory fresh
    asks = may_make p (pack c) (kept s2) s.world l e of_directory fresh sound adds.dir adds.planned (adds.makes none) arrived (subst (λ n. n < most_serials) (sym same_last) h.left)

    -- the steps of a new file, and the same as those of the line
    abbrev Made : {T : Type 0} → Taped → Session → Result T Stop → Type 0
    Made d s3 result = StepsOn c d (kept s2) (kept s3) (made_entered e (made_fid of_directory (s2.descriptor.last + 1)) s2.moment) (take (pages_planned e + 2) fresh) (sys_dir ∷ e.dir.fid ∷ []) result

    made_own : {T : Type 0} (d : Taped) (s3 : Session) (result : Result T Stop) → Made d s3 result → StepsOn c d (kept s2) (kept s3) own fresh (sys_dir ∷ e.dir.fid ∷ []) result
    made_own d s3 result steps =
        let ops : made_entered e (made_fid of_directory (s2.descriptor.last + 1)) s2.moment ≡ own =
        ap (λ n. made_entered e (made_fid of_directory (n + 1)) s2.moment) (same_last ∙ sym was.last_is) ∙ ap (λ t. made_entered e (made_fid of_directory ((read_as p).last + 1)) t) (sym same_moment) ∙ sym own_is
        in
        let many = h.many in
        subst (λ o. StepsOn c d (kept s2) (kept s3) o fresh (sys_dir ∷ e.dir.fid ∷ []) result) ops
        (subst (λ fs. StepsOn c d (kept s2) (kept s3) (made_entered e (made_fid of_directory (s2.descriptor.last + 1)) s2.moment) fs (sys_dir ∷ e.dir.fid ∷ []) result) (take_all (pages_planned e + 2) fresh (omega (arith, many))) steps)

    touched : (f : Fid) → Contains (sys_dir ∷ e.dir.fid ∷ []) f → Contains (cue_files s (typed l)) f
    touched f within =
        subst (λ files. Contains files f) (sym (files_are l s begins.taken_up ∙ ap (λ m. files_touched l m s.world) (sym reads)))
        (touched_pair (files_touched l (read_as p) s.world) sys_dir e.dir.fid adds.root adds.own f within)

    -- they break off
    pub file_stops : (T : Type 0) (d : Taped) (s3 : Session) (x : Stop) → Works s0 s3 → DiskAlone b d → IfRefused {T = Unit {0}} (Err x) (λ r. ⊥) → Made {T = T} d s3 (Err x) → Turned a d (kept s0) (kept_stopped x (kept s3)) s l (stopped x)
    file_stops T d s3 x worked next unrefused steps =
        looked_before a b d (kept s0) (kept_stopped x (kept s3)) s l (stopped x) h.alone next h.silent h.writes
        (steps_stop b (kept s0) (kept s1) s l at fresh may c (kept s2) u started T d (kept s3) (sys_dir ∷ e.dir.fid ∷ []) x (world_worked worked) next unrefused touched (made_own {T = T} d s3 (Err x) steps))

    -- they are done
    pub file_done : (T : Type 0) (d : Taped) (s3 : Session) (y : T) → Works s0 s3 → DiskAlone b d → Made d s3 (Ok y) → IsWritten a d (kept s0) (kept s3) s l
    file_done T d s3 y worked next steps =
        let done = steps_done b (kept s0) (kept s1) s l at fresh may c (kept s2) u started T d (kept s3) (sys_dir ∷ e.dir.fid ∷ []) y (world_worked worked) next (ap (λ m. refusal_to l m s.world) (sym reads) ∙ none) (made_own d s3 (Ok y) steps) in
        record {
          unrefused = done.unrefused;
          plain = λ form formed. looked_before a b d (kept s0) (kept s3) s l (plain_reply s (typed l)) h.alone next h.silent h.writes (done.plain form formed);
          memory = looked_before a b d (kept s0) (kept s3) s l reply.Memory h.alone next h.silent h.writes done.memory;
        }
