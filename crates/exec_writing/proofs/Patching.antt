-- Bytes in the place of those of a file: their line by the model.
use Rattle.std.proofs.Common.{Bool, List, None, Ok, Option, Result, Some, [], ap, arith, drop, false, length, length-drop, min, refl, subst, suc, sym, take, true, zero, ℕ, ◌%◌, ◌+◌, ◌-◌, ◌<◌, ◌==◌, ◌∙◌, ◌∷◌, ◌≡◌, ◌≤◌}
use Rattle.std.proofs.lemmas.Bool.Decides.{nat_tests}
use Rattle.std.proofs.lemmas.List.{length-take}
use Rattle.alto_words.specs.declared.fid.Fid.{Fid}
use Rattle.disk_records.specs.Packs.{Pack}
use Rattle.disk_records.specs.Tapes.{Taped, pack}
use Rattle.exec_words.specs.Texts.{done_text}
use Rattle.exec_words.specs.declared.line.Line.{Line}
use Rattle.exec_words.specs.declared.line.Line.TheVariants as line
use Rattle.exec_words.specs.declared.line.Target.{Target}
use Rattle.exec_words.specs.declared.reply.Refusal.{Refusal}
use Rattle.exec_words.specs.declared.reply.Refusal.TheVariants as refusal
use Rattle.exec_session.specs.laws_line.specs.LineLaws.{LeaveNames}
use Rattle.exec_session.specs.laws_line.specs.SoundLines.IsKindOfLine.{changes}
use Rattle.exec_session.specs.laws_steps.proofs.lengths.Laws.{put_keeps_the_length}
use Rattle.page_seeking.specs.Seeking.{file_length}
use Rattle.page_seeking.specs.declared.refs.FileRef.{FileRef}
use Rattle.pack_model.specs.operations.Committing.{length_of, pages_for_operations}
use Rattle.pack_model.specs.operations.Step.{step}
use Rattle.pack_model.specs.operations.Step.Operation.{put}
use Rattle.pack_model.specs.reading.Model.{Model, read_as}
use Rattle.pack_model.specs.states.Sound.{Sound}
use Rattle.session_model.specs.Effects.{effect}
use Rattle.session_model.specs.Finding.{file_at}
use Rattle.session_model.specs.Keeping.{Kept}
use Rattle.session_model.specs.Refusals.{by_room, is_streamed, when, when_beyond, when_found}
use Rattle.session_model.specs.Replies.{refusal as refusal_to}
use Rattle.session_model.specs.Streams.{puts, puts_from}
use Rattle.session_model.specs.Worlds.{World}
use Rattle.exec_session.specs.Meant.{IsTakenUpBy}
use Rattle.exec_session.specs.declared.stop.Stop.{Stop}
use Rattle.exec_steps.specs.Midway.{Arrived, MayStart, Started, StepsOn}
use Rattle.exec_writing.specs.Measured.{IsMeasured}
use Rattle.exec_writing.specs.Patching.{MayPatchFile}
use Rattle.exec_writing.specs.Writing.{WritesAll}
use Rattle.exec_writing.specs.declared.measuring.Measured.{Measured}
use Rattle.exec_writing.proofs.Lengths.{is_file, measured_length, model_length}
use Rattle.exec_writing.proofs.Opening.{file_stands_still, opens_and_steps}
use Rattle.exec_writing.proofs.Putting.{puts_first}
use Rattle.exec_session.specs.laws_session.specs.RefusedLaws.{first_of}
use Rattle.exec_writing.proofs.OrdinaryReasons.{beyond_comes, has_room, is_beyond, is_open, is_within, operand_refused, operand_taken, room_comes, streams_come, tests_of}
use Rattle.exec_writing.proofs.Touching.{named, touches_file}
use Rattle.exec_writing.proofs.Turns.{AreOfALine, IsWriting, Plans, Unrefused}

-- ---- its operations
-- each puts bytes within the file, and adds no page
leave_names : (fuel : ℕ) (m : Model) (f : Fid) (at : ℕ) (bytes : List ℕ) → (0 < length bytes → at + length bytes ≤ length_of m f) → LeaveNames m (puts_from fuel f at bytes)
leave_names zero m f at bytes within = tt
leave_names (suc fuel) m f at [] within = tt
leave_names (suc fuel) m f at (b ∷ bytes) within =
    let r = 512 - at % 512 in
    let new = take r (b ∷ bytes) in
    let taken = length-take r (b ∷ bytes) in
    let left = length-drop r (b ∷ bytes) in
    let most : at + length (b ∷ bytes) ≤ length_of m f = within (omega arith) in
    let here : at + length new ≤ length_of m f = omega (arith, taken, most) in
    let kept = put_keeps_the_length m f at new here in
    (here, leave_names fuel (step m (put f at new)) f (at + r) (drop r (b ∷ bytes)) (λ some. omega (arith, kept, most, left, some)))

no_pages : (fuel : ℕ) (m : Model) (f : Fid) (at : ℕ) (bytes : List ℕ) → pages_for_operations m (puts_from fuel f at bytes) ≡ 0
no_pages zero m f at bytes = refl
no_pages (suc fuel) m f at [] = refl
no_pages (suc fuel) m f at (b ∷ bytes) =
    let later = no_pages fuel (step m (put f at (take (512 - at % 512) (b ∷ bytes)))) f (at + (512 - at % 512)) (drop (512 - at % 512) (b ∷ bytes)) in
    omega (arith, later)

pub patches_of_a_line : (m : Model) (f : Fid) (at : ℕ) (bytes : List ℕ) → 0 < length bytes → at + length bytes ≤ length_of m f → AreOfALine m (puts f at bytes)
patches_of_a_line m f at bytes some within = record {
  some = by bytes some;
  kind = changes (puts f at bytes) (leave_names (length bytes) m f at bytes (λ s. within));
  room = let none = no_pages (length bytes) m f at bytes in omega (arith, none);
}
  where
    by : (bs : List ℕ) → 0 < length bs → 0 < length (puts f at bs)
    by [] less = absurd (omega (arith, less))
    by (b ∷ bs) less = omega arith

-- ---- its line
pub patch_writes : (target : Target) (offset : ℕ) (bytes : List ℕ) → IsWriting (line.Patch target offset bytes)
patch_writes target offset bytes = record { world = λ m w. refl; quit = refl; scavenge = refl; needs = refl }

module _ (p : Pack) (w : World) (target : Target) (offset : ℕ) (bytes : List ℕ) (sound : Sound p) (taken : IsTakenUpBy w (line.Patch target offset bytes)) where
  abbrev m : Model
  m = read_as p

  abbrev l : Line
  l = line.Patch target offset bytes

  abbrev beyond : Option Refusal
  beyond = when_found (file_at m target) (λ f. when_beyond (length_of m f) (offset + length bytes))

  abbrev streams : Option Refusal
  streams = when (is_streamed w (file_at m target)) refusal.StreamsOpen

  pub patch_unfound : (r : Refusal) → first_of (tests_of m target) ≡ Some r → refusal_to l m w ≡ Some r
  patch_unfound = operand_refused l m w target beyond streams taken refl

  module _ (x : Measured) (is : IsMeasured p target x) where
    long : length_of m x.file.fid ≡ x.length
    long = sym (measured_length p target x sound is)

    ops_are : (effect l m w).ops ≡ puts x.file.fid offset bytes
    ops_are = ap (λ f. puts f offset bytes) (named m target x.file.fid is.at.is)

    pub patch_beyond : x.length < offset + length bytes → refusal_to l m w ≡ Some (refusal.Beyond x.length)
    patch_beyond less =
        operand_taken l m w target beyond streams taken refl is.taken
        ∙ beyond_comes (refusal.Beyond x.length) beyond streams (by_room m (effect l m w).ops)
        (ap (λ r. when_found r (λ f. when_beyond (length_of m f) (offset + length bytes))) is.at.is ∙ ap (λ b. when_beyond b (offset + length bytes)) long ∙ is_beyond x.length (offset + length bytes) less)

    within : offset + length bytes ≤ x.length → beyond ≡ None
    within most = ap (λ r. when_found r (λ f. when_beyond (length_of m f) (offset + length bytes))) is.at.is ∙ ap (λ b. when_beyond b (offset + length bytes)) long ∙ is_within x.length (offset + length bytes) most

    pub patch_streamed : offset + length bytes ≤ x.length → is_streamed w (Some x.file.fid) ≡ true → refusal_to l m w ≡ Some refusal.StreamsOpen
    patch_streamed most has =
        operand_taken l m w target beyond streams taken refl is.taken
        ∙ streams_come beyond streams (by_room m (effect l m w).ops) refusal.StreamsOpen (within most) (is_open w (file_at m target) x.file.fid true is.at.is has)

    pub patch_answers : offset + length bytes ≤ x.length → is_streamed w (Some x.file.fid) ≡ false → Unrefused m l w (puts x.file.fid offset bytes) done_text
    patch_answers most none = record {
      unrefused =
          operand_taken l m w target beyond streams taken refl is.taken
          ∙ room_comes beyond streams (by_room m (effect l m w).ops) (within most) (is_open w (file_at m target) x.file.fid false is.at.is none)
          ∙ has_room m (effect l m w).ops (let pages = ap (pages_for_operations m) ops_are ∙ no_pages (length bytes) m x.file.fid offset bytes in omega (arith, pages));
      ops_are = ops_are;
      text_is = refl;
    }

    pub patch_plans : 0 < length bytes → offset + length bytes ≤ x.length → is_streamed w (Some x.file.fid) ≡ false → Plans m l w (puts x.file.fid offset bytes) done_text (x.file.fid ∷ [])
    patch_plans some most none = record {
      answers = patch_answers most none;
      line = patches_of_a_line m x.file.fid offset bytes some (omega (arith, long, most));
      among = λ g there. touches_file m target x.file.fid g is.at.is there;
    }

-- ---- what is asked of the step
pub may_patch : (p q : Pack) (target : Target) (x : Measured) (offset : ℕ) (bytes : List ℕ) → q ≡ p → Sound p → IsMeasured p target x → offset + length bytes ≤ x.length → MayPatchFile q x.file offset bytes
may_patch p q target x offset bytes same sound is most = subst (λ r. MayPatchFile r x.file offset bytes) (sym same) (record { found = is_file p target x sound is; within = let long = is.length in omega (arith, long, most) })

pub may_patch_still : (p q : Pack) (two : Kept) (file : FileRef) (offset : ℕ) (bytes : List ℕ) → MayPatchFile p file offset bytes → Arrived p q two [] [] → MayPatchFile q file offset bytes
may_patch_still p q two file offset bytes may arrived =
    let found = file_stands_still file arrived (λ m. tt) may.found in
    let same : file_length q file.fid ≡ file_length p file.fid = sym (model_length q file found) ∙ ap (λ m. length_of m file.fid) arrived.reads ∙ model_length p file may.found in
    record { found = found; within = let within = may.within in omega (arith, within, same) }

pub patch_opens : (a b d : Taped) (one two three : Kept) (file : FileRef) (offset : ℕ) (bytes : List ℕ) → 0 < length bytes → (u : Unit {0}) (result : Result (Unit {0}) Stop) → MayPatchFile (pack a) file offset bytes
    → ((first : Kept) (at : ℕ) → MayStart (pack a) first one at [] → Started a b first two at [] (Ok u)) → (MayPatchFile (pack b) file offset bytes → StepsOn b d two three (puts file.fid offset bytes) [] (file.fid ∷ []) result)
    → WritesAll a d one three (puts file.fid offset bytes) [] (file.fid ∷ []) result
patch_opens a b d one two three file offset bytes some u result may starts steps =
    let n = min (length bytes) (512 - offset % 512) in
    let ops = puts_first file.fid offset n bytes some refl in
    let first = put file.fid offset (take (512 - offset % 512) bytes) in
    let more = puts file.fid (offset + n) (drop n bytes) in
    subst (λ o. WritesAll a d one three o [] (file.fid ∷ []) result) (sym ops)
    (opens_and_steps a b d one two three first more [] (file.fid ∷ []) u result starts
    (λ arrived. subst (λ o. StepsOn b d two three o [] (file.fid ∷ []) result) ops (steps (may_patch_still (pack a) (pack b) two file offset bytes may arrived))))

-- ---- no bytes, or some
is_zero : (n : ℕ) → (n == 0) ≡ true → n ≡ 0
is_zero n h = grind (arith, nat_tests)

is_more : (n : ℕ) → (n == 0) ≡ false → 0 < n
is_more n h = grind (arith, nat_tests)

pub when_some : (bytes : List ℕ) (b : Bool) → b ≡ (length bytes == 0) → b ≡ false → 0 < length bytes
when_some bytes b is e = is_more (length bytes) (sym is ∙ e)

pub when_none : (f : Fid) (at : ℕ) (bytes : List ℕ) (b : Bool) → b ≡ (length bytes == 0) → b ≡ true → puts f at bytes ≡ []
when_none f at [] b is e = refl
when_none f at (x ∷ bytes) b is e = let none = is_zero (length (x ∷ bytes)) (sym is ∙ e) in absurd (omega (arith, none))
