-- Bytes after those of a file: their line by the model, and what is asked of its step.
use Rattle.std.proofs.Common.{◌≡◌, ◌≤◌, ◌<◌, ◌∙◌, ◌∷◌, ◌++◌, ◌+◌, ◌-◌, ◌/◌, ◌&&◌, ℕ, Bool, true, false, nat_le, List, [], length, Option, Some, None, Result, Ok, append-nil, arith, ap, refl, sym, subst}
use Rattle.std.proofs.lemmas.Bool.Decides.{nat_tests}
use Rattle.alto_words.specs.declared.fid.Fid.{Fid}
use Rattle.disk_records.specs.Packs.{Pack}
use Rattle.disk_records.specs.Tapes.{Taped, pack}
use Rattle.disk_records.specs.declared.records.Place.{Place}
use Rattle.exec_words.specs.Texts.{length_text}
use Rattle.exec_words.specs.Typed.{is_typed_file}
use Rattle.exec_words.specs.declared.line.Line.{Line}
use Rattle.exec_words.specs.declared.line.Line.TheVariants as line
use Rattle.exec_words.specs.declared.line.Target.{Target}
use Rattle.exec_words.specs.declared.reply.Refusal.{Refusal}
use Rattle.exec_words.specs.declared.reply.Refusal.TheVariants as refusal
use Rattle.exec_session.specs.laws_line.specs.SoundLines.IsKindOfLine.{changes}
use Rattle.exec_session.specs.laws_steps.specs.LineKeepingLaws.{StaysFoundOver}
use Rattle.page_seeking.specs.Seeking.{file_length}
use Rattle.page_seeking.specs.declared.refs.FileRef.{FileRef}
use Rattle.pack_model.specs.operations.Committing.{length_of, pages_added, pages_for_operations}
use Rattle.pack_model.specs.operations.Step.Operation.{grow, stamp}
use Rattle.pack_model.specs.reading.Model.{Model, read_as, room}
use Rattle.pack_model.specs.states.Sound.{Sound}
use Rattle.session_model.specs.Effects.{appended_ops, effect}
use Rattle.session_model.specs.Finding.{file_at, the_file}
use Rattle.session_model.specs.Keeping.{Kept}
use Rattle.session_model.specs.Refusals.{by_room, is_streamed, when}
use Rattle.session_model.specs.Replies.{refusal as refusal_to}
use Rattle.session_model.specs.Streams.{grows}
use Rattle.session_model.specs.Worlds.{World}
use Rattle.exec_session.specs.Meant.{IsTakenUpBy}
use Rattle.exec_session.specs.declared.stop.Stop.{Stop}
use Rattle.exec_steps.specs.Asked.{MayGrowFile}
use Rattle.exec_steps.specs.Midway.{AreFree, Arrived, MayStart, Started, StepsOn}
use Rattle.exec_writing.specs.Measured.{IsMeasured}
use Rattle.exec_writing.specs.Writing.{WritesAll}
use Rattle.exec_writing.specs.declared.measuring.Measured.{Measured}
use Rattle.exec_writing.proofs.Lengths.{is_file, measured_length, model_length}
use Rattle.exec_writing.proofs.Opening.{file_stands_still, opens_and_steps}
use Rattle.exec_session.specs.laws_session.specs.RefusedLaws.{first_of}
use Rattle.exec_writing.proofs.OrdinaryReasons.{has_room, is_open, lacks_room, operand_refused, operand_taken, room_comes, streams_come, tests_of}
use Rattle.exec_session.proofs.TakingUp.{typed_line}
use Rattle.exec_writing.proofs.Touching.{named, touches_file}
use Rattle.exec_writing.proofs.Turns.{AreOfALine, IsWriting, Plans}

both_hold : (a b : Bool) → (a && b) ≡ true → b ≡ true
both_hold true b e = e
both_hold false b e = cc

at_most : (n most : ℕ) → nat_le n most ≡ true → n ≤ most
at_most n most e = grind (arith, nat_tests)

pub few_bytes : (w : World) (target : Target) (bytes : List ℕ) → IsTakenUpBy w (line.Append target bytes) → length bytes ≤ 2000
few_bytes w target bytes taken = at_most (length bytes) 2000 (both_hold (is_typed_file target) (nat_le (length bytes) 2000) (typed_line (line.Append target bytes) w taken))

-- ---- its operations
no_pages : (b : ℕ) → pages_added b 0 ≡ 0
no_pages b = let same : b + 0 ≡ b = omega arith in ap (λ n. n / 512 - b / 512) same ∙ omega arith

pub pages_are : (m : Model) (f : Fid) (bytes : List ℕ) (moment : ℕ) → pages_for_operations m (appended_ops f bytes moment) ≡ pages_added (length_of m f) (length bytes)
pages_are m f [] moment = sym (no_pages (length_of m f))
pages_are m f (b ∷ bytes) moment = omega arith

-- of at most 2,000 bytes
pub few_pages : (b n : ℕ) → n ≤ 2000 → pages_added b n ≤ 4
few_pages b n few = omega (arith, few)

pub appends_stay : (f : Fid) (bytes : List ℕ) (from : Place) (m : Model) → StaysFoundOver m (grows f bytes) f from
appends_stay f [] from m = tt
appends_stay f (b ∷ bytes) from m = (tt, tt)

of_a_line : (m : Model) (f : Fid) (bytes : List ℕ) (moment : ℕ) → pages_added (length_of m f) (length bytes) ≤ room m → AreOfALine m (appended_ops f bytes moment)
of_a_line m f [] moment most = record { some = omega arith; kind = changes (stamp f moment ∷ []) (tt, tt); room = omega arith }
of_a_line m f (b ∷ bytes) moment most = record {
  some = omega arith;
  kind = changes (grow f (b ∷ bytes) ∷ stamp f moment ∷ []) (tt, (tt, tt));
  room = subst (λ n. n ≤ room m) (sym (pages_are m f (b ∷ bytes) moment)) most;
}

-- ---- its line
pub append_writes : (target : Target) (bytes : List ℕ) → IsWriting (line.Append target bytes)
append_writes target bytes = record { world = λ m w. refl; quit = refl; scavenge = refl; needs = refl }

module _ (p : Pack) (w : World) (target : Target) (bytes : List ℕ) (sound : Sound p) (taken : IsTakenUpBy w (line.Append target bytes)) where
  abbrev m : Model
  m = read_as p

  abbrev l : Line
  l = line.Append target bytes

  abbrev streams : Option Refusal
  streams = when (is_streamed w (file_at m target)) refusal.StreamsOpen

  pub append_unfound : (r : Refusal) → first_of (tests_of m target) ≡ Some r → refusal_to l m w ≡ Some r
  append_unfound = operand_refused l m w target None streams taken refl

  module _ (x : Measured) (is : IsMeasured p target x) where
    long : length_of m x.file.fid ≡ x.length
    long = sym (measured_length p target x sound is)

    same : the_file m target ≡ x.file.fid
    same = named m target x.file.fid is.at.is

    ops_are : (effect l m w).ops ≡ appended_ops x.file.fid bytes w.moment
    ops_are = ap (λ f. appended_ops f bytes w.moment) same

    pages_come : pages_for_operations m (effect l m w).ops ≡ pages_added x.length (length bytes)
    pages_come = ap (pages_for_operations m) ops_are ∙ pages_are m x.file.fid bytes w.moment ∙ ap (λ b. pages_added b (length bytes)) long

    pub append_streamed : is_streamed w (Some x.file.fid) ≡ true → refusal_to l m w ≡ Some refusal.StreamsOpen
    append_streamed has =
        operand_taken l m w target None streams taken refl is.taken
        ∙ streams_come None streams (by_room m (effect l m w).ops) refusal.StreamsOpen refl (is_open w (file_at m target) x.file.fid true is.at.is has)

    pub append_full : is_streamed w (Some x.file.fid) ≡ false → room m < pages_added x.length (length bytes) → refusal_to l m w ≡ Some (refusal.Full (pages_added x.length (length bytes)) (room m))
    append_full none less =
        operand_taken l m w target None streams taken refl is.taken
        ∙ room_comes None streams (by_room m (effect l m w).ops) refl (is_open w (file_at m target) x.file.fid false is.at.is none)
        ∙ lacks_room m (effect l m w).ops (subst (λ n. room m < n) (sym pages_come) less)
        ∙ ap (λ n. Some (refusal.Full n (room m))) pages_come

    pub append_plans : is_streamed w (Some x.file.fid) ≡ false → pages_added x.length (length bytes) ≤ room m → Plans m l w (appended_ops x.file.fid bytes w.moment) (length_text (x.length + length bytes)) (x.file.fid ∷ [])
    append_plans none most = record {
      answers = record {
        unrefused =
            operand_taken l m w target None streams taken refl is.taken
            ∙ room_comes None streams (by_room m (effect l m w).ops) refl (is_open w (file_at m target) x.file.fid false is.at.is none)
            ∙ has_room m (effect l m w).ops (subst (λ n. n ≤ room m) (sym pages_come) most);
        ops_are = ops_are;
        text_is = ap (λ n. length_text (n + length bytes)) (ap (length_of m) same ∙ long);
      };
      line = of_a_line m x.file.fid bytes w.moment (subst (λ b. pages_added b (length bytes) ≤ room m) (sym long) most);
      among = λ g there. touches_file m target x.file.fid g is.at.is there;
    }

-- ---- what is asked of the step
pub may_grow : (p q : Pack) (target : Target) (x : Measured) (bytes fresh : List ℕ) → q ≡ p → Sound p → IsMeasured p target x → length fresh ≡ pages_added x.length (length bytes) → AreFree p fresh → MayGrowFile q x.file bytes fresh
may_grow p q target x bytes fresh same sound is number free =
    subst (λ r. MayGrowFile r x.file bytes fresh) (sym same)
    (record { found = is_file p target x sound is; number = number ∙ ap (λ b. pages_added b (length bytes)) is.length; free = free })

-- once the mark is open
pub may_grow_still : (p q : Pack) (two : Kept) (file : FileRef) (bytes fresh : List ℕ) → MayGrowFile p file bytes fresh → Arrived p q two [] (fresh ++ []) → MayGrowFile q file bytes fresh
may_grow_still p q two file bytes fresh may arrived =
    let found = file_stands_still file arrived (λ m. tt) may.found in
    let same : file_length q file.fid ≡ file_length p file.fid = sym (model_length q file found) ∙ ap (λ m. length_of m file.fid) arrived.reads ∙ model_length p file may.found in
    record {
      found = found;
      number = may.number ∙ ap (λ b. pages_added b (length bytes)) (sym same);
      free = subst (AreFree q) (append-nil fresh) arrived.free;
    }

pub append_opens : (a b d : Taped) (one two three : Kept) (file : FileRef) (bytes fresh : List ℕ) (moment now : ℕ) → now ≡ moment → (u : Unit {0}) (result : Result (Unit {0}) Stop) → MayGrowFile (pack a) file bytes fresh
    → ((first : Kept) (at : ℕ) → MayStart (pack a) first one at fresh → Started a b first two at fresh (Ok u)) → (MayGrowFile (pack b) file bytes fresh → StepsOn b d two three (appended_ops file.fid bytes now) fresh (file.fid ∷ []) result)
    → WritesAll a d one three (appended_ops file.fid bytes moment) fresh (file.fid ∷ []) result
append_opens a b d one two three file bytes fresh moment now same u result may starts steps =
    by bytes (λ arrived. subst (λ t. StepsOn b d two three (appended_ops file.fid bytes t) fresh (file.fid ∷ []) result) same (steps (may_grow_still (pack a) (pack b) two file bytes fresh may arrived)))
  where
    by : (bs : List ℕ) → (Arrived (pack a) (pack b) two [] (fresh ++ []) → StepsOn b d two three (appended_ops file.fid bs moment) fresh (file.fid ∷ []) result) → WritesAll a d one three (appended_ops file.fid bs moment) fresh (file.fid ∷ []) result
    by [] go = opens_and_steps a b d one two three (stamp file.fid moment) [] fresh (file.fid ∷ []) u result starts go
    by (x ∷ xs) go = opens_and_steps a b d one two three (grow file.fid (x ∷ xs)) (stamp file.fid moment ∷ []) fresh (file.fid ∷ []) u result starts go
