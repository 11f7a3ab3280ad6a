-- A file that is cut: the answer of the call, and its line by the model.
use Rattle.std.proofs.Common.{◌≡◌, ◌≢◌, ◌≤◌, ◌<◌, ◌∙◌, ◌∷◌, ◌++◌, ◌==◌, ℕ, Bool, true, false, cond, Contains, List, [], length, Option, Some, None, Result, Ok, Err, arith, ap, refl, sym, subst}
use Rattle.std.proofs.lemmas.Bool.Decides.{nat_tests}
use Rattle.alto_words.specs.declared.fid.Fid.{Fid}
use Rattle.disk_records.specs.Packs.{Pack}
use Rattle.disk_records.specs.Tapes.{Taped, pack}
use Rattle.disk_records.specs.declared.records.Event.{Event}
use Rattle.disk_records.specs.declared.records.Place.{Place}
use Rattle.exec_words.specs.Texts.{length_text}
use Rattle.exec_words.specs.declared.line.Line.{Line}
use Rattle.exec_words.specs.declared.line.Line.TheVariants as line
use Rattle.exec_words.specs.declared.line.Target.{Target}
use Rattle.exec_words.specs.declared.reply.Refusal.{Refusal}
use Rattle.exec_words.specs.declared.reply.Refusal.TheVariants as refusal
use Rattle.exec_session.specs.laws_line.specs.SoundLines.IsKindOfLine.{changes}
use Rattle.exec_session.specs.laws_steps.specs.LineKeepingLaws.{StaysFoundOver}
use Rattle.page_seeking.specs.Parts.{IsPast}
use Rattle.page_seeking.specs.Refs as refs
use Rattle.page_seeking.specs.Refs.{MisledBy}
use Rattle.page_seeking.specs.Seeking.{file_length}
use Rattle.page_seeking.specs.declared.refs.FileError.{FileError}
use Rattle.page_seeking.specs.declared.refs.FileError.TheVariants as fault
use Rattle.page_seeking.specs.declared.refs.FileRef.{FileRef}
use Rattle.pack_model.specs.hints.Misled.{AnswersMisled}
use Rattle.pack_model.specs.operations.Committing.{length_of, pages_for_operations}
use Rattle.pack_model.specs.operations.Step.Operation.{cut, stamp}
use Rattle.pack_model.specs.reading.Model.{Model, read_as, room}
use Rattle.pack_model.specs.states.Sound.{Sound}
use Rattle.session_model.specs.Effects.{cut_ops, effect}
use Rattle.session_model.specs.Finding.{file_at, the_file}
use Rattle.session_model.specs.Keeping.{Kept}
use Rattle.session_model.specs.Refusals.{by_room, is_streamed, when, when_beyond, when_found}
use Rattle.session_model.specs.Replies.{refusal as refusal_to}
use Rattle.session_model.specs.Worlds.{World}
use Rattle.exec_session.specs.Meant.{IfHint, IsTakenUpBy}
use Rattle.exec_session.specs.Stops.{stop_written}
use Rattle.exec_session.specs.declared.stop.Stop.{Stop}
use Rattle.exec_session.proofs.Finding.{contains_first}
use Rattle.exec_steps.specs.Midway.{Arrived, MayStart, Started, StepsOn}
use Rattle.exec_writing.specs.Cutting.{MayCutFile, cuts, cuts_and_stamps}
use Rattle.exec_writing.specs.Writing.{WritesAll}
use Rattle.exec_writing.specs.Measured.{IsMeasured}
use Rattle.exec_writing.specs.declared.measuring.Measured.{Measured}
use Rattle.exec_writing.proofs.Lengths.{is_file, measured_length, model_length}
use Rattle.exec_writing.proofs.Opening.{file_stands_still, opens_and_steps}
use Rattle.exec_session.specs.laws_session.specs.RefusedLaws.{first_of}
use Rattle.exec_writing.proofs.OrdinaryReasons.{beyond_comes, has_room, is_beyond, is_open, is_within, operand_refused, operand_taken, room_comes, streams_come, tests_of}
use Rattle.exec_writing.proofs.Touching.{named, touches_file}
use Rattle.exec_writing.proofs.Turns.{AreOfALine, IsWriting, Plans}

-- ---- the answer of the call
-- a hint that misled is one of the file's, and it has all bytes that are to stay
pub cut_hints : (p : Pack) (events : List Event) (file : FileRef) (n : ℕ) (result : Result (Unit {0}) FileError) → n ≤ file_length p file.fid → refs.IfMisled result (MisledBy p events file.fid) → refs.IfBeyond result (IsPast p file.fid n)
    → IfHint (stop_written file result) (λ place at wanted found. Contains (file.fid ∷ []) wanted.fid × AnswersMisled p events place at wanted found)
cut_hints p events file n (Ok x) within misled beyond = tt
cut_hints p events file n (Err (fault.Misled place at wanted found)) within misled beyond = (subst (Contains (file.fid ∷ [])) (sym misled.own) (contains_first file.fid []), misled.answers)
cut_hints p events file n (Err (fault.Beyond length)) within misled beyond = let is = beyond.is in let past = beyond.past in absurd (omega (arith, within, is, past))
cut_hints p events file n (Err fault.DiskFault) within misled beyond = tt
cut_hints p events file n (Err fault.Memory) within misled beyond = tt

pub cuts_none : (f : Fid) (b n : ℕ) → n ≡ b → cuts f b n ≡ []
cuts_none f b n e = ap (λ c. cond c [] (cut f n ∷ [])) (is_same n b e)
  where
    is_same : (x y : ℕ) → x ≡ y → (x == y) ≡ true
    is_same x y e = grind (arith, nat_tests)

pub cuts_one : (f : Fid) (b n : ℕ) → n ≢ b → cuts f b n ≡ cut f n ∷ []
cuts_one f b n e = ap (λ c. cond c [] (cut f n ∷ [])) (is_other n b e)
  where
    is_other : (x y : ℕ) → x ≢ y → (x == y) ≡ false
    is_other x y e = grind (arith, nat_tests)

-- a file that was found is found still
pub cuts_stay : (f : Fid) (b n : ℕ) (from : Place) (m : Model) → StaysFoundOver m (cuts f b n) f from
cuts_stay f b n from m = by (n == b)
  where
    by : (c : Bool) → StaysFoundOver m (cond c [] (cut f n ∷ [])) f from
    by true = tt
    by false = (tt, tt)

-- ---- its line
pub cut_writes : (target : Target) (n : ℕ) → IsWriting (line.Cut target n)
cut_writes target n = record { world = λ m w. refl; quit = refl; scavenge = refl; needs = refl }

-- its operations, whether or not the length is the file's own
module _ (m : Model) (f : Fid) (n moment : ℕ) where
  of_a_line : (own : Bool) → AreOfALine m (cond own [] (cut f n ∷ []) ++ stamp f moment ∷ [])
  of_a_line true = record { some = omega arith; kind = changes (stamp f moment ∷ []) (tt, tt); room = omega arith }
  of_a_line false = record { some = omega arith; kind = changes (cut f n ∷ stamp f moment ∷ []) (tt, (tt, tt)); room = omega arith }

module _ (p : Pack) (w : World) (target : Target) (n : ℕ) (sound : Sound p) (taken : IsTakenUpBy w (line.Cut target n)) where
  abbrev m : Model
  m = read_as p

  abbrev l : Line
  l = line.Cut target n

  abbrev beyond : Option Refusal
  beyond = when_found (file_at m target) (λ f. when_beyond (length_of m f) n)

  abbrev streams : Option Refusal
  streams = when (is_streamed w (file_at m target)) refusal.StreamsOpen

  pub cut_unfound : (r : Refusal) → first_of (tests_of m target) ≡ Some r → refusal_to l m w ≡ Some r
  cut_unfound = operand_refused l m w target beyond streams taken refl

  module _ (x : Measured) (is : IsMeasured p target x) where
    long : length_of m x.file.fid ≡ x.length
    long = sym (measured_length p target x sound is)

    pub cut_beyond : x.length < n → refusal_to l m w ≡ Some (refusal.Beyond x.length)
    cut_beyond less =
        operand_taken l m w target beyond streams taken refl is.taken
        ∙ beyond_comes (refusal.Beyond x.length) beyond streams (by_room m (effect l m w).ops)
        (ap (λ r. when_found r (λ f. when_beyond (length_of m f) n)) is.at.is ∙ ap (λ b. when_beyond b n) long ∙ is_beyond x.length n less)

    within : n ≤ x.length → beyond ≡ None
    within most = ap (λ r. when_found r (λ f. when_beyond (length_of m f) n)) is.at.is ∙ ap (λ b. when_beyond b n) long ∙ is_within x.length n most

    pub cut_streamed : n ≤ x.length → is_streamed w (Some x.file.fid) ≡ true → refusal_to l m w ≡ Some refusal.StreamsOpen
    cut_streamed most has =
        operand_taken l m w target beyond streams taken refl is.taken
        ∙ streams_come beyond streams (by_room m (effect l m w).ops) refusal.StreamsOpen (within most) (is_open w (file_at m target) x.file.fid true is.at.is has)

    pub cut_plans : n ≤ x.length → is_streamed w (Some x.file.fid) ≡ false → Plans m l w (cuts_and_stamps x.file.fid x.length n w.moment) (length_text n) (x.file.fid ∷ [])
    cut_plans most none =
        let same : the_file m target ≡ x.file.fid = named m target x.file.fid is.at.is in
        let ops : (effect l m w).ops ≡ cuts_and_stamps x.file.fid x.length n w.moment = ap (λ f. cut_ops m f n w.moment) same ∙ ap (λ b. cuts_and_stamps x.file.fid b n w.moment) long in
        let fits : AreOfALine m (cuts_and_stamps x.file.fid x.length n w.moment) = of_a_line m x.file.fid n w.moment (n == x.length) in
        record {
          answers = record {
            unrefused =
                operand_taken l m w target beyond streams taken refl is.taken
                ∙ room_comes beyond streams (by_room m (effect l m w).ops) (within most) (is_open w (file_at m target) x.file.fid false is.at.is none)
                ∙ has_room m (effect l m w).ops (subst (λ o. pages_for_operations m o ≤ room m) (sym ops) fits.room);
            ops_are = ops;
            text_is = refl;
          };
          line = fits;
          among = λ g there. touches_file m target x.file.fid g is.at.is there;
        }

-- ---- once the mark is open
-- a file that may be cut may be cut still
may_cut_still : (p q : Pack) (two : Kept) (x : Measured) (n : ℕ) → MayCutFile p x n → Arrived p q two [] [] → MayCutFile q x n
may_cut_still p q two x n may arrived =
    let found = file_stands_still x.file arrived (λ m. tt) may.found in
    record {
      found = found;
      length = may.length ∙ sym (model_length p x.file may.found) ∙ ap (λ m. length_of m x.file.fid) (sym arrived.reads) ∙ model_length q x.file found;
      within = may.within;
    }

pub cut_opens : (a b d : Taped) (one two three : Kept) (x : Measured) (n moment now : ℕ) → now ≡ moment → (u : Unit {0}) (result : Result (Unit {0}) Stop) → MayCutFile (pack a) x n
    → ((first : Kept) (at : ℕ) → MayStart (pack a) first one at [] → Started a b first two at [] (Ok u)) → (MayCutFile (pack b) x n → StepsOn b d two three (cuts_and_stamps x.file.fid x.length n now) [] (x.file.fid ∷ []) result)
    → WritesAll a d one three (cuts_and_stamps x.file.fid x.length n moment) [] (x.file.fid ∷ []) result
cut_opens a b d one two three x n moment now same u result may starts steps = by (n == x.length) (λ still. subst (λ t. StepsOn b d two three (cuts_and_stamps x.file.fid x.length n t) [] (x.file.fid ∷ []) result) same (steps still))
  where
    by : (own : Bool) → (MayCutFile (pack b) x n → StepsOn b d two three (cond own [] (cut x.file.fid n ∷ []) ++ stamp x.file.fid moment ∷ []) [] (x.file.fid ∷ []) result) → WritesAll a d one three (cond own [] (cut x.file.fid n ∷ []) ++ stamp x.file.fid moment ∷ []) [] (x.file.fid ∷ []) result
    by true go = opens_and_steps a b d one two three (stamp x.file.fid moment) [] [] (x.file.fid ∷ []) u result starts (λ arrived. go (may_cut_still (pack a) (pack b) two x n may arrived))
    by false go = opens_and_steps a b d one two three (cut x.file.fid n) (stamp x.file.fid moment ∷ []) [] (x.file.fid ∷ []) u result starts (λ arrived. go (may_cut_still (pack a) (pack b) two x n may arrived))

-- a file that was measured, of at least as many bytes
pub may_cut : (p q : Pack) (target : Target) (x : Measured) (n : ℕ) → q ≡ p → Sound p → IsMeasured p target x → n ≤ x.length → MayCutFile q x n
may_cut p q target x n same sound is most = subst (λ r. MayCutFile r x n) (sym same) (record { found = is_file p target x sound is; length = is.length; within = most })
