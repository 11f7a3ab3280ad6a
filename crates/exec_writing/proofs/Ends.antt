-- A line on files as a turn of the session: as it begins, when it is stopped before it wrote, and at its end.
use Rattle.std.proofs.Common.{◌≡◌, ℕ, Bool, false, [], Some, Vec, Result, Ok, Err, ◌-◌, sym, subst, ap, ◌∙◌}
use Rattle.std.specs.Prelude.{IsTrue}
use Rattle.std.specs.Result.{IsErrAnd}
use Rattle.disk_records.proofs.Growing.{pack-silent}
use Rattle.disk_records.specs.Packs.{AreFormed, Pack}
use Rattle.disk_records.specs.Tapes.{DiskAlone, Taped, added, pack}
use Rattle.exec_words.specs.declared.line.Line.{Line}
use Rattle.exec_words.specs.declared.reply.Reply.{Reply}
use Rattle.exec_words.specs.declared.reply.Reply.TheVariants as reply
use Rattle.exec_session.specs.laws_contents.proofs.pages.Laws.{formed_pages_have_256_words}
use Rattle.exec_session.specs.laws_session.specs.LineAnswers.{GoesOnWith}
use Rattle.pack_model.specs.reading.Files.{first}
use Rattle.pack_model.specs.reading.Model.{Model, read_as}
use Rattle.pack_model.specs.sessions.Descriptor.{DescriptorFits}
use Rattle.pack_model.specs.states.Sound.{Sound}
use Rattle.session_model.specs.Answering.{TakesTurn}
use Rattle.session_model.specs.Bounds.{DoneWithin}
use Rattle.session_model.specs.Effects.{effect}
use Rattle.session_model.specs.Keeping.{Keeping, Kept}
use Rattle.session_model.specs.Refusals.{by_operands, is_obeyed_in_need}
use Rattle.session_model.specs.Replies.{refusal as refusal_to, unless_refused}
use Rattle.session_model.specs.Touched.{files_named, files_touched}
use Rattle.session_model.specs.Turning.{HintFailing, IsTakenUp, State, cue_files, is_quit, is_scavenge, typed}
use Rattle.session_model.specs.Worlds.{World}
use Rattle.exec_session.proofs.Looking.{same_but_looked, stays_looked}
use Rattle.exec_session.proofs.Stopping.{error_is}
use Rattle.exec_session.proofs.TakingUp.{few_none, goes_on, need_none, plain_text}
use Rattle.exec_session.proofs.Turning.{line_is_refused, line_stops_unwritten, turned_is_a_turn}
use Rattle.exec_session.specs.Meant.{IfHint, IfRefused, IsTakenUpBy, Looked, LooksAbout, MayObey, TakesLine, kept, kept_replied, kept_stopped, replied, stopped}
use Rattle.exec_session.specs.Turned.{Begins, SameBut, Turned}
use Rattle.exec_session.specs.declared.session.Session.{Session}
use Rattle.exec_session.specs.declared.stop.Stop.{Stop}
use Rattle.exec_session.specs.declared.stop.Stop.TheVariants as stop
use Rattle.exec_writing.proofs.NewSectors.{refused_then}
use Rattle.exec_session.specs.laws_session.specs.RefusedLaws.{first_of}
use Rattle.exec_writing.proofs.Reasons.{refused_by_operands}
use Rattle.exec_writing.specs.Entries.{OperandsRefuse}
use Rattle.exec_writing.specs.Writes.{IsWritten}
use Rattle.exec_session.proofs.LookedBefore.{looked_before}
use Rattle.exec_writing.proofs.Writing.{kept_before}

-- ---- lines on files
-- It goes on with the session, isn't obeyed while a scavenge is needed, follows hints of the files that it names, and has no bound on sector
-- commands.
pub record IsOnFiles (l : Line) : Type 0 where
  pub quit : is_quit l ≡ false
  pub scavenge : is_scavenge l ≡ false
  pub needs : is_obeyed_in_need l ≡ false
  pub touched : (m : Model) (w : World) → files_touched l m w ≡ files_named l m
  pub few : (p : Pack) (m : Model) (n : ℕ) → DoneWithin p m l n

-- ---- as it begins, and once it has looked
pub taken : (old : Taped) (zero : Session) (l : Line) → MayObey old zero l → (s : State) → Keeping (pack old) (kept zero) s → IsTakenUp s (typed l)
taken old zero l may s keeping = subst (λ w. IsTakenUpBy w l) (sym keeping.world) may.taken_up

-- the files that it touches
pub files_are : (l : Line) (s : State) → IsTakenUp s (typed l) → cue_files s (typed l) ≡ files_touched l s.model s.world
files_are l s up = ap (λ r. unless_refused r (files_touched l s.model s.world) []) up

module _ (old mid : Taped) (zero one : Session) (l : Line) (on : IsOnFiles l) (may : MayObey old zero l) (s : State) (keeping : Keeping (pack old) (kept zero) s) where
  up : IsTakenUp s (typed l)
  up = taken old zero l may s keeping

  unneeded : zero.need ≡ false
  unneeded = sym (ap (λ w. w.need) keeping.world) ∙ need_none l s.world on.needs up

  pub begins_at : AreFormed (pack mid) → pack mid ≡ pack old → Looked zero one → Begins mid (kept one) s l
  begins_at formed same looked = subst (λ k. Begins mid (kept k) s l) (sym looked.same) (record {
    keeping = subst (λ p. Keeping p (kept (record zero { hints = record { cache = one.hints.cache; table = zero.hints.table } })) s) (sym same)
        (record {
          begins = keeping.begins;
          world = keeping.world;
          stands = keeping.stands;
          cut = keeping.cut;
          descriptor = keeping.descriptor;
          fits = keeping.fits;
          refs = keeping.refs;
        });
    unneeded = unneeded;
    stays = goes_on l s on.quit on.scavenge;
    taken_up = up;
    full = λ i page e. formed_pages_have_256_words (pack mid) i page formed e;
  })

-- ---- stopped before it wrote
pub stops_unwritten : (T : Type 0) (old new : Taped) (one two : Kept) (s : State) (l : Line) (e : Stop) → Keeping (pack old) one s → GoesOnWith s l → IsTakenUp s (typed l) → DiskAlone old new → added old new ≡ [] → SameBut old new one two
    → IfRefused {T = T} (Err e) (λ r. refusal_to l s.model s.world ≡ Some r) → IfHint {T = T} (Err e) (HintFailing (pack old) [] (cue_files s (typed l))) → Turned old new one (kept_stopped e two) s l (stopped e)
stops_unwritten T old new one two s l (stop.Refused r) keeping goes taken alone silent same refused hint = line_is_refused old new one two s l r keeping refused alone silent same
stops_unwritten T old new one two s l (stop.Misled place at wanted found) keeping goes taken alone silent same refused hint = line_stops_unwritten old new one two s l (stop.Misled place at wanted found) keeping goes taken alone silent same tt hint
stops_unwritten T old new one two s l stop.DiskFault keeping goes taken alone silent same refused hint = line_stops_unwritten old new one two s l stop.DiskFault keeping goes taken alone silent same tt tt
stops_unwritten T old new one two s l stop.Memory keeping goes taken alone silent same refused hint = line_stops_unwritten old new one two s l stop.Memory keeping goes taken alone silent same tt tt

-- ---- its end
pub as_turn : (old new : Taped) (one two : Kept) (s : State) (l : Line) (r : Reply) → IsOnFiles l → Turned old new one two s l r → TakesTurn old new one two s (typed l) r
as_turn old new one two s l r on t = turned_is_a_turn old new one two s l r t (λ handy none. few_none l on.few (pack old) s.model r (new.runs - old.runs))

-- what it wrote after it had looked
pub as_turn_after : (old mid new : Taped) (zero one : Session) (two : Kept) (s : State) (l : Line) (r : Reply) → IsOnFiles l → DiskAlone old mid → DiskAlone mid new → added old mid ≡ [] → mid.writes ≡ old.writes → Looked zero one
    → Turned mid new (kept one) two s l r → TakesTurn old new (kept zero) two s (typed l) r
as_turn_after old mid new zero one two s l r on first next silent writes looked t =
    as_turn old new (kept zero) two s l r on
    (looked_before old mid new (kept zero) two s l r first next silent writes
    (kept_before mid new (kept zero) (kept one) two s l r (ap (λ k. k.tally) looked.same) (ap (λ k. k.hints.table) looked.same) t))

-- ---- as it ends from its beginning
-- its operands refuse it, or it stopped as they were found
pub planning_stops : (T : Type 0) {Z : Type 0} {told : Bool} {most : ℕ} (old new : Taped) (zero one : Session) (l : Line) (e : Stop) (r : Result (Vec ℕ Z) Stop) → IsOnFiles l → IsTrue told → MayObey old zero l → LooksAbout told most old new zero one → IsErrAnd r (λ x. x ≡ e)
    → (Sound (pack old) → IfRefused {T = T} (Err e) (OperandsRefuse (pack old) l)) → (Sound (pack old) → IfHint {T = T} (Err e) (HintFailing (pack old) [] (files_named l (read_as (pack old))))) → TakesLine old new zero one l r
planning_stops T {Z} old new zero one l e r on told may about is refused hint = λ s keeping.
    let w = s.world in
    let up = taken old zero l may s keeping in
    let need : w.need ≡ false = need_none l w on.needs up in
    let sound = keeping.stands.sound need in
    let reads = keeping.stands.reads need in
    let silent = about.looks.silent told in
    subst (λ (y : Result (Vec ℕ Z) Stop). TakesTurn old new (kept zero) (kept_replied y (kept one)) s (typed l) (replied y)) (sym (error_is r is))
    (as_turn old new (kept zero) (kept_stopped e (kept one)) s l (stopped e) on
    (stops_unwritten T old new (kept zero) (kept one) s l e keeping (goes_on l s on.quit on.scavenge) up about.looks.alone silent (same_but_looked old new about.looked (pack-silent about.looks.alone.grown silent))
    (refused_then {T = T} (OperandsRefuse (pack old) l) (λ x. refusal_to l s.model w ≡ Some x) (Err e) (λ x h. refused_by_operands l s.model w x up (ap (λ m. first_of (by_operands l m)) (sym reads) ∙ h)) (refused sound))
    (subst (λ files. IfHint {T = T} (Err e) (HintFailing (pack old) [] files)) (ap (λ m. files_named l m) reads ∙ sym (on.touched s.model w) ∙ sym (files_are l s up)) (hint sound))))

-- it wrote after it had looked
module _ {told : Bool} {most : ℕ} (old mid new : Taped) (zero one two : Session) (l : Line) (on : IsOnFiles l) (is_told : IsTrue told) (may : MayObey old zero l) (about : LooksAbout told most old mid zero one) (next : DiskAlone mid new) (writes : mid.writes ≡ old.writes) (formed : AreFormed (pack mid)) where
  begun : (s : State) → Keeping (pack old) (kept zero) s → Begins mid (kept one) s l
  begun s keeping = begins_at old mid zero one l on may s keeping formed (pack-silent about.looks.alone.grown (about.looks.silent is_told)) about.looked

  pub writing_ends : {Z : Type 0} (r : Result (Vec ℕ Z) Stop) → ((s : State) → Begins mid (kept one) s l → Turned mid new (kept one) (kept_replied r (kept two)) s l (replied r)) → TakesLine old new zero two l r
  writing_ends r h = λ s keeping.
      as_turn_after old mid new zero one (kept_replied r (kept two)) s l (replied r) on about.looks.alone next (about.looks.silent is_told) writes about.looked (h s (begun s keeping))

  pub writing_stops : {Z : Type 0} (e : Stop) (r : Result (Vec ℕ Z) Stop) → IsErrAnd r (λ x. x ≡ e) → ((s : State) → Begins mid (kept one) s l → Turned mid new (kept one) (kept_stopped e (kept two)) s l (stopped e)) → TakesLine old new zero two l r
  writing_stops {Z} e r is h = writing_ends r (λ s b. subst (λ (y : Result (Vec ℕ Z) Stop). Turned mid new (kept one) (kept_replied y (kept two)) s l (replied y)) (sym (error_is r is)) (h s b))

  -- no memory is left for its text
  pub text_missing : {Z : Type 0} (r : Result (Vec ℕ Z) Stop) → IsErrAnd r (λ x. x ≡ stop.Memory) → ((s : State) → Begins mid (kept one) s l → IsWritten mid new (kept one) (kept two) s l) → TakesLine old new zero two l r
  text_missing r is h = writing_stops stop.Memory r is (λ s b. (h s b).memory)

  -- its text is made
  pub writing_done : {Z : Type 0} (text : Vec ℕ Z) → ((s : State) → Begins mid (kept one) s l → IsWritten mid new (kept one) (kept two) s l) → ((s : State) → Begins mid (kept one) s l → text.items ≡ (effect l s.model s.world).text) → TakesLine old new zero two l (Ok text)
  writing_done text h says = writing_ends (Ok text) (λ s b. subst (Turned mid new (kept one) (kept two) s l) (plain_text l s on.quit (h s b).unrefused ∙ ap reply.Done (sym (says s b))) ((h s b).plain mid.form (stays_looked old mid about.looked about.looks.alone.grown.form may.formed).formed))

-- ---- what is known as it begins
begins_needless : {t : Taped} {k : Kept} {s : State} {l : Line} → Begins t k s l → s.world.need ≡ false
begins_needless b = ap (λ w. w.need) b.keeping.world ∙ b.unneeded

pub begins_model : {t : Taped} {k : Kept} {s : State} {l : Line} → Begins t k s l → read_as (pack t) ≡ s.model
begins_model b = b.keeping.stands.reads (begins_needless b)

pub begins_sound : {t : Taped} {k : Kept} {s : State} {l : Line} → Begins t k s l → Sound (pack t)
begins_sound b = b.keeping.stands.sound (begins_needless b)

-- what is kept of DiskDescriptor fits, and the last serial is the model's
pub begins_fits : {t : Taped} {k : Kept} {s : State} {l : Line} → Begins t k s l → DescriptorFits (pack t) k.shape k.last k.mark k.pages
begins_fits b = b.keeping.descriptor b.unneeded

pub begins_last : {t : Taped} {k : Kept} {s : State} {l : Line} → Begins t k s l → k.last ≡ s.model.last
begins_last b = sym (begins_fits b).last_is ∙ ap (λ m. m.last) (begins_model b)
