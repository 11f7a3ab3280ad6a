-- A line that has only looked: why it isn't done, and that it may write.
use Rattle.std.proofs.Common.{◌≡◌, ◌≢◌, ◌∙◌, ◌++◌, ◌∷◌, ℕ, Bool, IsTrue, List, [], All, AllPairs, Some, Vec, Result, Err, append-nil, ap, refl, sym, subst, true, arith}
use Rattle.std.proofs.lemmas.List.Elements.{All-nil}
use Rattle.std.specs.Result.{IsErrAnd}
use Rattle.alto_words.specs.declared.fid.Fid.{Fid}
use Rattle.alto_words.specs.Fid.{sys_dir}
use Rattle.disk_records.proofs.Growing.{pack-silent}
use Rattle.disk_records.specs.Events.{writes_in}
use Rattle.disk_records.specs.Packs.{AreFormed, Pack, is_free_at}
use Rattle.disk_records.specs.Tapes.{Taped, capped, pack}
use Rattle.exec_words.specs.declared.line.Line.{Line}
use Rattle.exec_words.specs.declared.line.Target.{Target}
use Rattle.exec_words.specs.declared.reply.Refusal.{Refusal}
use Rattle.exec_session.specs.laws_hint.proofs.tables.Laws.{table_without_reserved}
use Rattle.pack_model.specs.hints.Tables.{TableTrue}
use Rattle.pack_model.specs.reading.Model.{read_as}
use Rattle.pack_model.specs.states.Sound.{Sound}
use Rattle.session_model.specs.Keeping.{world_of}
use Rattle.session_model.specs.Operands.{no_directory}
use Rattle.session_model.specs.Replies.{refusal as refusal_to}
use Rattle.session_model.specs.Touched.{files_touched, operand_files}
use Rattle.session_model.specs.Turning.{HintFailing}
use Rattle.exec_session.specs.Found.{files_followed, operand, operand_refusal}
use Rattle.exec_session.specs.Meant.{IfHint, IfRefused, Looked, LooksAbout, MayObey, TakesLine, kept}
use Rattle.exec_session.specs.declared.session.Session.{Session}
use Rattle.exec_session.specs.declared.stop.Stop.{Stop}
use Rattle.exec_session.specs.declared.stop.Stop.TheVariants as stop
use Rattle.exec_session.proofs.Looking.{same_but_looked}
use Rattle.exec_session.proofs.Stopping.{error_is, hint_of_stop, refused_of_stop}
use Rattle.exec_session.proofs.LookedBefore.{same_count}
use Rattle.exec_writing.proofs.Turns.{IsWriting, ReadyToWrite, unwritten_turns}

-- ---- it isn't done
module _ {Z : Type 0} {told : Bool} {most : ℕ} (old new : Taped) (one two : Session) (l : Line) (writing : IsWriting l) (is_told : IsTrue told) (may : MayObey old one l) (about : LooksAbout told most old new one two) where
  -- refused by what it looked at
  pub refused_turns : (x : Refusal) (r : Result (Vec ℕ Z) Stop) → r ≡ Err (stop.Refused x) → (Sound (pack old) → refusal_to l (read_as (pack old)) (world_of (kept one)) ≡ Some x) → TakesLine old new one two l r
  refused_turns x r is refuses =
      let silent = about.looks.silent is_told in
      unwritten_turns old new one two l (stop.Refused x) r is writing may about.looks.alone silent (λ sound. same_but_looked old new about.looked (pack-silent about.looks.alone.grown silent)) refuses (λ sound. tt)

  -- its operand wasn't found, or no length of it
  pub unfound_turns : (T : Type 0) (target : Target) (e : Stop) (r : Result (Vec ℕ Z) Stop) → IsErrAnd r (λ x. x ≡ e) → files_touched l (read_as (pack old)) (world_of (kept one)) ≡ sys_dir ∷ (operand_files (read_as (pack old)) (operand target no_directory) ++ [])
      → (Sound (pack old) → (x : Refusal) → operand_refusal (pack old) (operand target no_directory) ≡ Some x → refusal_to l (read_as (pack old)) (world_of (kept one)) ≡ Some x)
      → (Sound (pack old) → IfRefused {T = T} (Err e) (λ x. operand_refusal (pack old) (operand target no_directory) ≡ Some x)) → (Sound (pack old) → IfHint {T = T} (Err e) (HintFailing (pack old) [] (files_followed (pack old) (operand target no_directory)))) → TakesLine old new one two l r
  unfound_turns T target e r is touches refuses refused hint =
      let p = pack old in
      let silent = about.looks.silent is_told in
      let files : files_followed p (operand target no_directory) ≡ files_touched l (read_as p) (world_of (kept one)) = sym (touches ∙ ap (λ (fs : List Fid). sys_dir ∷ fs) (append-nil (operand_files (read_as p) (operand target no_directory)))) in
      unwritten_turns old new one two l e r (error_is r is) writing may about.looks.alone silent (λ sound. same_but_looked old new about.looked (pack-silent about.looks.alone.grown silent))
      (λ sound. refused_of_stop T {U = Unit {0}} (λ x. operand_refusal p (operand target no_directory) ≡ Some x) (λ x. refusal_to l (read_as p) (world_of (kept one)) ≡ Some x) e (Err e) refl (refuses sound) (refused sound))
      (λ sound. hint_of_stop T {U = Unit {0}} (HintFailing p [] (files_followed p (operand target no_directory))) (HintFailing p [] (files_touched l (read_as p) (world_of (kept one)))) e (Err e) refl
      (λ place at wanted found h. subst (λ fs. HintFailing p [] fs place at wanted found) files h) (hint sound))

-- ---- it may write
none_free : (p : Pack) → All (λ i. is_free_at p i ≡ true) [] × AllPairs {X = ℕ} (λ i j. i ≢ j) []
none_free p = (All-nil (λ i. is_free_at p i ≡ true), λ i j d lt within. absurd (omega (arith, within)))

-- hints alone are others
pub hints_alone : {one now : Session} → Looked one now → now ≡ record one { hints = now.hints }
hints_alone {one} {now} looked = looked.same ∙ ap (λ h. record one { hints = h }) (sym (ap (λ (s : Session). s.hints) looked.same))

pub ready_looked : {told : Bool} {most : ℕ} (old mid : Taped) (one now : Session) → IsTrue told → LooksAbout told most old mid one now → old.writes ≡ capped (writes_in old.events) → mid.writes ≡ capped (writes_in mid.events) → AreFormed (pack mid) → ReadyToWrite old mid one now []
ready_looked old mid one now told about first next formed =
    let silent = about.looks.silent told in
    record {
      looked = about.looks.alone;
      silent = silent;
      writes = same_count old mid about.looks.alone silent first next;
      formed = formed;
      same = hints_alone about.looked;
      free = λ sound. none_free (pack old);
      table = λ sound was. (table_without_reserved (pack old) now.hints.table).reserves (subst (TableTrue (pack old)) (sym (ap (λ (s : Session). s.hints.table) about.looked.same)) was);
    }
