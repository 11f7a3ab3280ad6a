-- What the model has of a file that was found: its length, its leader, its bytes.
use Rattle.std.proofs.Common.{◌≡◌, ℕ, Bool, true, false, List, Option, Some, None, refl, sym, ap, ◌∙◌}
use Rattle.std.specs.FinMap.{get}
use Rattle.std.specs.Option.{is_some, unwrap_or}
use Rattle.alto_words.specs.declared.fid.Fid.{Fid}
use Rattle.alto_words.specs.Fid.{disk_descriptor, is_directory, is_fid, sys_dir}
use Rattle.disk_records.specs.Packs.{Pack}
use Rattle.exec_words.specs.Texts.{stat_text, type_text}
use Rattle.exec_words.specs.declared.line.Line.TheVariants as line
use Rattle.exec_words.specs.declared.line.Target.{Target}
use Rattle.exec_words.specs.declared.reply.Refusal.TheVariants as refusal
use Rattle.exec_session.specs.laws_contents.proofs.model.Laws.{directory_is_its_pages, leader_is_its_value, model_lengths_are_of_bytes, ordinary_file_is_its_pages}
use Rattle.exec_session.specs.laws_operation.proofs.places.Laws.{carried_in_place, file_lives_in_a_place}
use Rattle.exec_session.specs.laws_operation.specs.ByteLaws.{IsOrdinary}
use Rattle.exec_session.specs.laws_midway.proofs.found.Laws.{found_file_lives}
use Rattle.page_seeking.specs.Refs.{FileIsFrom}
use Rattle.page_seeking.specs.declared.refs.FileRef.{FileRef}
use Rattle.page_seeking.specs.Seeking.{file_length, page_number}
use Rattle.pack_model.specs.operations.Committing.{length_of}
use Rattle.pack_model.specs.reading.Files.{file_bytes, lives, place}
use Rattle.pack_model.specs.reading.Leaders.{Leader}
use Rattle.pack_model.specs.reading.Model.{Model, read_as}
use Rattle.pack_model.specs.reading.Sights.{sights}
use Rattle.pack_model.specs.states.Sound.{Sound}
use Rattle.session_model.specs.Effects.{leader_in, stat_by, stat_of}
use Rattle.session_model.specs.Finding.{file_at, the_file}
use Rattle.session_model.specs.Refusals.{when}
use Rattle.session_model.specs.Streams.{bytes_in, data_in}
use Rattle.session_model.specs.Worlds.{World}
use Rattle.exec_session.specs.Found.{operand, operand_refusal}
use Rattle.exec_session.specs.Meant.{IsTakenUpBy}
use Rattle.session_model.specs.Operands.{no_directory}
use Rattle.executive.specs.Reads.{IsLeaderOf, IsSaid}
use Rattle.executive.proofs.Untaken.{stat_found, stat_refused, type_refused}

pub file_lives : (p : Pack) (file : FileRef) → Sound p → FileIsFrom p file → lives (sights p) file.fid ≡ true
file_lives p file sound from = found_file_lives p file.fid file.leader_at file.from sound.whole sound.tidy from

-- the file that an operand means
pub named : (m : Model) (target : Target) (f : Fid) → file_at m target ≡ Some f → the_file m target ≡ f
named m target f e = ap (λ x. unwrap_or x sys_dir) e

-- ---- `stat`
leader_there : (p : Pack) (f : Fid) (k : Leader) → Sound p → is_fid f disk_descriptor ≡ false → IsLeaderOf p f k → leader_in (get (read_as p).files f) ≡ k
leader_there p f k sound other h = by (is_directory f) refl
  where
    placed : place (sights p) f 0 ≡ Some h.at
    placed = carried_in_place p (page_number f 0) h.at sound.whole h.carries

    by : (b : Bool) → is_directory f ≡ b → leader_in (get (read_as p).files f) ≡ k
    by true e = ap leader_in (directory_is_its_pages p f h.at e placed) ∙ sym h.says
    by false e = ap leader_in (ordinary_file_is_its_pages p f h.at e other placed) ∙ sym h.says

pub stat_said : (p : Pack) (w : World) (target : Target) (f : Fid) (n : ℕ) (k : Leader) → Sound p → IsTakenUpBy w (line.Stat target) → file_at (read_as p) target ≡ Some f → is_fid f disk_descriptor ≡ false → n ≡ file_length p f → IsLeaderOf p f k
    → IsSaid p (line.Stat target) w (stat_text (record { fid = f; length = n; created = k.created; written = k.written; read = k.read; name = k.name }))
stat_said p w target f n k sound taken is other long leads =
    let m = read_as p in
    let living = (leader_is_its_value p f leads.at (carried_in_place p (page_number f 0) leads.at sound.whole leads.carries)).living in
    let same : n ≡ length_of m f = long ∙ sym (model_lengths_are_of_bytes p f sound.whole sound.tidy other living) in
    record {
      unrefused = stat_refused m w target taken ∙ stat_found p target f sound is ∙ ap (λ b. when b refusal.SystemFile) other;
      text_is =
          ap (λ x. stat_text (record { fid = f; length = x; created = k.created; written = k.written; read = k.read; name = k.name })) same
          ∙ ap (λ x. stat_text (stat_by m f x)) (sym (leader_there p f k sound other leads))
          ∙ ap (λ g. stat_text (stat_of m g)) (sym (named m target f is));
    }

-- ---- `type`
is_there : {X : Type 0} (r : Option X) → is_some r ≡ true → (x : X) × (r ≡ Some x)
is_there None e = absurd (let n : false ≡ true = e in cc)
is_there (Some x) e = (x, refl)

bytes_there : (p : Pack) (f : Fid) → IsOrdinary f → lives (sights p) f ≡ true → bytes_in (read_as p) f ≡ file_bytes (sights p) f
bytes_there p f ordinary living =
    let at = is_there (place (sights p) f 0) (sym (file_lives_in_a_place p f) ∙ living) in
    ap data_in (ordinary_file_is_its_pages p f at.0 ordinary.no_directory ordinary.no_descriptor at.1)

pub type_said : (p : Pack) (w : World) (target : Target) (f : Fid) (bytes : List ℕ) → IsTakenUpBy w (line.TypeOut target) → file_at (read_as p) target ≡ Some f → operand_refusal p (operand target no_directory) ≡ None → IsOrdinary f → lives (sights p) f ≡ true → bytes ≡ file_bytes (sights p) f
    → IsSaid p (line.TypeOut target) w (type_text bytes)
type_said p w target f bytes taken is none ordinary living read = record {
  unrefused = type_refused (read_as p) w target taken ∙ none;
  text_is = ap type_text (read ∙ sym (bytes_there p f ordinary living)) ∙ ap (λ g. type_text (bytes_in (read_as p) g)) (sym (named (read_as p) target f is));
}
