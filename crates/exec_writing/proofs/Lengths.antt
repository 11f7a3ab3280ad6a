-- The length of a file that was found, by the model.
use Rattle.std.proofs.Common.{◌≡◌, ◌∙◌, sym, true}
use Rattle.disk_records.specs.Packs.{Pack}
use Rattle.exec_words.specs.declared.line.Target.{Target}
use Rattle.exec_session.specs.laws_contents.proofs.model.Laws.{model_lengths_are_of_bytes}
use Rattle.exec_session.specs.laws_midway.proofs.found.Laws.{found_file_lives}
use Rattle.page_seeking.specs.Refs.{FileIsFrom}
use Rattle.page_seeking.specs.Seeking.{file_length}
use Rattle.page_seeking.specs.declared.refs.FileRef.{FileRef}
use Rattle.pack_model.specs.operations.Committing.{length_of}
use Rattle.pack_model.specs.reading.Files.{lives}
use Rattle.pack_model.specs.reading.Model.{read_as}
use Rattle.pack_model.specs.reading.Sights.{sights}
use Rattle.pack_model.specs.states.Sound.{Sound}
use Rattle.exec_steps.specs.Asked.{IsFile}
use Rattle.exec_writing.specs.Measured.{IsMeasured}
use Rattle.exec_writing.specs.declared.measuring.Measured.{Measured}

pub file_lives : (p : Pack) (file : FileRef) → Sound p → FileIsFrom p file → lives (sights p) file.fid ≡ true
file_lives p file sound from = found_file_lives p file.fid file.leader_at file.from sound.whole sound.tidy from

-- it may be written to
pub is_file : (p : Pack) (target : Target) (m : Measured) → Sound p → IsMeasured p target m → IsFile p m.file
is_file p target m sound is = record {
  stands = record { whole = sound.whole; tidy = sound.tidy; from = is.at.from };
  ordinary = is.ordinary;
  living = file_lives p m.file sound is.at.from;
}

pub model_length : (p : Pack) (file : FileRef) → IsFile p file → length_of (read_as p) file.fid ≡ file_length p file.fid
model_length p file is = model_lengths_are_of_bytes p file.fid is.stands.whole is.stands.tidy is.ordinary.no_descriptor is.living

pub measured_length : (p : Pack) (target : Target) (m : Measured) → Sound p → IsMeasured p target m → m.length ≡ length_of (read_as p) m.file.fid
measured_length p target m sound is = is.length ∙ sym (model_length p m.file (is_file p target m sound is))
