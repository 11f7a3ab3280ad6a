use Rattle.std.proofs.Common.{◌≡◌, ◌*◌, IsTrue, length}
use Rattle.disk_records.specs.Causes.{Unfailed}
use Rattle.disk_records.specs.Tapes.{pack}
use Rattle.pack_model.specs.reading.Files.{file_bytes}
use Rattle.pack_model.specs.reading.Sights.{sights}
use Rattle.pack_model.specs.states.Whole.{Whole}
use Rattle.page_seeking.specs.Seeking.{Quick}
use Rattle.exec_session.specs.Contents.{FewForParts, HasParts}
use Rattle.exec_session.specs.Meant.{LooksAbout}
use Rattle.exec_session.proofs.contents.bytes_of.Given as goal

abbrev pub invariant-loop-k : goal.invariant-loop-k
invariant-loop-k g l =
    let old = g.D.Tape.tape l.fn.disk in
    let now = g.D.Tape.tape l.disk in
    record {
      sized : length l.bytes.items ≡ l.k * 4096;
      looks : LooksAbout g.D.Tape.told (l.k * 65588) old now l.fn.session l.session;
      unfailed : Unfailed old now;
      read : IsTrue g.D.Tape.told → Whole (pack old) → HasParts (file_bytes (sights (pack old)) l.file.fid) l.k l.bytes.items;
      few : IsTrue g.D.Tape.told → Quick (pack old) l.file.fid l.fn.session.hints.cache → FewForParts g.D.Tape.told l.file.fid l.k old now l.fn.session.hints.cache l.session.hints.cache;
    }
