use Rattle.std.proofs.Common.{◌≡◌, ◌*◌, ◌<◌, ◌≤◌, IsTrue, length}
use Rattle.disk_records.specs.Causes.{Unfailed}
use Rattle.disk_records.specs.Tapes.{Looks, pack}
use Rattle.pack_model.specs.reading.Sights.{sights}
use Rattle.pack_model.specs.states.Sentences.{EachOnce}
use Rattle.page_seeking.specs.Seeking.{KeepsHandy}
use Rattle.disk_descriptor.specs.Fields.{AreSectors}
use Rattle.disk_descriptor.specs.Reading.{HasFirstPage}
use Rattle.disk_descriptor.proofs.PagesRead.{ReadTo}
use Rattle.disk_descriptor.proofs.reading.read_file.Given as goal

abbrev pub invariant-loop-full : goal.invariant-loop-full
invariant-loop-full g l =
    let old = g.D.Tape.tape l.fn.disk in
    let now = g.D.Tape.tape l.disk in
    record {
      many : length l.words ≡ 1280;
      room : length l.pages ≡ 5;
      sectors : AreSectors old.form l.pages;
      looks : Looks g.D.Tape.told (65588 * l.full) old now;
      unfailed : Unfailed old now;
      table : l.hints.table ≡ l.fn.hints.table;
      refused : l.fn.hints.cache.refused ≤ l.hints.cache.refused;
      handy : IsTrue g.D.Tape.told → KeepsHandy (pack old) l.fn.hints.cache l.hints.cache;
      first_page : IsTrue g.D.Tape.told → 0 < l.full → HasFirstPage (pack old) l.file.fid l.words;
      read : IsTrue g.D.Tape.told → EachOnce (sights (pack old)) → ReadTo (pack old) l.file.fid l.full l.words l.pages;
    }
