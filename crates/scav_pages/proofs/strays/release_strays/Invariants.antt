use Rattle.std.proofs.Common.{◌≡◌, ◌<◌, IsTrue}
use Rattle.disk_records.specs.Addresses.{pages_of}
use Rattle.disk_records.specs.Causes.{Unfailed}
use Rattle.disk_records.specs.Frames.{WritesUsable}
use Rattle.disk_records.specs.Tapes.{DiskAlone, pack}
use Rattle.pack_model.specs.reading.Sights.{sights}
use Rattle.pack_model.specs.states.Sentences.{EachOnce}
use Rattle.scav_pages.proofs.Straying.{StraysTo}
use Rattle.scav_pages.proofs.strays.release_strays.Given as goal

abbrev pub invariant-loop-at : goal.invariant-loop-at
invariant-loop-at g l =
    let old = g.D.Tape.tape l.fn.disk in
    let now = g.D.Tape.tape l.disk in
    record {
      end : l.end ≡ pages_of old.form;
      few : l.freed < l.at;
      alone : DiskAlone old now;
      unfailed : Unfailed old now;
      frame : WritesUsable g.D.Tape.told old now;
      released : IsTrue g.D.Tape.told → EachOnce (sights (pack old)) → StraysTo old now l.at l.freed;
    }
