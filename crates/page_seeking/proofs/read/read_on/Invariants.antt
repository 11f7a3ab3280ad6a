use Rattle.std.proofs.Common.{ℕ, ◌+◌, ◌-◌, ◌*◌, ◌<◌, ◌≤◌, ◌≡◌, ◌⊎◌, List, length, IsTrue}
use Rattle.disk_records.specs.Causes.{Unfailed}
use Rattle.disk_records.specs.Tapes.{pack}
use Rattle.laws_contents.specs.PageLaws.{FullBefore}
use Rattle.pack_model.specs.operations.Committing.{page_of_byte}
use Rattle.pack_model.specs.reading.Files.{file_bytes}
use Rattle.pack_model.specs.reading.Sights.{sights}
use Rattle.pack_model.specs.states.Sentences.{EachOnce}
use Rattle.page_seeking.specs.Parts.{IsReadTo}
use Rattle.page_seeking.specs.Seeking.{page_number}
use Rattle.page_seeking.specs.Inside.{Confirmed, Known, LastListed, Sought}
use Rattle.page_seeking.proofs.read.read_on.Given as goal

abbrev pub invariant-loop-number : goal.invariant-loop-number
invariant-loop-number g l =
    let old = g.D.Tape.tape l.fn.disk in
    let now = g.D.Tape.tape l.disk in
    record {
      low : 512 * (l.number - 1) ≤ l.offset + l.done;
      most : l.done ≤ length l.out;
      placed : (l.done ≡ length l.out) ⊎ (l.offset + l.done ≡ 512 * (l.number - 1) + l.here.info.bytes);
      upto : l.offset + l.done ≤ 512 * (l.number - 1) + l.here.info.bytes;
      sized : length l.out ≡ length l.fn.out;
      start : l.number ≡ l.fn.below.number → (l.here ≡ l.fn.below.found) × (l.cache ≡ l.fn.cache);
      found : l.fn.below.number < l.number → Confirmed g.D.Tape.told (page_number l.fid l.number) old l.fn.cache l.cache l.buf l.here;
      reached : l.fn.below.number < l.number → l.done ≡ length l.out → 512 * (l.number - 1) < l.offset + l.done;
      last : 512 * (l.fn.below.number - 1) ≤ l.offset → l.fn.below.found.info.bytes ≤ 512 → 1 ≤ l.done → (page_of_byte (l.offset + l.done - 1) ≡ l.number) ⊎ ((l.here.info.bytes ≡ 0) × LastListed g.D.Tape.told old l.fid l.fn.below (l.offset + l.done) l.fn.cache l.cache);
      sought : Sought g.D.Tape.told (l.number - l.fn.below.number) old now l.fn.cache l.cache;
      unfailed : Unfailed old now;
      known : IsTrue g.D.Tape.told → Known g.D.Tape.told (pack old) old.form (page_number l.fid l.fn.below.number) l.fn.below.found → Known g.D.Tape.told (pack old) old.form (page_number l.fid l.number) l.here;
      before : IsTrue g.D.Tape.told → EachOnce (sights (pack old)) → FullBefore (pack old) l.fid (l.fn.below.number - 1) → Known g.D.Tape.told (pack old) old.form (page_number l.fid l.fn.below.number) l.fn.below.found → FullBefore (pack old) l.fid (l.number - 1);
      read : (first : List ℕ) → IsTrue g.D.Tape.told → EachOnce (sights (pack old)) → FullBefore (pack old) l.fid (l.fn.below.number - 1) → Known g.D.Tape.told (pack old) old.form (page_number l.fid l.fn.below.number) l.fn.below.found → IsReadTo (file_bytes (sights (pack old)) l.fid) l.offset l.fn.front first l.fn.out → IsReadTo (file_bytes (sights (pack old)) l.fid) l.offset l.done first l.out;
    }
