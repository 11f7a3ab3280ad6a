use Rattle.std.proofs.Common.{IsTrue, List, None, length, ℕ, ◌*◌, ◌+◌, ◌<◌, ◌≡◌, ◌≤◌}
use Rattle.disk_records.specs.Causes.{Unfailed}
use Rattle.disk_records.specs.Frames.{IsPageOf, WritesIn}
use Rattle.disk_records.specs.Packs.{Pack}
use Rattle.disk_records.specs.Tapes.{DiskAlone, added, pack}
use Rattle.hint_cache.specs.Caches.{address_in}
use Rattle.page_seeking.specs.Seeking.{page_number}
use Rattle.file_pages.specs.Releasing.{AreAfter, Follows, Halfway, KeepsEachHandy, KeepsOrFrees, ListsNoMore, ListsNoneGone}
use Rattle.file_pages.proofs.releasing.release_rest.Given as goal

abbrev pub invariant-loop-lower : goal.invariant-loop-lower
invariant-loop-lower g l =
    let old = g.D.Tape.tape l.fn.disk in
    let now = g.D.Tape.tape l.disk in
    record {
      alone : DiskAlone old now;
      unfailed : Unfailed old now;
      runs : IsTrue g.D.Tape.told → now.runs + 3 * l.fn.number ≤ old.runs + 3 * l.lower;
      frame : IsTrue g.D.Tape.told → WritesIn (IsPageOf l.fid (pack old)) (added old now);
      bits : IsTrue g.D.Tape.told → KeepsOrFrees (pack now) l.fn.hints.table l.hints.table;
      sized : length l.hints.table ≡ length l.fn.hints.table;
      refused : l.hints.cache.refused ≡ l.fn.hints.cache.refused;
      handy : KeepsEachHandy l.fn.hints.cache l.hints.cache;
      no_more : ListsNoMore l.fn.hints.cache l.hints.cache;
      here : address_in l.hints.cache.entries (page_number l.fid l.fn.number) ≡ address_in l.fn.hints.cache.entries (page_number l.fid l.fn.number);
      gone : IsTrue g.D.Tape.told → ListsNoneGone (pack old) (pack now) l.hints.cache;
      forgotten : (n : ℕ) → l.fn.number < n → n ≤ l.lower → address_in l.hints.cache.entries (page_number l.fid n) ≡ None;
      follows : (p : Pack) → IsTrue g.D.Tape.told → Follows p (pack old) (page_number l.fid l.fn.number) l.fn.at l.fn.info → Follows p (pack now) (page_number l.fid l.lower) l.here l.last;
      halfway : (p : Pack) (pages : List ℕ) → IsTrue g.D.Tape.told → Follows p (pack old) (page_number l.fid l.fn.number) l.fn.at l.fn.info → AreAfter p l.fid l.fn.number pages → Halfway p l.fid l.lower pages old now l.fn.hints.table l.hints.table;
    }
