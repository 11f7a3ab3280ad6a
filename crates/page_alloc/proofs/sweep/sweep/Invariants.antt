use Rattle.std.proofs.Common.{◌≡◌, ◌<◌, min, IsTrue, length, take}
use Rattle.disk_records.specs.Addresses.{pages_of}
use Rattle.disk_records.specs.Causes.{Unfailed}
use Rattle.disk_records.specs.Packs.{is_free_at}
use Rattle.disk_records.specs.Tapes.{Looks, pack}
use Rattle.page_alloc.specs.Free.{below, IsCorrected, IsRising}
use Rattle.page_alloc.specs.Inside.{is_left}
use Rattle.page_alloc.proofs.sweep.sweep.Given as goal

abbrev pub invariant-loop-at : goal.invariant-loop-at
invariant-loop-at g l =
    let old = g.D.Tape.tape l.fn.disk in
    let now = g.D.Tape.tape l.disk in
    record {
      looks : Looks g.D.Tape.told (length (below (is_left l.offers) l.at)) old now;
      unfailed : Unfailed old now;
      end : l.end ≡ pages_of old.form;
      sized : length l.table ≡ length l.fn.table;
      rising : IsRising l.at l.lowest.items;
      few : l.free < l.at;
      count : length l.lowest.items ≡ min l.wanted l.free;
      corrected : IsTrue g.D.Tape.told → IsCorrected (pack old) l.fn.table l.table;
      free : IsTrue g.D.Tape.told → l.free ≡ length (below (is_free_at (pack old)) l.at);
      lowest : IsTrue g.D.Tape.told → l.lowest.items ≡ take l.wanted (below (is_free_at (pack old)) l.at);
    }
