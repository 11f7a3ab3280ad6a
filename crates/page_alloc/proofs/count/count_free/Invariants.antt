use Rattle.std.proofs.Common.{◌≡◌, ◌-◌, ◌<◌, IsTrue, length}
use Rattle.disk_records.specs.Addresses.{pages_of}
use Rattle.disk_records.specs.Causes.{Unfailed}
use Rattle.disk_records.specs.Packs.{is_free_at}
use Rattle.disk_records.specs.Tapes.{Looks, pack}
use Rattle.page_alloc.specs.Free.{below}
use Rattle.page_alloc.proofs.count.count_free.Given as goal

abbrev pub invariant-loop-at : goal.invariant-loop-at
invariant-loop-at g l =
    let old = g.D.Tape.tape l.fn.disk in
    let now = g.D.Tape.tape l.disk in
    record {
      looks : Looks g.D.Tape.told (l.at - 1) old now;
      unfailed : Unfailed old now;
      end : l.end ≡ pages_of old.form;
      few : l.free < l.at;
      counted : IsTrue g.D.Tape.told → l.free ≡ length (below (is_free_at (pack old)) l.at);
    }
