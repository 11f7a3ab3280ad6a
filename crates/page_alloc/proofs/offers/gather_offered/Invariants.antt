use Rattle.std.proofs.Common.{◌≡◌, ℕ, ◌-◌, ◌≤◌, IsTrue, length}
use Rattle.disk_records.specs.Addresses.{pages_of}
use Rattle.disk_records.specs.Causes.{Unfailed}
use Rattle.disk_records.specs.Tapes.{Looks, pack}
use Rattle.hint_cache.specs.Bits.{busy_at}
use Rattle.page_alloc.specs.Free.{below, is_offered, is_offered_free, IsCorrected, IsRising}
use Rattle.page_alloc.specs.Inside.{AreChecked, first_offers}
use Rattle.page_alloc.proofs.offers.gather_offered.Given as goal

abbrev pub invariant-loop-alloc : goal.invariant-loop-alloc
invariant-loop-alloc g l =
    let old = g.D.Tape.tape l.fn.disk in
    let now = g.D.Tape.tape l.disk in
    record {
      looks : Looks g.D.Tape.told (length (below (is_offered l.fn.table) l.from)) old now;
      unfailed : Unfailed old now;
      end : l.end ≡ pages_of old.form;
      sized : length l.table ≡ length l.fn.table;
      offers : first_offers l.offered.offers l.table ≡ l.fn.table;
      first : 1 ≤ l.from;
      within : l.from ≤ length l.table;
      rest : (k : ℕ) → l.from ≤ k → busy_at l.table k ≡ busy_at l.fn.table k;
      rising : IsRising l.from l.offered.found.items;
      most : length l.offered.found.items ≤ l.wanted;
      corrected : IsTrue g.D.Tape.told → IsCorrected (pack old) l.fn.table l.table;
      checked : IsTrue g.D.Tape.told → AreChecked (pack old) l.fn.table l.table l.from;
      found : IsTrue g.D.Tape.told → l.offered.found.items ≡ below (is_offered_free (pack old) l.fn.table) l.from;
    }

abbrev pub decreases-loop-alloc : goal.decreases-loop-alloc
decreases-loop-alloc g l = length l.table - l.from
