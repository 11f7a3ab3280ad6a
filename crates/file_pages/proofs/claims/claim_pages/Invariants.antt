use Rattle.std.proofs.Common.{All, IsTrue, length, suc, ◌*◌, ◌+◌, ◌<◌, ◌≡◌, ◌≤◌}
use Rattle.std.specs.Prelude.{Contains}
use Rattle.disk_records.specs.Addresses.{pages_of}
use Rattle.disk_records.specs.Causes.{Unfailed}
use Rattle.disk_records.specs.Frames.{IsFreeSector, WritesIn}
use Rattle.disk_records.specs.Tapes.{DiskAlone, added, pack}
use Rattle.pack_model.specs.operations.Commands.{claims_of, claims_writes}
use Rattle.file_pages.specs.Growing.{CanClaim, IsSector}
use Rattle.file_pages.proofs.ClaimRow.{Midway}
use Rattle.file_pages.proofs.claims.claim_pages.Given as goal

abbrev pub invariant-loop-at : goal.invariant-loop-at
invariant-loop-at g l =
    let a = g.D.Tape.tape l.fn.disk in
    let b = g.D.Tape.tape l.disk in
    record {
      alone : DiskAlone a b;
      unfailed : Unfailed a b;
      frame : IsTrue g.D.Tape.told → WritesIn (IsFreeSector (pack a)) (added a b);
      were_free : IsTrue g.D.Tape.told → All (IsFreeSector (pack a)) l.rest → All (IsFreeSector (pack a)) l.fresh;
      previous : l.previous < pages_of a.form;
      sectors : All (IsSector a.form) l.rest;
      given : All (Contains l.fresh) l.rest;
      numbers : l.before + length l.rest ≡ l.last + length l.fresh;
      small : l.before ≤ 65535;
      midway : IsTrue g.D.Tape.told → CanClaim (pack a) l.last l.bytes l.past l.fresh → Midway (claims_writes (claims_of a.form l.fid (suc l.last) l.last_at l.bytes l.past l.fresh)) (2 * length l.fresh) a b l.fid l.before l.previous l.left l.past l.rest;
    }

abbrev pub decreases-loop-at : goal.decreases-loop-at
decreases-loop-at g l = length l.rest
