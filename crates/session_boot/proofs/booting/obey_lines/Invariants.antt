use Rattle.std.proofs.Common.{◌≡◌, ◌<◌, ◌^◌, ℕ, IsTrue, length}
use Rattle.disk_records.specs.declared.records.Tally.{Tally}
use Rattle.disk_records.specs.Frames.{WritesUsable}
use Rattle.disk_records.specs.Tapes.{Grown, Taped, pack}
use Rattle.exec_session.specs.Meant.{kept}
use Rattle.executive.specs.pack_model.specs.states.Sound.{Sound}
use Rattle.session_model.specs.Keeping.{Formed}
use Rattle.session_model.specs.Opening.{Begun}
use Rattle.session_boot.specs.Boots.{OpenedBy}
use Rattle.session_boot.specs.Faults.{NoFault}
use Rattle.session_boot.proofs.SoFar.{SoFar}
use Rattle.session_boot.proofs.Unread.{Unread}
use Rattle.session_boot.proofs.booting.obey_lines.Given as goal

abbrev pub invariant-lines : goal.invariant-lines
invariant-lines g l =
    let old = g.M.Tape.tape l.fn.machine in
    let now = g.M.Tape.tape l.machine in
    record {
      frame : WritesUsable g.M.Tape.told old now;
      grown : Grown old now;
      unfailed : NoFault old now;
      unread : IsTrue g.M.Tape.told → Unread old now (kept l.fn.session) (kept l.session);
      room : 4097 < length l.buffer;
      formed : Formed now.form (kept l.session);
      limit : (kept l.session).tally.limit ≡ (kept l.fn.session).tally.limit;
      so_far : IsTrue g.M.Tape.told → (moment : ℕ) (first : Taped) (given : Tally) → given.limit < 2 ^ 64 → OpenedBy first old → Sound (pack first) → Begun (pack first) (kept l.fn.session) moment given.limit → SoFar moment first given now (kept l.session) l.left l.counter;
    }
