use Rattle.std.proofs.Common.{◌≤◌, take, IsTrue}
use Rattle.disk_records.specs.Tapes.{KeysAlone}
use Rattle.session_boot.specs.Faults.{NoFault}
use Rattle.session_boot.proofs.Typing.{Taking}
use Rattle.session_boot.proofs.keys.take_line.Given as goal

abbrev pub invariant-loop-left : goal.invariant-loop-left
invariant-loop-left g l = record {
  alone : KeysAlone (g.C.Tape.tape l.fn.console) (g.C.Tape.tape l.console);
  unfailed : NoFault (g.C.Tape.tape l.fn.console) (g.C.Tape.tape l.console);
  answered : g.C.Console.waits l.console → g.C.Console.displayed l.console;
  left : l.left ≤ l.fn.left;
  short : l.kept ≤ 4097;
  line : IsTrue g.C.Tape.told → Taking (g.C.Tape.tape l.fn.console).keys (g.C.Tape.tape l.console).keys l.fn.left l.left (take l.kept l.buffer);
}

abbrev pub decreases-loop-left : goal.decreases-loop-left
decreases-loop-left g l = l.left
