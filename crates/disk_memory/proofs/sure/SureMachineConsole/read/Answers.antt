use Rattle.std.proofs.Common.{rules, refl, arith}
use Rattle.disk_memory.proofs.Reading.{has_read}
use Rattle.disk_memory.proofs.sure.SureMachineConsole.read.Goals as goal

pub returns-clause-read : goal.returns-clause-read
returns-clause-read c =
    let m = c.args.self.now in
    has_read m.keys.items m.taken c.min-n.result c.args.buf.now c.copy_from_slice.new.self refl refl (omega arith) (search rules) (λ zero. omega arith)
