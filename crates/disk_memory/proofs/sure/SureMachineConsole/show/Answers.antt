use Rattle.std.proofs.Common.{refl}
use Rattle.disk_memory.proofs.Adding.{show_alone, has_shown}
use Rattle.disk_memory.proofs.sure.SureMachineConsole.show.Goals as goal

pub returns-in-Ok-clause-alone : goal.returns-in-Ok-clause-alone
returns-in-Ok-clause-alone c = show_alone c.in-Ok.ensures.ok refl refl c.add_shown.ensures.writes

pub returns-in-Ok-clause-shown : goal.returns-in-Ok-clause-shown
returns-in-Ok-clause-shown c = λ told. has_shown c.args.bytes.now c.in-Ok.ensures.ok
