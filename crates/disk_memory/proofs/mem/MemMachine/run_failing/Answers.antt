use Rattle.std.proofs.Common.{◌∙◌, ap, Err}
use Rattle.disk_memory.proofs.Failing.{shortened, alone_failed, ran_failed, ran_want, has_failed, has_wanted}
use Rattle.disk_memory.proofs.mem.MemMachine.run_failing.Goals as goal

pub returns-in-Ok-clause-alone : goal.returns-in-Ok-clause-alone
returns-in-Ok-clause-alone c = let m = c.args.self.now in alone_failed m.disk_faults m.key_faults m.show_faults c.obey.ensures.alone c.fail_disk.ensures.counted c.fail_disk.ensures.more

pub returns-in-Ok-clause-ran : goal.returns-in-Ok-clause-ran
returns-in-Ok-clause-ran c =
    let m = c.args.self.now in
    let all = shortened c.args.at c.args.plan c.args.after c.args.buf.now c.obey.new.buf c.obey.result c.first_writes.ensures c.obey.ensures.ran in
    ran_failed m.disk_faults m.key_faults m.show_faults c.args.at c.args.plan c.args.after c.args.buf.now c.obey.new.buf c.fail_disk.result all c.fail_disk.ensures.counted c.fail_disk.ensures.answer

pub returns-in-Ok-clause-fails : goal.returns-in-Ok-clause-fails
returns-in-Ok-clause-fails c =
    let m = c.args.self.now in
    let all = shortened c.args.at c.args.plan c.args.after c.args.buf.now c.obey.new.buf c.obey.result c.first_writes.ensures c.obey.ensures.ran in
    has_failed m.disk_faults m.key_faults m.show_faults c.args.at c.args.plan c.args.after c.args.buf.now c.fail_disk.result (all.whole c.in-Ok.is) c.fail_disk.ensures.counted c.fail_disk.ensures.answer

pub returns-in-Mismatch-clause-alone : goal.returns-in-Mismatch-clause-alone
returns-in-Mismatch-clause-alone c = let m = c.args.self.now in alone_failed m.disk_faults m.key_faults m.show_faults c.obey.ensures.alone c.fail_disk-in-Mismatch.ensures.counted c.fail_disk-in-Mismatch.ensures.more

pub returns-in-Mismatch-clause-ran : goal.returns-in-Mismatch-clause-ran
returns-in-Mismatch-clause-ran c =
    let m = c.args.self.now in
    let all = shortened c.args.at c.args.plan c.args.after c.args.buf.now c.obey.new.buf c.obey.result c.first_writes.ensures c.obey.ensures.ran in
    ran_failed m.disk_faults m.key_faults m.show_faults c.args.at c.args.plan c.args.after c.args.buf.now c.obey.new.buf c.fail_disk-in-Mismatch.result all c.fail_disk-in-Mismatch.ensures.counted c.fail_disk-in-Mismatch.ensures.answer

pub returns-in-Mismatch-clause-fails : goal.returns-in-Mismatch-clause-fails
returns-in-Mismatch-clause-fails c =
    let m = c.args.self.now in
    let all = shortened c.args.at c.args.plan c.args.after c.args.buf.now c.obey.new.buf c.obey.result c.first_writes.ensures c.obey.ensures.ran in
    has_failed m.disk_faults m.key_faults m.show_faults c.args.at c.args.plan c.args.after c.args.buf.now c.fail_disk-in-Mismatch.result (all.against c.in-Mismatch.part c.in-Mismatch.word (c.in-Err.is ∙ ap Err c.in-Mismatch.is)) c.fail_disk-in-Mismatch.ensures.counted c.fail_disk-in-Mismatch.ensures.answer

pub returns-in-Memory-clause-ran : goal.returns-in-Memory-clause-ran
returns-in-Memory-clause-ran c =
    let m = c.args.self.now in
    let all = shortened c.args.at c.args.plan c.args.after c.args.buf.now c.obey.new.buf c.obey.result c.first_writes.ensures c.obey.ensures.ran in
    ran_want m.disk_faults m.key_faults m.show_faults c.args.at c.args.plan c.args.after c.args.buf.now c.obey.new.buf all (c.in-Err.is ∙ ap Err c.in-Memory.is)

pub returns-in-Memory-clause-fails : goal.returns-in-Memory-clause-fails
returns-in-Memory-clause-fails c =
    let m = c.args.self.now in
    let all = shortened c.args.at c.args.plan c.args.after c.args.buf.now c.obey.new.buf c.obey.result c.first_writes.ensures c.obey.ensures.ran in
    has_wanted m.disk_faults m.key_faults m.show_faults c.args.at c.args.plan c.args.after c.args.buf.now c.obey.new.buf all (c.in-Err.is ∙ ap Err c.in-Memory.is)
