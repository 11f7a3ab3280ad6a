use Rattle.std.proofs.Common.{◌+◌, ◌-◌, length, arith}
use Rattle.disk_image.proofs.KeysOfLine.{unbroken_before}
use Rattle.disk_image.proofs.machine.keys_of_line.Goals as goal

pub returns-in-Some-clause-unbroken : goal.returns-in-Some-clause-unbroken
returns-in-Some-clause-unbroken c =
    let end = c.in-Some.end in
    unbroken_before (end + 1 - 1) end c.args.keys.now (omega arith) c.in-Some.ensures.0.before

pub returns-in-None-clause-unbroken : goal.returns-in-None-clause-unbroken
returns-in-None-clause-unbroken c =
    let all = length c.args.keys.now in
    unbroken_before (all - 1) all c.args.keys.now (omega arith) c.in-None.ensures
