use Rattle.std.proofs.Common.{◌+◌, ◌*◌, ◌/◌, ◌%◌}
use Rattle.disk_records.specs.Addresses.{real_of}
use Rattle.disk_records.proofs.shape.Shape.real_of.Goals as goal

pub returns : goal.returns
unfolding real_of
returns c = λ i. c.args.at % 12 * 4096 + c.arm_of-disk.ensures.own i * 8 + c.args.at / 12 % 2 * 4 + c.arm_of-disk.ensures.disk i * 2
