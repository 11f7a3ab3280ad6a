use Rattle.std.proofs.Common.{rules}
use Rattle.disk_image.proofs.Pairs.{images_written}
use Rattle.disk_image.proofs.pair.encode_two.Goals as goal

pub returns : goal.returns
returns c = images_written c.args.shape c.args.sectors.now c.split_at.result.0.now c.split_at.result.1.now c.in_ok-first.first.items c.in_ok-second.second.items c.requires.two c.requires.count (search rules) (search rules) c.in_ok-first.ensures.whole c.in_ok-second.ensures.whole c.in_ok-first.ensures.bytes c.in_ok-second.ensures.bytes
