use Rattle.std.proofs.Common.{◌≡◌, ◌+◌, length, arith, vec_len}
use Rattle.disk_image.specs.Images.{first_drive}
use Rattle.disk_image.proofs.Pairs.{images_read}
use Rattle.disk_image.proofs.pair.decode_two.Goals as goal

pub returns-clause-ok : goal.returns-clause-ok
returns-clause-ok c =
    let shape = c.in_ok-shape.shape in
    let n = vec_len c.in-Ok.sectors in
    let m = vec_len c.read_sectors.new.sectors in
    let one = c.read_sectors.new.sectors.items in
    let both = c.read_sectors-2.new.sectors.items in
    let half : m ≡ n + first_drive shape = omega (arith, c.drive_sectors.ensures, c.read_sectors.ensures.count) in
    let all : length both ≡ m + first_drive shape = omega (arith, c.drive_sectors-2.ensures, c.read_sectors-2.ensures.count) in
    images_read shape n m one both c.args.first.now c.args.second.now c.in_ok-shape.ensures.disks c.in-Ok.ensures.len half c.read_sectors.ensures.whole c.read_sectors.ensures.bytes all c.read_sectors-2.ensures.kept c.read_sectors-2.ensures.whole c.read_sectors-2.ensures.bytes
