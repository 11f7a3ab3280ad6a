use Rattle.std.proofs.Common.{◌∙◌}
use Rattle.std.proofs.lemmas.List.{length-take-le}
use Rattle.disk_image.proofs.Fronts.{front_read}
use Rattle.disk_image.proofs.records.read_front.Goals as goal

pub returns : goal.returns
returns g c = front_read _ _ c.args.plan c.read_sector.result c.read_exact.new.buf _ c.requires c.read_sector.ensures.whole (c.read_exact.auto.buf ∙ length-take-le c.front_length.result _ c.front_length.ensures.most ∙ c.front_length.ensures.length) c.read_sector.ensures.bytes c.in_ok-read_exact.ensures.bytes
