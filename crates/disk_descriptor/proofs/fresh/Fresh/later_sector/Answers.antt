use Rattle.std.proofs.Common.{◌≡◌, ◌+◌, ◌-◌, ap, sym, ◌∙◌, arith}
use Rattle.disk_records.specs.Packs.{sector_at}
use Rattle.pack_model.specs.sessions.Format.{formatted}
use Rattle.laws_format.proofs.formatted.Laws.{formatted_sectors_stand}
use Rattle.disk_descriptor.proofs.fresh.Fresh.later_sector.Goals as goal

pub returns-then-at-sectors_used : goal.returns-then-at-sectors_used
returns-then-at-sectors_used c =
    let fresh = c.args.self in
    let n = c.args.at - 4 in
    let at : 4 + n ≡ c.args.at = omega arith in
    c.descriptor_page.ensures ∙ sym ((formatted_sectors_stand fresh.shape fresh.number fresh.moment).its_pages n (omega arith)) ∙ ap (sector_at (formatted fresh.shape fresh.number fresh.moment)) at

pub returns-else-at-sectors_used : goal.returns-else-at-sectors_used
returns-else-at-sectors_used c =
    let fresh = c.args.self in
    c.headed.ensures ∙ sym ((formatted_sectors_stand fresh.shape fresh.number fresh.moment).frees c.args.at (omega arith) c.requires.place)
