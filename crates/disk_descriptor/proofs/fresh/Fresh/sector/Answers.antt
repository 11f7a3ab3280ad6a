use Rattle.std.proofs.Common.{◌∙◌, ap, sym}
use Rattle.alto_words.specs.Fid.{sys_dir}
use Rattle.disk_records.specs.Packs.{sector_at}
use Rattle.pack_model.specs.sessions.Format.{format_leader, formatted}
use Rattle.laws_format.specs.Writing.{headed}
use Rattle.laws_format.proofs.formatted.Laws.{formatted_sectors_stand}
use Rattle.disk_descriptor.proofs.fresh.Fresh.sector.Goals as goal

pub returns-in-1 : goal.returns-in-1
returns-in-1 c =
    let fresh = c.args.self in
    c.leader.ensures
    ∙ (λ i. headed fresh.shape fresh.number 1 (format_leader fresh.shape sys_dir (c.root_name.ensures i) fresh.moment 1 1 510))
    ∙ sym (formatted_sectors_stand fresh.shape fresh.number fresh.moment).root_leader
    ∙ ap (sector_at (formatted fresh.shape fresh.number fresh.moment)) (sym c.in-1.is)
