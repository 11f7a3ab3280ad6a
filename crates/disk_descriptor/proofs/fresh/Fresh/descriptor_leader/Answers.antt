use Rattle.std.proofs.Common.{◌∙◌, ◌%◌}
use Rattle.alto_words.specs.Fid.{disk_descriptor}
use Rattle.pack_model.specs.sessions.Format.{format_leader}
use Rattle.laws_format.specs.Writing.{headed}
use Rattle.disk_descriptor.proofs.fresh.Fresh.descriptor_leader.Goals as goal

pub returns : goal.returns
returns c =
    let fresh = c.args.self in
    c.leader.ensures
    ∙ (λ i. headed fresh.shape fresh.number 3 (format_leader fresh.shape disk_descriptor (c.descriptor_name.ensures i) fresh.moment 3 (c.data_pages-pages.ensures.pages i) (c.descriptor_length.ensures i % c.from.ensures i)))
