use Rattle.std.proofs.Common.{◌+◌, ap, sym, ◌∙◌, rules}
use Rattle.disk_records.specs.Addresses.{pages_of}
use Rattle.disk_records.specs.declared.shape.Shape.{Shape}
use Rattle.pack_model.specs.reading.Sights.{sights}
use Rattle.pack_model.specs.scavenger.Needed.{descriptor_lacks, root_lacks}
use Rattle.scavenger.proofs.Finishing.{finished, root_lives}
use Rattle.scavenger.proofs.counts.Counts.finish.Goals as goal

pub returns-clause-counted : goal.returns-clause-counted
returns-clause-counted c = λ p shape sized is all.
    let lacks = c.system_lacks-lacks.ensures.lacks p shape is (root_lives p c.args.self.now all) in
    finished p c.args.system.now c.args.self.now c.system_lacks-lacks.result c.saturating_add.result c.saturating_add-2.result c.max.result
    (sized ∙ ap pages_of (sym shape)) is all (lacks ∙ ap (λ (s : Shape). root_lacks (sights p) + descriptor_lacks s (sights p)) (sym shape)) c.system_lacks-lacks.ensures.most
    (search rules) (search rules) (search rules)
