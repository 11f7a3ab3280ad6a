use Rattle.std.proofs.Common.{◌∙◌, ap, sym, cond, Some, None}
use Rattle.pack_model.specs.reading.Namings.{descriptor_name}
use Rattle.scav_pages.proofs.Fresh.{its_is_stored}
use Rattle.scav_pages.proofs.root.descriptor_name.Goals as goal

pub unreachable-requires : goal.unreachable-requires
unreachable-requires c =
    let is = sym c.in-None.is ∙ c.stored.ensures ∙ ap (λ b. cond b (Some descriptor_name) None) its_is_stored in
    absurd cc
