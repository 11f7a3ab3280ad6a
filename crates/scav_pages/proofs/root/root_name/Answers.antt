use Rattle.std.proofs.Common.{◌∙◌, ap, sym, cond, Some, None}
use Rattle.pack_model.specs.reading.Namings.{sys_dir_name}
use Rattle.scav_pages.proofs.Fresh.{root_is_stored}
use Rattle.scav_pages.proofs.root.root_name.Goals as goal

pub unreachable-requires : goal.unreachable-requires
unreachable-requires c =
    let is = sym c.in-None.is ∙ c.stored.ensures ∙ ap (λ b. cond b (Some sys_dir_name) None) root_is_stored in
    absurd cc
