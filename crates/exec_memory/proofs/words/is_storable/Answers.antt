use Rattle.std.proofs.Common.{sym, subst, ap, ◌∙◌}
use Rattle.session_model.specs.world_model.specs.ZoneWords.{IsMemory, is_inside}
use Rattle.zones.specs.laws_zone.specs.Filling.{IsTop}
use Rattle.exec_memory.proofs.Worlds.{top_of}
use Rattle.exec_memory.proofs.words.is_storable.Goals as goal

pub inside-requires : goal.inside-requires
inside-requires c = record {
  top = subst IsTop (sym c.base_of.ensures) (top_of c.args.world.now.level c.args.world.now.memory c.requires);
  memory = subst (λ m. IsMemory c.base_of.result m) (sym c.as_slice.ensures) (subst (λ t. IsMemory t c.args.world.now.memory) (sym c.base_of.ensures) c.requires.memory_is);
}

pub returns : goal.returns
returns c =
    c.inside.ensures
    ∙ ap (λ m. is_inside c.base_of.result m c.args.at) c.as_slice.ensures
    ∙ ap (λ t. is_inside t c.args.world.now.memory c.args.at) c.base_of.ensures
