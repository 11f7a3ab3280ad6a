use Rattle.std.proofs.Common.{arith, refl, set, sym, subst, ◌∙◌}
use Rattle.laws_zone.specs.world_model.specs.ZoneWords.{IsMemory}
use Rattle.laws_zone.specs.Filling.{IsTop}
use Rattle.laws_zone.proofs.words.Laws.{stores_inside_leave_a_memory}
use Rattle.zones.proofs.tests.store.Goals as goal

top_is : IsTop 40960
top_is = record { after = omega arith; even = refl; most = omega arith }

pub returns : goal.returns
returns c =
    subst (λ k. IsMemory 40960 (set c.args.memory.now k c.args.word)) (sym c.from.ensures)
    (stores_inside_leave_a_memory 40960 c.args.at c.args.word c.args.memory.now top_is c.requires (sym c.inside.ensures ∙ c.if-not-inside.false))
