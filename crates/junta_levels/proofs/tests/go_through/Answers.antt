use Rattle.std.proofs.Common.{◌≡◌, ◌∙◌, ◌≤◌, arith, length-set, refl, set, subst, sym}
use Rattle.zones.specs.world_model.specs.Levels.{all_levels}
use Rattle.zones.specs.world_model.specs.ZoneWords.{IsMemory, first_broken}
use Rattle.zones.specs.laws_zone.proofs.levels.Laws.{bases_end_zones}
use Rattle.zones.proofs.Checking.{ok_is_none}
use Rattle.junta_levels.proofs.tests.go_through.Goals as goal

eight_is_a_level : 8 ≤ all_levels
eight_is_a_level = let all : all_levels ≡ 8 = refl in omega (arith, all)

pub check_zone-requires-clause-after_start : goal.check_zone-requires-clause-after_start
check_zone-requires-clause-after_start g c =
    let base = c.base_of.ensures in
    let after = (bases_end_zones 8 eight_is_a_level).after in
    omega (arith, base, after)

pub call_all-requires : goal.call_all-requires
call_all-requires g c =
    let memory = set c.args.memory.now 1024 39936 in
    record {
      least = omega arith;
      most = eight_is_a_level;
      memory_is = subst (λ k. IsMemory k (set c.args.memory.now 1024 39936)) c.base_of.ensures (record {
        words = length-set c.args.memory.now 1024 39936 ∙ c.requires;
        unbroken = ok_is_none (first_broken c.base_of.result memory) c.in-Ok.field-0 (sym c.check_zone.ensures ∙ c.in-Ok.is);
      });
    }
