-- The table of bases, and levels that stay: a junta to one that isn't lower, and a counterjunta at the highest.
use Rattle.std.proofs.Common.{◌≡◌, ◌≤◌, ℕ, ◌-◌, Bool, true, false, cond, None, List, [], ◌∷◌, refl, sym, subst, ap, ◌∙◌, min, arith, zero, suc, get_or}
use Rattle.std.proofs.lemmas.Bool.{le-leb, ltb-false, ltb-true}
use Rattle.std.specs.Prelude.{nat_lt}
use Rattle.zones.specs.world_model.specs.Levels.{IsAtLevel, all_levels, level_base, used_by_levels, zone_below_all, zone_kept}
use Rattle.zones.specs.world_model.specs.Zones.{Block, block_size, grown, left_before, shrunk}
use Rattle.zones.specs.world_model.specs.ZoneWords.{IsMemory, zone_in, zone_start}
use Rattle.zones.specs.laws_zone.specs.Filling.{zone_size}
use Rattle.zones.specs.laws_zone.specs.PlaceLaws.{NowHas}
use Rattle.zones.specs.laws_zone.proofs.Cutting.{none_past_end}
use Rattle.zones.specs.laws_zone.proofs.levels.Laws.{bases_end_zones, bases_fall}
use Rattle.zones.specs.laws_zone.proofs.memories.Laws.{memories_have_such_zones}

-- the table of bases, from level 1 on
pub base_in_table : (level : ℕ) → 1 ≤ level → level ≤ all_levels → get_or (64512 ∷ 63488 ∷ 61440 ∷ 57344 ∷ 53248 ∷ 49152 ∷ 45056 ∷ 40960 ∷ []) (level - 1) 0 ≡ level_base level
unfolding level_base
base_in_table zero some most = absurd (omega (arith, some))
base_in_table (suc zero) some most = refl
base_in_table (suc (suc zero)) some most = refl
base_in_table (suc (suc (suc zero))) some most = refl
base_in_table (suc (suc (suc (suc zero)))) some most = refl
base_in_table (suc (suc (suc (suc (suc zero))))) some most = refl
base_in_table (suc (suc (suc (suc (suc (suc zero)))))) some most = refl
base_in_table (suc (suc (suc (suc (suc (suc (suc zero))))))) some most = refl
base_in_table (suc (suc (suc (suc (suc (suc (suc (suc zero)))))))) some most = refl
base_in_table (suc (suc (suc (suc (suc (suc (suc (suc (suc n))))))))) some most = let all : all_levels ≡ 8 = refl in absurd (omega (arith, most, all))

pub junta_stays : (level to : ℕ) (memory : List ℕ) → IsAtLevel level memory → level ≤ to → NowHas (level_base level) memory memory (zone_kept level to (zone_in (level_base level) memory))
junta_stays level to memory h less =
    let e : min level to ≡ level = omega (arith, less) in
    let f : level_base level - level_base level ≡ 0 = omega arith in
    record {
      memory = h.memory_is;
      zone = sym (ap (λ k. grown (level_base k - level_base level) (zone_in (level_base level) memory)) e ∙ ap (λ n. grown n (zone_in (level_base level) memory)) f);
      user = refl;
    }

-- ---- all levels are there already
shrunk_all : (room : ℕ) (zone : List Block) → zone_size zone ≤ room → shrunk room zone ≡ zone
shrunk_all room [] less = refl
shrunk_all room (b ∷ bs) less =
    ap (λ c. cond c (b ∷ shrunk (room - block_size b) bs) (left_before room [])) (le-leb (block_size b) room (omega (arith, less)))
    ∙ ap (λ (l : List Block). b ∷ l) (shrunk_all (room - block_size b) bs (omega (arith, less)))

highest : (level : ℕ) → level ≤ all_levels → level_base level ≤ level_base all_levels → level ≡ all_levels
highest level most low = by (nat_lt level all_levels) refl
  where
    eight_most : all_levels ≤ all_levels
    eight_most = omega arith

    by : (b : Bool) → nat_lt level all_levels ≡ b → level ≡ all_levels
    by true e = let less = bases_fall level all_levels (ltb-true level all_levels e) eight_most in absurd (omega (arith, less, low))
    by false e = let more = ltb-false level all_levels e in omega (arith, more, most)

pub stays_full : (level : ℕ) (memory : List ℕ) → IsAtLevel level memory → level_base level ≤ level_base all_levels → NowHas (level_base all_levels) memory memory (zone_below_all (zone_in (level_base level) memory))
stays_full level memory h low =
    let e : level_base level ≡ level_base all_levels = ap level_base (highest level h.most low) in
    let t = bases_end_zones level h.most in
    let fills = (memories_have_such_zones (level_base level) memory t h.memory_is).0 in
    let size = fills.size in
    record {
      memory = subst (λ k. IsMemory k memory) e h.memory_is;
      zone = ap (λ k. zone_in k memory) (sym e) ∙ sym (shrunk_all (level_base all_levels - zone_start) (zone_in (level_base level) memory) (omega (arith, size, e)));
      user = refl;
    }

pub unused_at_full : (level : ℕ) (memory : List ℕ) → IsAtLevel level memory → level_base level ≤ level_base all_levels → used_by_levels (zone_in (level_base level) memory) ≡ None
unused_at_full level memory h low =
    let size = (memories_have_such_zones (level_base level) memory (bases_end_zones level h.most) h.memory_is).0.size in
    none_past_end (level_base all_levels) zone_start (zone_in (level_base level) memory) (omega (arith, size, low))
