-- A block that is taken: the memory then.
use Rattle.std.proofs.Common.{◌≡◌, ℕ, ◌+◌, ◌-◌, List, [], ◌∷◌, ◌++◌, Some, sym, ◌∙◌, take, drop, get_or, replicate, arith, append_assoc}
use Rattle.laws_zone.specs.world_model.specs.Zones.{Block, gap, live, left_before, size_for, taken}
use Rattle.laws_zone.specs.world_model.specs.ZoneWords.{IsMemory, zone_in, zone_start, zone_words}
use Rattle.laws_zone.specs.Filling.{FillZone, IsTop, zone_size}
use Rattle.laws_zone.specs.PlaceLaws.{NowHas}
use Rattle.zones.specs.Taking.{FindsGap, Takes}
use Rattle.laws_zone.proofs.blocks.Laws.{taken_fills_the_zone}
use Rattle.laws_zone.proofs.memories.Laws.{memories_have_such_zones}
use Rattle.laws_zone.proofs.places.Laws.{other_blocks_stand_in_place}
use Rattle.zones.proofs.Taken.{left_words, taken_at}

pub takes : (top n size at : ℕ) (old new : List ℕ) → IsTop top → IsMemory top old → size ≡ size_for n → FindsGap top old size at
    → new ≡ (take at old ++ zone_words (live (replicate (size - 1) 0) ∷ left_before (get_or old at 0 - size) [])) ++ drop (at + get_or old at 0) old
    → Takes top n old new (at + 1)
takes top n size at old new t h is f words = record { blocks = blocks; taken_is = taken_is; now = r }
  where
    mid : List Block
    mid = live (replicate (size - 1) 0) ∷ left_before (f.n - size) []

    blocks : List Block
    blocks = f.before ++ (mid ++ f.after)

    taken_is : taken zone_start (size_for n) (zone_in top old) ≡ Some (record { at = at + 1; blocks = blocks })
    taken_is =
        (λ i. taken zone_start (sym is i) (f.zone i))
        ∙ taken_at size zone_start f.n f.before f.after f.lowest f.fits
        ∙ (λ i. Some (record { at = sym f.place i + 1; blocks = f.before ++ live (replicate (size - 1) 0) ∷ left_words (f.n - size) f.after i }))

    fills : FillZone top blocks
    fills = taken_fills_the_zone top n (zone_in top old) (record { at = at + 1; blocks = blocks }) ((memories_have_such_zones top old t h).0) taken_is

    last : at + get_or old at 0 ≡ zone_start + zone_size f.before + (f.n + 0)
    last = let place = f.place in let tag = f.tag in omega (arith, place, tag)

    r : NowHas top old new blocks
    r = other_blocks_stand_in_place top old new f.before (gap f.n ∷ []) mid f.after t h f.zone fills
        (words ∙ append_assoc (take at old) (zone_words (live (replicate (size - 1) 0) ∷ left_before (get_or old at 0 - size) [])) (drop (at + get_or old at 0) old) ∙ (λ i. take (f.place i) old ++ (zone_words (live (replicate (size - 1) 0) ∷ left_before (f.tag i - size) []) ++ drop (last i) old)))
