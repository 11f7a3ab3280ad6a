-- What levels that go and come back make of a zone.
use Rattle.std.proofs.Common.{◌≡◌, ◌≤◌, ℕ, ◌+◌, ◌-◌, zero, suc, Bool, true, false, cond, List, [], ◌∷◌, ◌++◌, None, Option, Some, refl, ap, ◌∙◌, length, arith}
use Rattle.std.proofs.lemmas.Bool.{leb-false, leb-true, ltb-false}
use Rattle.std.specs.Prelude.{nat_le, nat_lt}
use Rattle.world_model.specs.Levels.{all_levels, level_base, level_kept}
use Rattle.world_model.specs.Zones.{Block, gap, live, block_size, grown, join_gap, joined_gaps, left_before, shrunk, used_above}
use Rattle.world_model.specs.ZoneWords.{tag_size, zone_start}
use Rattle.laws_zone.specs.Filling.{AreJoined, CanStand, EachCanStand, FillZone, IsTop, front_of, last_gap, zone_size}
use Rattle.laws_zone.specs.LevelLaws.{CounterJuntaFillsTheZone, JuntaFillsTheZone}
use Rattle.laws_zone.proofs.Sizes.{even_rest, low_of}
use Rattle.laws_zone.proofs.inside.Bases.{base_falls, bases_end_zones}
use Rattle.laws_zone.proofs.inside.Blocking.{Stand, Stay, joined_stay}

-- ---- levels go
pub each_before_gap : (zone : List Block) (n : ℕ) → EachCanStand zone → CanStand (gap n) → EachCanStand (zone ++ gap n ∷ [])
each_before_gap [] n each can = (can, tt)
each_before_gap (b ∷ bs) n each can = (each.0, each_before_gap bs n each.1 can)

pub size_before_gap : (zone : List Block) (n : ℕ) → zone_size (zone ++ gap n ∷ []) ≡ zone_size zone + n
size_before_gap [] n = omega arith
size_before_gap (b ∷ bs) n = let rest = size_before_gap bs n in omega (arith, rest)

pub grown_stay : (n : ℕ) (zone : List Block) → tag_size n ≡ n → EachCanStand zone → AreJoined false zone → Stay false (zone_size zone + n) (grown n zone)
grown_stay zero zone even each j = record { stand = record { each = each; size_is = omega arith }; joined = j }
grown_stay (suc n) zone even each j =
    let some : 1 ≤ suc n = omega arith in
    let stay = joined_stay (zone ++ gap (suc n) ∷ []) (each_before_gap zone (suc n) each (some, even)) in
    record { stand = record { each = stay.stand.each; size_is = stay.stand.size_is ∙ size_before_gap zone (suc n) }; joined = stay.joined }

-- ---- they come back
-- one free block at most
left_alone : (room : ℕ) (after_gap : Bool) → tag_size room ≡ room → after_gap ≡ false → Stay after_gap room (left_before room [])
left_alone zero after_gap even first = record { stand = record { each = tt; size_is = refl }; joined = tt }
left_alone (suc room) after_gap even first = record { stand = record { each = ((omega arith, even), tt); size_is = omega arith }; joined = (first, tt) }

-- what a zone is after its first block stays
after_stays : (room : ℕ) (b : Block) (rest : List Block) → block_size b ≤ room → CanStand b → Stand (room - block_size b) rest → Stand room (b ∷ rest)
after_stays room b rest fits can s = let size = s.size_is in record { each = (can, s.each); size_is = omega (arith, size, fits) }

pub not_above : (b : Bool) (at : ℕ) (o : Option ℕ) → cond b (Some at) o ≡ None → (b ≡ false) × (o ≡ None)
not_above false at o e = (refl, e)
not_above true at o e = absurd cc

-- of a free block that is first, and of a used one
shrunk_gap : (room n : ℕ) (bs : List Block) (after_gap : Bool) → tag_size room ≡ room → CanStand (gap n) → after_gap ≡ false → (n ≤ room → Stay true (room - n) (shrunk (room - n) bs)) → Stay after_gap room (shrunk room (gap n ∷ bs))
shrunk_gap room n bs after_gap even can first further = by (nat_le n room) refl
  where
    by : (b : Bool) → nat_le n room ≡ b → Stay after_gap room (cond b (gap n ∷ shrunk (room - n) bs) (left_before room []))
    by true is = let fits = leb-true n room is in let rest = further fits in record { stand = after_stays room (gap n) (shrunk (room - n) bs) fits can rest.stand; joined = (first, rest.joined) }
    by false is = left_alone room after_gap even first

shrunk_used : (room : ℕ) (words : List ℕ) (bs : List Block) (after_gap : Bool) → suc (length words) ≤ room → CanStand (live words) → Stay false (room - suc (length words)) (shrunk (room - suc (length words)) bs) → Stay after_gap room (shrunk room (live words ∷ bs))
shrunk_used room words bs after_gap fits can further = by (nat_le size room) refl
  where
    size : ℕ
    size = suc (length words)

    by : (b : Bool) → nat_le size room ≡ b → Stay after_gap room (cond b (live words ∷ shrunk (room - size) bs) (left_before room []))
    by true is = record { stand = after_stays room (live words) (shrunk (room - size) bs) fits can further.stand; joined = further.joined }
    by false is = let over = leb-false size room is in absurd (omega (arith, over, fits))

pub shrunk_stay : (room at top : ℕ) (zone : List Block) (after_gap : Bool) → at + room ≡ top → tag_size room ≡ room → room ≤ zone_size zone → EachCanStand zone → AreJoined after_gap zone → used_above top at zone ≡ None → Stay after_gap room (shrunk room zone)
shrunk_stay room at top [] after_gap ends even enough each j none = record { stand = record { each = tt; size_is = omega (arith, enough) }; joined = tt }
shrunk_stay room at top (gap n ∷ bs) after_gap ends even enough each j none =
    shrunk_gap room n bs after_gap even each.0 j.0
    (λ fits. shrunk_stay (room - n) (at + n) top bs true (omega (arith, fits, ends)) (even_rest room n even each.0.1 fits) (omega (arith, enough)) each.1 j.1 none)
shrunk_stay room at top (live words ∷ bs) after_gap ends even enough each j none =
    let size : ℕ = suc (length words) in
    let below = not_above (nat_lt top (at + size)) (at + 1) (used_above top (at + size) bs) none in
    let end = ltb-false top (at + size) below.0 in
    let fits : suc (length words) ≤ room = omega (arith, end, ends) in
    shrunk_used room words bs after_gap fits each.0
    (shrunk_stay (room - size) (at + size) top bs false (omega (arith, fits, ends)) (even_rest room size even each.0.1 fits) (omega (arith, enough)) each.1 j below.1)

-- ---- free words after the last block
joined_last : (after_gap : Bool) (s : ℕ) (zone : List Block) → AreJoined after_gap zone → joined_gaps (zone ++ gap s ∷ []) ≡ front_of zone ++ gap (last_gap zone + s) ∷ []
joined_last after_gap s [] j = let e : s ≡ 0 + s = omega arith in ap (λ n. gap n ∷ []) e
joined_last after_gap s (gap n ∷ []) j = refl
joined_last after_gap s (gap n ∷ gap k ∷ bs) j = absurd (let e : true ≡ false = j.1.0 in cc)
joined_last after_gap s (gap n ∷ live ws ∷ bs) j = ap (join_gap n) (joined_last true s (live ws ∷ bs) j.1)
joined_last after_gap s (live ws ∷ bs) j = ap (λ (l : List Block). live ws ∷ l) (joined_last false s bs j)

pub grown_is : (s : ℕ) (zone : List Block) → 1 ≤ s → AreJoined false zone → grown s zone ≡ front_of zone ++ gap (last_gap zone + s) ∷ []
grown_is zero zone some j = absurd (omega (arith, some))
grown_is (suc s) zone some j = joined_last false (suc s) zone j

pub grown_fills : (top new : ℕ) (zone : List Block) → FillZone top zone → tag_size top ≡ top → tag_size new ≡ new → top ≤ new → FillZone new (grown (new - top) zone)
grown_fills top new zone h one two less =
    let stay = grown_stay (new - top) zone (even_rest new top two one less) h.each h.joined in
    let size = h.size in
    let all = stay.stand.size_is in
    record { each = stay.stand.each; joined = stay.joined; size = omega (arith, size, all, less) }

-- the first words of a zone, past which no used block stands, fill a zone that ends there
pub shrunk_fills : (top low : ℕ) (zone : List Block) → FillZone top zone → IsTop low → low ≤ top → used_above low zone_start zone ≡ None → FillZone low (shrunk (low - zone_start) zone)
shrunk_fills top low zone h u less none =
    let size = h.size in
    let under = low_of low u in
    let ends : zone_start + (low - zone_start) ≡ low = omega (arith, under) in
    let stay = shrunk_stay (low - zone_start) zone_start low zone false ends (even_rest low zone_start u.even refl under) (omega (arith, size, less)) h.each h.joined none in
    let all = stay.stand.size_is in
    record { each = stay.stand.each; joined = stay.joined; size = omega (arith, all, under) }

-- ---- the laws
pub junta_fills_the_zone : JuntaFillsTheZone
junta_fills_the_zone level to zone most h =
    let lower : ℕ = level_kept level to in
    let less : lower ≤ level = omega arith in
    let one = bases_end_zones level most in
    let two = bases_end_zones lower (omega (arith, most)) in
    grown_fills (level_base level) (level_base lower) zone h one.even two.even (base_falls lower level less)

pub counter_junta_fills_the_zone : CounterJuntaFillsTheZone
counter_junta_fills_the_zone level zone most none h =
    let eight : all_levels ≤ all_levels = omega arith in
    shrunk_fills (level_base level) (level_base all_levels) zone h (bases_end_zones all_levels eight) (base_falls level all_levels most) none
