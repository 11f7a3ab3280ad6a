-- The zones of memories: their blocks are even, fill the zone and are joined.
use Rattle.std.proofs.Common.{◌≡◌, ◌≤◌, ℕ, ◌+◌, ◌-◌, ◌/◌, ◌==◌, ◌||◌, ◌&&◌, zero, suc, Bool, true, false, cond, List, [], ◌∷◌, None, Option, Some, refl, sym, subst, ap, ◌∙◌, length, take, drop, arith}
use Rattle.std.proofs.lemmas.Bool.{eqb-false, eqb-true, ltb-false}
use Rattle.std.proofs.lemmas.List.{length-drop, length-take-le}
use Rattle.std.specs.Option.{option_or}
use Rattle.std.specs.Prelude.{nat_lt}
use Rattle.world_model.specs.Zones.{Block, gap, live}
use Rattle.world_model.specs.ZoneWords.{IsMemory, zone_in, blocks_from, first_set, first_wrong, is_gap_tag, is_wrong_tag, memory_length, tag_size, wrong_in_gap, zone_part, zone_start}
use Rattle.laws_zone.specs.Filling.{FillZone}
use Rattle.laws_zone.specs.MemoryLaws.{MemoriesHaveSuchZones}
use Rattle.laws_zone.proofs.Sizes.{low_of, part_length, twice}
use Rattle.laws_zone.proofs.inside.Blocking.{Stay}

-- ---- what is unbroken
pub none_of_three : (a b c : Bool) → (a || b || c) ≡ false → (a ≡ false) × (b ≡ false) × (c ≡ false)
none_of_three false false false e = (refl, refl, refl)
none_of_three false false true e = cc
none_of_three false true c e = cc
none_of_three true b c e = cc

pub not_before : (ag : Bool) → (ag && true) ≡ false → ag ≡ false
not_before false e = refl
not_before true e = e

pub no_first : (b : Bool) (at : ℕ) (o : Option ℕ) → cond b (Some at) o ≡ None → (b ≡ false) × (o ≡ None)
no_first false at o e = (refl, e)
no_first true at o e = cc

pub no_other : (one two : Option ℕ) → option_or one two ≡ None → two ≡ None
no_other None two e = e
no_other (Some n) two e = cc

pub no_one : (one two : Option ℕ) → option_or one two ≡ None → one ≡ None
no_one None two e = refl
no_one (Some n) two e = cc

-- ---- a block, and those after it
block_stays : (after_gap is_gap : Bool) (tag : ℕ) (words : List ℕ) (rest : List Block) → is_gap_tag tag ≡ is_gap → 1 ≤ tag_size tag → tag_size tag ≤ suc (length words) → (after_gap && is_gap_tag tag) ≡ false
    → Stay is_gap (length words - (tag_size tag - 1)) rest → Stay after_gap (suc (length words)) (cond is_gap (gap tag) (live (take (tag_size tag - 1) words)) ∷ rest)
block_stays after_gap true tag words rest is some fits apart stay =
    let even : tag ≡ tag_size tag = eqb-true tag (tag_size tag) is in
    let size = stay.stand.size_is in
    record {
      stand = record { each = ((omega (arith, some, even), sym even), stay.stand.each); size_is = omega (arith, size, even, some, fits) };
      joined = (not_before after_gap (ap (λ b. after_gap && b) (sym is) ∙ apart), stay.joined);
    }
block_stays after_gap false tag words rest is some fits apart stay =
    let less : tag_size tag - 1 ≤ length words = omega (arith, some, fits) in
    let long = length-take-le (tag_size tag - 1) words less in
    let size = stay.stand.size_is in
    let own : suc (length (take (tag_size tag - 1) words)) ≡ tag_size tag = omega (arith, long, some) in
    record {
      stand = record {
        each = (subst (λ k. (1 ≤ k) × (tag_size k ≡ k)) (sym own) (some, twice (tag / 2) (tag_size tag) refl), stay.stand.each);
        size_is = omega (arith, size, own, some, fits);
      };
      joined = stay.joined;
    }

-- ---- all of them
pub blocks_stay : (fuel others at : ℕ) (after_gap : Bool) (words : List ℕ) → length words ≤ fuel → length words ≤ others → first_wrong others at after_gap words ≡ None → Stay after_gap (length words) (blocks_from fuel words)
blocks_stay zero others at after_gap [] enough more right = record { stand = record { each = tt; size_is = refl }; joined = tt }
blocks_stay (suc fuel) others at after_gap [] enough more right = record { stand = record { each = tt; size_is = refl }; joined = tt }
blocks_stay zero others at after_gap (tag ∷ words) enough more right = absurd (omega (arith, enough))
blocks_stay (suc fuel) zero at after_gap (tag ∷ words) enough more right = absurd (omega (arith, more))
blocks_stay (suc fuel) (suc others) at after_gap (tag ∷ words) enough more right =
    block_stays after_gap (is_gap_tag tag) tag words (blocks_from fuel later) refl some fits tests.2
    (subst (λ n. Stay (is_gap_tag tag) n (blocks_from fuel later)) size (blocks_stay fuel others (at + tag_size tag) (is_gap_tag tag) later (omega (arith, size, enough)) (omega (arith, size, more)) (no_other (wrong_in_gap at tag words) (first_wrong others (at + tag_size tag) (is_gap_tag tag) later) parts.1)))
  where
    later : List ℕ
    later = drop (tag_size tag - 1) words

    size : length later ≡ length words - (tag_size tag - 1)
    size = length-drop (tag_size tag - 1) words

    parts : (is_wrong_tag after_gap tag words ≡ false) × (option_or (wrong_in_gap at tag words) (first_wrong others (at + tag_size tag) (is_gap_tag tag) later) ≡ None)
    parts = no_first (is_wrong_tag after_gap tag words) at (option_or (wrong_in_gap at tag words) (first_wrong others (at + tag_size tag) (is_gap_tag tag) later)) right

    tests : ((tag_size tag == 0) ≡ false) × (nat_lt (suc (length words)) (tag_size tag) ≡ false) × ((after_gap && is_gap_tag tag) ≡ false)
    tests = none_of_three (tag_size tag == 0) (nat_lt (suc (length words)) (tag_size tag)) (after_gap && is_gap_tag tag) parts.0

    some : 1 ≤ tag_size tag
    some = let not_zero = eqb-false (tag_size tag) 0 tests.0 in omega (arith, not_zero)

    fits : tag_size tag ≤ suc (length words)
    fits = ltb-false (suc (length words)) (tag_size tag) tests.1

-- ---- in a memory

pub memory_fills : (top : ℕ) (memory : List ℕ) → zone_start ≤ top → top ≤ memory_length → IsMemory top memory → FillZone top (zone_in top memory)
memory_fills top memory low high h = record { each = stay.stand.each; joined = stay.joined; size = let all = stay.stand.size_is in omega (arith, all, low, long) }
  where
    words : length memory ≡ memory_length
    words = h.words

    part : List ℕ
    part = zone_part top memory

    long : length part ≡ top - zone_start
    long = part_length top zone_start memory_length memory words low high

    stay : Stay false (length part) (blocks_from (length part) part)
    stay = blocks_stay (length part) (length memory) zone_start false part (omega arith) (omega (arith, long, words, high)) (no_one (first_wrong (length memory) zone_start false part) (first_set top (drop top memory)) h.unbroken)

pub memories_have_such_zones : MemoriesHaveSuchZones
memories_have_such_zones top memory t h =
    let words = h.words in
    let low = low_of top t in
    let high = t.most in
    (memory_fills top memory low high h, length-take-le zone_start memory (omega (arith, words, low, high)))
