-- Blocks that are read from words are those words.
use Rattle.std.proofs.Common.{◌≡◌, ◌≤◌, ℕ, ◌+◌, ◌-◌, ◌==◌, ◌&&◌, zero, suc, Bool, true, false, cond, List, [], ◌∷◌, ◌++◌, None, Option, Some, refl, sym, ap, ◌∙◌, length, take, drop, replicate, arith, append_assoc}
use Rattle.std.proofs.lemmas.Bool.{eqb-true, eqb-false, ltb-false}
use Rattle.std.proofs.lemmas.List.{drop-drop, length-drop, length-take-le, take-append-drop}
use Rattle.std.specs.Option.{option_or}
use Rattle.std.specs.Prelude.{nat_lt}
use Rattle.world_model.specs.Zones.{gap, live}
use Rattle.world_model.specs.ZoneWords.{IsMemory, block_of, block_words, blocks_from, first_set, first_wrong, is_gap_tag, is_wrong_tag, memory_length, memory_of, tag_size, wrong_in_gap, zone_in, zone_part, zone_start, zone_words}
use Rattle.laws_zone.specs.MemoryLaws.{MemoriesAreTheirBlocks}
use Rattle.laws_zone.proofs.Sizes.{low_of, part_length}
use Rattle.laws_zone.proofs.inside.Remembering.{no_first, no_one, no_other, none_of_three}

-- ---- zeros
not_set : (b : Bool) (o : Option ℕ) (at : ℕ) → cond b o (Some at) ≡ None → (b ≡ true) × (o ≡ None)
not_set true o at e = (refl, e)
not_set false o at e = cc

-- words of which none is set are zeros
pub are_zeros : (at : ℕ) (words : List ℕ) → first_set at words ≡ None → words ≡ replicate (length words) 0
are_zeros at [] e = refl
are_zeros at (w ∷ words) e =
    let parts = not_set (w == 0) (first_set (suc at) words) at e in
    λ i. eqb-true w 0 parts.0 i ∷ are_zeros (suc at) words parts.1 i

-- ---- a block
-- an odd tag is one more than its size
odd_tag : (tag : ℕ) → (tag == tag_size tag) ≡ false → tag ≡ suc (tag_size tag)
odd_tag tag e = let apart = eqb-false tag (tag_size tag) e in omega (arith, apart)

gap_back : (at tag : ℕ) (words : List ℕ) → 1 ≤ tag → tag ≤ suc (length words) → first_set (suc at) (take (tag - 1) words) ≡ None → block_words (gap tag) ++ drop (tag - 1) words ≡ tag ∷ words
gap_back at tag words some fits zeros =
    let long = length-take-le (tag - 1) words (omega (arith, some, fits)) in
    let same : take (tag - 1) words ≡ replicate (tag - 1) 0 = are_zeros (suc at) (take (tag - 1) words) zeros ∙ ap (λ n. replicate n 0) long in
    ap (λ (l : List ℕ). tag ∷ (l ++ drop (tag - 1) words)) (sym same) ∙ ap (λ (l : List ℕ). tag ∷ l) (take-append-drop (tag - 1) words)

used_back : (tag : ℕ) (words : List ℕ) → (tag == tag_size tag) ≡ false → 1 ≤ tag_size tag → tag_size tag ≤ suc (length words) → block_words (live (take (tag_size tag - 1) words)) ++ drop (tag_size tag - 1) words ≡ tag ∷ words
used_back tag words odd some fits =
    let long = length-take-le (tag_size tag - 1) words (omega (arith, some, fits)) in
    let is = odd_tag tag odd in
    let head : suc (suc (length (take (tag_size tag - 1) words))) ≡ tag = omega (arith, long, is, some) in
    (λ i. head i ∷ take-append-drop (tag_size tag - 1) words i)

block_back : (at tag : ℕ) (words : List ℕ) (g : Bool) → is_gap_tag tag ≡ g → 1 ≤ tag_size tag → tag_size tag ≤ suc (length words) → cond g (first_set (suc at) (take (tag - 1) words)) None ≡ None
    → block_words (cond g (gap tag) (live (take (tag_size tag - 1) words))) ++ drop (tag_size tag - 1) words ≡ tag ∷ words
block_back at tag words true is some fits zeros =
    let even : tag ≡ tag_size tag = eqb-true tag (tag_size tag) is in
    ap (λ n. block_words (gap tag) ++ drop (n - 1) words) (sym even) ∙ gap_back at tag words (omega (arith, some, even)) (omega (arith, fits, even)) zeros
block_back at tag words false is some fits zeros = used_back tag words is some fits

-- ---- all of them
pub words_back : (fuel others at : ℕ) (after_gap : Bool) (words : List ℕ) → length words ≤ fuel → length words ≤ others → first_wrong others at after_gap words ≡ None → zone_words (blocks_from fuel words) ≡ words
words_back zero others at after_gap [] enough more right = refl
words_back (suc fuel) others at after_gap [] enough more right = refl
words_back zero others at after_gap (tag ∷ words) enough more right = absurd (omega (arith, enough))
words_back (suc fuel) zero at after_gap (tag ∷ words) enough more right = absurd (omega (arith, more))
words_back (suc fuel) (suc others) at after_gap (tag ∷ words) enough more right =
    ap (λ (l : List ℕ). block_words (block_of tag words) ++ l) (words_back fuel others (at + tag_size tag) (is_gap_tag tag) later (omega (arith, size, enough)) (omega (arith, size, more)) (no_other (wrong_in_gap at tag words) (first_wrong others (at + tag_size tag) (is_gap_tag tag) later) parts.1))
    ∙ block_back at tag words (is_gap_tag tag) refl some fits (no_one (wrong_in_gap at tag words) (first_wrong others (at + tag_size tag) (is_gap_tag tag) later) parts.1)
  where
    later : List ℕ
    later = drop (tag_size tag - 1) words

    size : length later ≡ length words - (tag_size tag - 1)
    size = length-drop (tag_size tag - 1) words

    parts : (is_wrong_tag after_gap tag words ≡ false) × (option_or (wrong_in_gap at tag words) (first_wrong others (at + tag_size tag) (is_gap_tag tag) later) ≡ None)
    parts = no_first (is_wrong_tag after_gap tag words) at (option_or (wrong_in_gap at tag words) (first_wrong others (at + tag_size tag) (is_gap_tag tag) later)) right

    tests : ((tag_size tag == 0) ≡ false) × (nat_lt (suc (length words)) (tag_size tag) ≡ false) × ((after_gap && is_gap_tag tag) ≡ false)
    tests = none_of_three (tag_size tag == 0) (nat_lt (suc (length words)) (tag_size tag)) (after_gap && is_gap_tag tag) parts.0

    some : 1 ≤ tag_size tag
    some = let not_zero = eqb-false (tag_size tag) 0 tests.0 in omega (arith, not_zero)

    fits : tag_size tag ≤ suc (length words)
    fits = ltb-false (suc (length words)) (tag_size tag) tests.1

-- ---- in a memory
-- The memory is its user's words, its blocks and zeros.
pub memory_back : (top : ℕ) (memory : List ℕ) → zone_start ≤ top → top ≤ memory_length → IsMemory top memory → memory ≡ memory_of top (take zone_start memory) (zone_in top memory)
memory_back top memory low high h = sym all
  where
    words : length memory ≡ memory_length
    words = h.words

    part : List ℕ
    part = zone_part top memory

    long : length part ≡ top - zone_start
    long = part_length top zone_start memory_length memory words low high

    zone : zone_words (zone_in top memory) ≡ part
    zone = words_back (length part) (length memory) zone_start false part (omega arith) (omega (arith, long, words, high)) (no_one (first_wrong (length memory) zone_start false part) (first_set top (drop top memory)) h.unbroken)

    last : drop top memory ≡ replicate (memory_length - top) 0
    last =
        let left = length-drop top memory in
        let n : length (drop top memory) ≡ memory_length - top = omega (arith, left, words) in
        are_zeros top (drop top memory) (no_other (first_wrong (length memory) zone_start false part) (first_set top (drop top memory)) h.unbroken) ∙ ap (λ k. replicate k 0) n

    up : zone_start + (top - zone_start) ≡ top
    up = omega (arith, low)

    -- what stands from the zone on
    onward : part ++ drop top memory ≡ drop zone_start memory
    onward = ap (λ (l : List ℕ). part ++ l) (ap (λ n. drop n memory) (sym up) ∙ sym (drop-drop (top - zone_start) zone_start memory)) ∙ take-append-drop (top - zone_start) (drop zone_start memory)

    all : memory_of top (take zone_start memory) (zone_in top memory) ≡ memory
    all =
        (λ i. (take zone_start memory ++ zone i) ++ (sym last) i)
        ∙ append_assoc (take zone_start memory) part (drop top memory)
        ∙ ap (λ (l : List ℕ). take zone_start memory ++ l) onward
        ∙ take-append-drop zone_start memory

pub memories_are_their_blocks : MemoriesAreTheirBlocks
memories_are_their_blocks top memory t h = memory_back top memory (low_of top t) t.most h
