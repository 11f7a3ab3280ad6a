-- The words of blocks that fill a zone, in a memory.
use Rattle.std.proofs.Common.{◌≡◌, ◌≤◌, ℕ, ◌+◌, ◌-◌, ◌*◌, ◌/◌, ◌==◌, ◌||◌, ◌&&◌, zero, suc, Bool, true, false, cond, List, [], ◌∷◌, ◌++◌, None, Some, refl, sym, ap, ◌∙◌, length, replicate, take, drop, append_assoc, arith}
use Rattle.std.proofs.Math.Bool.{and-false}
use Rattle.std.proofs.Math.Seq.{drop-append_seam, take-append_seam}
use Rattle.std.proofs.lemmas.Bool.{eq-eqb, le-ltb, ne_eqb}
use Rattle.std.proofs.lemmas.List.{length-append, length-replicate}
use Rattle.std.specs.Int.Bits.{block_half}
use Rattle.std.specs.Option.{option_or}
use Rattle.std.specs.Prelude.{nat_lt}
use Rattle.world_model.specs.Zones.{Block, gap, live, block_size}
use Rattle.world_model.specs.ZoneWords.{IsMemory, block_of, block_words, blocks_from, blocks_in, first_set, first_wrong, is_gap_tag, is_wrong_tag, memory_length, memory_of, tag_size, wrong_in_gap, zone_in, zone_part, zone_start, zone_words}
use Rattle.laws_zone.specs.Filling.{AreJoined, CanStand, EachCanStand, FillZone, zone_size}
use Rattle.laws_zone.specs.MemoryLaws.{ZonesReadBack}

-- ---- tags
pub half_of_next : (n : ℕ) → tag_size n ≡ n → suc n / 2 ≡ n / 2
half_of_next n even =
    let up : suc n ≡ n / 2 * 2 + 1 = omega (arith, even) in
    let down : n / 2 * 1 + 0 ≡ n / 2 = omega arith in
    ap (λ m. m / 2) up ∙ block_half (n / 2) 0 1 ∙ down

-- the tag of a used block of so many words
pub used_tag : (n : ℕ) → tag_size n ≡ n → tag_size (suc n) ≡ n
used_tag n even = ap (λ h. h * 2) (half_of_next n even) ∙ even

-- ---- a block from its words, and others after them
pub less_one : (n : ℕ) → suc n - 1 ≡ n
less_one n = omega arith

pub past_gap : (n : ℕ) (rest : List ℕ) → tag_size n ≡ n → drop (tag_size n - 1) (replicate {A = ℕ} (n - 1) 0 ++ rest) ≡ rest
past_gap n rest even =
    let words = replicate {A = ℕ} (n - 1) 0 in
    ap (λ k. drop (k - 1) (words ++ rest)) even ∙ ap (λ k. drop k (words ++ rest)) (sym (length-replicate (n - 1) 0)) ∙ drop-append_seam words rest

pub past_used : (words rest : List ℕ) → tag_size (suc (length words)) ≡ suc (length words) → drop (tag_size (suc (suc (length words))) - 1) (words ++ rest) ≡ rest
past_used words rest even =
    ap (λ k. drop (k - 1) (words ++ rest)) (used_tag (suc (length words)) even) ∙ ap (λ k. drop k (words ++ rest)) (less_one (length words)) ∙ drop-append_seam words rest

pub gap_is : (n : ℕ) (words : List ℕ) → tag_size n ≡ n → block_of n words ≡ gap n
gap_is n words even = ap (λ b. cond b (gap n) (live (take (tag_size n - 1) words))) (eq-eqb n (tag_size n) (sym even))

pub used_is_no_gap : (n : ℕ) → tag_size n ≡ n → (suc n == tag_size (suc n)) ≡ false
used_is_no_gap n even = let tag = used_tag n even in ne_eqb (suc n) (tag_size (suc n)) (λ e. absurd (omega (arith, e, tag)))

pub used_is : (words rest : List ℕ) → tag_size (suc (length words)) ≡ suc (length words) → block_of (suc (suc (length words))) (words ++ rest) ≡ live words
used_is words rest even =
    let tag = suc (suc (length words)) in
    ap (λ b. cond b (gap tag) (live (take (tag_size tag - 1) (words ++ rest)))) (used_is_no_gap (suc (length words)) even)
    ∙ ap (λ k. live (take (k - 1) (words ++ rest))) (used_tag (suc (length words)) even)
    ∙ ap (λ k. live (take k (words ++ rest))) (less_one (length words))
    ∙ ap live (take-append_seam words rest)

pub block_is_read : (b : Block) (rest : List ℕ) (fuel : ℕ) → CanStand b → blocks_from (suc fuel) (block_words b ++ rest) ≡ b ∷ blocks_from fuel rest
block_is_read (gap n) rest fuel can = λ i. gap_is n (replicate {A = ℕ} (n - 1) 0 ++ rest) can.1 i ∷ blocks_from fuel (past_gap n rest can.1 i)
block_is_read (live words) rest fuel can = λ i. used_is words rest can.1 i ∷ blocks_from fuel (past_used words rest can.1 i)

-- ---- all of them
pub none_from : (fuel : ℕ) → blocks_from fuel [] ≡ []
none_from zero = refl
none_from (suc fuel) = refl

pub blocks_are_read : (zone : List Block) (fuel : ℕ) → EachCanStand zone → zone_size zone ≤ fuel → blocks_from fuel (zone_words zone) ≡ zone
blocks_are_read [] fuel each enough = none_from fuel
blocks_are_read (b ∷ bs) zero each enough = let some = each.0.0 in absurd (omega (arith, some, enough))
blocks_are_read (b ∷ bs) (suc fuel) each enough =
    let some = each.0.0 in
    let less : zone_size bs ≤ fuel = omega (arith, some, enough) in
    block_is_read b (zone_words bs) fuel each.0 ∙ ap (λ (l : List Block). b ∷ l) (blocks_are_read bs fuel each.1 less)

pub block_length : (b : Block) → CanStand b → length (block_words b) ≡ block_size b
block_length (gap n) can = let some = can.0 in let e : suc (n - 1) ≡ n = omega (arith, some) in ap suc (length-replicate (n - 1) 0) ∙ e
block_length (live words) can = refl

pub zone_length : (zone : List Block) → EachCanStand zone → length (zone_words zone) ≡ zone_size zone
zone_length [] each = refl
zone_length (b ∷ bs) each = length-append (block_words b) (zone_words bs) ∙ (λ i. block_length b each.0 i + zone_length bs each.1 i)

-- ---- in the memory: the words `z` from the word k on, before the word `top`
pub part_is : (top k : ℕ) (u z r : List ℕ) → length u ≡ k → top - k ≡ length z → take (top - k) (drop k ((u ++ z) ++ r)) ≡ z
part_is top k u z r start long =
    ap (λ n. take n (drop k ((u ++ z) ++ r))) long
    ∙ ap (λ n. take (length z) (drop n ((u ++ z) ++ r))) (sym start)
    ∙ ap (λ (l : List ℕ). take (length z) (drop (length u) l)) (append_assoc u z r)
    ∙ ap (λ (l : List ℕ). take (length z) l) (drop-append_seam u (z ++ r))
    ∙ take-append_seam z r

pub zone_takes : (top : ℕ) (zone : List Block) → FillZone top zone → top - zone_start ≡ length (zone_words zone)
zone_takes top zone fills = let size = fills.size in let long = zone_length zone fills.each in omega (arith, size, long)

pub zone_is : (top : ℕ) (user : List ℕ) (zone : List Block) → length user ≡ zone_start → FillZone top zone → zone_in top (memory_of top user zone) ≡ zone
zone_is top user zone start fills =
    let long = zone_length zone fills.each in
    let enough : zone_size zone ≤ length (zone_words zone) = omega (arith, long) in
    ap blocks_in (part_is top zone_start user (zone_words zone) (replicate {A = ℕ} (memory_length - top) 0) start (zone_takes top zone fills))
    ∙ blocks_are_read zone (length (zone_words zone)) fills.each enough

-- ---- nothing broken
pub none_set : (at n : ℕ) → first_set at (replicate {A = ℕ} n 0) ≡ None
none_set at zero = refl
none_set at (suc n) = none_set (suc at) n

pub none_wrong : (at fuel : ℕ) (after_gap : Bool) → first_wrong fuel at after_gap [] ≡ None
none_wrong at zero after_gap = refl
none_wrong at (suc fuel) after_gap = refl

-- a tag that is as it has to be
right_tag : (after_gap : Bool) (tag size : ℕ) (words : List ℕ) → tag_size tag ≡ size → 1 ≤ size → size ≤ suc (length words) → (after_gap && is_gap_tag tag) ≡ false → is_wrong_tag after_gap tag words ≡ false
right_tag after_gap tag size words is some fits apart =
    (λ i. is i == 0 || nat_lt (suc (length words)) (is i) || apart i)
    ∙ (λ i. ne_eqb size 0 (λ e. absurd (omega (arith, e, some))) i || not_below i || false)
  where
    not_below : nat_lt (suc (length words)) size ≡ false
    not_below = le-ltb (suc (length words)) size fits

gap_words : (n at : ℕ) (rest : List ℕ) → tag_size n ≡ n → wrong_in_gap at n (replicate {A = ℕ} (n - 1) 0 ++ rest) ≡ None
gap_words n at rest even =
    ap (λ b. cond b (first_set (suc at) (take (n - 1) (replicate {A = ℕ} (n - 1) 0 ++ rest))) None) (eq-eqb n (tag_size n) (sym even))
    ∙ ap (first_set (suc at)) (ap (λ k. take k (replicate {A = ℕ} (n - 1) 0 ++ rest)) (sym (length-replicate (n - 1) 0)) ∙ take-append_seam (replicate {A = ℕ} (n - 1) 0) rest)
    ∙ none_set (suc at) (n - 1)

-- a tag that is right, and a block in whose words nothing is wrong: then it is as the words after the block are
goes_past : (fuel at tag : ℕ) (after_gap is_gap : Bool) (words rest : List ℕ) → is_wrong_tag after_gap tag words ≡ false → wrong_in_gap at tag words ≡ None → is_gap_tag tag ≡ is_gap → drop (tag_size tag - 1) words ≡ rest
    → first_wrong (suc fuel) at after_gap (tag ∷ words) ≡ first_wrong fuel (at + tag_size tag) is_gap rest
goes_past fuel at tag after_gap is_gap words rest right inner gap_tag past = λ i. cond (right i) (Some at) (option_or (inner i) (first_wrong fuel (at + tag_size tag) (gap_tag i) (past i)))

none_wrong_in_zone : (zone : List Block) (fuel at : ℕ) (after_gap : Bool) → EachCanStand zone → AreJoined after_gap zone → first_wrong fuel at after_gap (zone_words zone) ≡ None
none_wrong_in_zone [] fuel at after_gap each joined = none_wrong at fuel after_gap
none_wrong_in_zone (gap n ∷ bs) zero at after_gap each joined = refl
none_wrong_in_zone (live words ∷ bs) zero at after_gap each joined = refl
none_wrong_in_zone (gap n ∷ bs) (suc fuel) at after_gap each joined =
    let words = replicate {A = ℕ} (n - 1) 0 in
    let some = each.0.0 in
    let long = length-append words (zone_words bs) in
    let zeros = length-replicate {A = ℕ} (n - 1) 0 in
    let fits : n ≤ suc (length (words ++ zone_words bs)) = omega (arith, some, long, zeros) in
    let right = right_tag after_gap n n (words ++ zone_words bs) each.0.1 some fits (ap (λ a. a && is_gap_tag n) joined.0) in
    goes_past fuel at n after_gap true (words ++ zone_words bs) (zone_words bs) right (gap_words n at (zone_words bs) each.0.1) (eq-eqb n (tag_size n) (sym each.0.1)) (past_gap n (zone_words bs) each.0.1)
    ∙ none_wrong_in_zone bs fuel (at + tag_size n) true each.1 joined.1
none_wrong_in_zone (live words ∷ bs) (suc fuel) at after_gap each joined =
    let size = suc (length words) in
    let long = length-append words (zone_words bs) in
    let fits : suc (length words) ≤ suc (length (words ++ zone_words bs)) = omega (arith, long) in
    let no_gap = used_is_no_gap (suc (length words)) each.0.1 in
    let right = right_tag after_gap (suc size) size (words ++ zone_words bs) (used_tag size each.0.1) each.0.0 fits (ap (λ b. after_gap && b) no_gap ∙ and-false after_gap) in
    let inner : wrong_in_gap at (suc size) (words ++ zone_words bs) ≡ None = ap (λ b. cond b (first_set (suc at) (take (suc size - 1) (words ++ zone_words bs))) None) no_gap in
    goes_past fuel at (suc size) after_gap false (words ++ zone_words bs) (zone_words bs) right inner no_gap (past_used words (zone_words bs) each.0.1)
    ∙ none_wrong_in_zone bs fuel (at + tag_size (suc size)) false each.1 joined

pub rest_is : (top k : ℕ) (u z r : List ℕ) → length u ≡ k → k + length z ≡ top → drop top ((u ++ z) ++ r) ≡ r
rest_is top k u z r start long =
    let both = length-append u z in
    let e : top ≡ length (u ++ z) = omega (arith, both, start, long) in
    ap (λ n. drop n ((u ++ z) ++ r)) e ∙ drop-append_seam (u ++ z) r

pub memory_is : (top : ℕ) (user : List ℕ) (zone : List Block) → top ≤ memory_length → length user ≡ zone_start → FillZone top zone → IsMemory top (memory_of top user zone)
memory_is top user zone most start fills = record { words = words; unbroken = λ i. option_or (wrong i) (set i) }
  where
    rest : List ℕ
    rest = replicate (memory_length - top) 0

    fit : zone_start + length (zone_words zone) ≡ top
    fit = let size = fills.size in let long = zone_length zone fills.each in omega (arith, size, long)

    words : length (memory_of top user zone) ≡ memory_length
    words =
        let all = length-append (user ++ zone_words zone) rest in
        let front = length-append user (zone_words zone) in
        let zeros = length-replicate {A = ℕ} (memory_length - top) 0 in
        let e : length (user ++ zone_words zone) + length rest ≡ memory_length = omega (arith, front, zeros, fit, start, most) in
        all ∙ e

    wrong : first_wrong (length (memory_of top user zone)) zone_start false (zone_part top (memory_of top user zone)) ≡ None
    wrong =
        ap (first_wrong (length (memory_of top user zone)) zone_start false) (part_is top zone_start user (zone_words zone) rest start (zone_takes top zone fills))
        ∙ none_wrong_in_zone zone (length (memory_of top user zone)) zone_start false fills.each fills.joined

    set : first_set top (drop top (memory_of top user zone)) ≡ None
    set = ap (first_set top) (rest_is top zone_start user (zone_words zone) rest start fit) ∙ none_set top (memory_length - top)

-- ---- the law
pub user_is : (k : ℕ) (u z r : List ℕ) → length u ≡ k → take k ((u ++ z) ++ r) ≡ u
user_is k u z r start = ap (λ (l : List ℕ). take k l) (append_assoc u z r) ∙ ap (λ n. take n (u ++ (z ++ r))) (sym start) ∙ take-append_seam u (z ++ r)

pub zones_read_back : ZonesReadBack
zones_read_back top user zone most start fills = record {
  zone_is = zone_is top user zone start fills;
  memory_is = memory_is top user zone most start fills;
  user_is = user_is zone_start user (zone_words zone) (replicate (memory_length - top) 0) start;
}
