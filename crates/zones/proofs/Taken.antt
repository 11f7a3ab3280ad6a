-- Free blocks that are taken.
use Rattle.std.proofs.Common.{◌≡◌, ◌≤◌, ℕ, ◌+◌, ◌-◌, zero, suc, cond, List, [], ◌∷◌, ◌++◌, None, Some, refl, ap, ◌∙◌, length, replicate, arith, max}
use Rattle.std.proofs.lemmas.Bool.{le-leb, lt-leb}
use Rattle.laws_zone.specs.world_model.specs.Zones.{Block, gap, live, largest_gap, left_before, taken, taken_after, taken_here}
use Rattle.laws_zone.specs.Filling.{zone_size}
use Rattle.zones.specs.Taking.{NoneFits}

-- ---- lowest
pub none_taken : (size at : ℕ) (zone : List Block) → NoneFits size zone → taken at size zone ≡ None
none_taken size at [] none = refl
none_taken size at (gap n ∷ bs) none =
    ap (λ b. cond b (Some (taken_here at size n bs)) (taken_after (gap n) (taken (at + n) size bs))) (lt-leb size n none.0)
    ∙ ap (taken_after (gap n)) (none_taken size (at + n) bs none.1)
none_taken size at (live words ∷ bs) none = ap (taken_after (live words)) (none_taken size (at + suc (length words)) bs none)

pub none_more : (size : ℕ) (zone : List Block) (b : Block) → NoneFits size zone → NoneFits size (b ∷ []) → NoneFits size (zone ++ b ∷ [])
none_more size [] b none last = last
none_more size (gap n ∷ bs) b none last = (none.0, none_more size bs b none.1 last)
none_more size (live words ∷ bs) b none last = none_more size bs b none last

pub taken_at : (size at n : ℕ) (before after : List Block) → NoneFits size before → size ≤ n
    → taken at size (before ++ gap n ∷ after) ≡ Some (record { at = at + zone_size before + 1; blocks = before ++ live (replicate (size - 1) 0) ∷ left_before (n - size) after })
taken_at size at n [] after none fits =
    let e : at + 1 ≡ at + 0 + 1 = omega arith in
    ap (λ b. cond b (Some (taken_here at size n after)) (taken_after (gap n) (taken (at + n) size after))) (le-leb size n fits)
    ∙ ap (λ k. Some (record { at = k; blocks = live (replicate (size - 1) 0) ∷ left_before (n - size) after })) e
taken_at size at n (gap k ∷ before) after none fits =
    let e : at + k + zone_size before + 1 ≡ at + (k + zone_size before) + 1 = omega arith in
    ap (λ b. cond b (Some (taken_here at size k (before ++ gap n ∷ after))) (taken_after (gap k) (taken (at + k) size (before ++ gap n ∷ after)))) (lt-leb size k none.0)
    ∙ ap (taken_after (gap k)) (taken_at size (at + k) n before after none.1 fits)
    ∙ ap (λ j. Some (record { at = j; blocks = gap k ∷ before ++ live (replicate (size - 1) 0) ∷ left_before (n - size) after })) e
taken_at size at n (live words ∷ before) after none fits =
    let e : at + suc (length words) + zone_size before + 1 ≡ at + (suc (length words) + zone_size before) + 1 = omega arith in
    ap (taken_after (live words)) (taken_at size (at + suc (length words)) n before after none fits)
    ∙ ap (λ j. Some (record { at = j; blocks = live words ∷ before ++ live (replicate (size - 1) 0) ∷ left_before (n - size) after })) e

-- ---- the most
pub largest_more : (zone : List Block) (b : Block) → largest_gap (zone ++ b ∷ []) ≡ max (largest_gap zone) (largest_gap (b ∷ []))
largest_more [] b = omega arith
largest_more (gap n ∷ bs) b = let rest = largest_more bs b in omega (arith, rest)
largest_more (live words ∷ bs) b = largest_more bs b

-- the rest of a free block stands before the blocks after it
pub left_words : (n : ℕ) (after : List Block) → left_before n after ≡ left_before n [] ++ after
left_words zero after = refl
left_words (suc n) after = refl
