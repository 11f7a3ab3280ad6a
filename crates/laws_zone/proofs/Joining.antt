-- A used block that becomes free, and the free blocks beside it.
use Rattle.std.proofs.Common.{◌≡◌, ◌≢◌, ◌≤◌, ℕ, ◌+◌, zero, suc, Bool, true, false, cond, List, [], ◌∷◌, ◌++◌, None, Some, refl, sym, subst, ap, ◌∙◌, length, arith}
use Rattle.std.proofs.lemmas.Bool.{eq-eqb, ne_eqb}
use Rattle.std.specs.Option.{option_map}
use Rattle.world_model.specs.Zones.{Block, gap, live, block_size, freed, join_gap, joined_gaps, left_before}
use Rattle.world_model.specs.ZoneWords.{zone_start}
use Rattle.laws_zone.specs.BlockLaws.{FreedBlocksJoin}
use Rattle.laws_zone.specs.Filling.{AreJoined, EachCanStand, back_of, first_gap, front_of, last_gap, zone_size}
use Rattle.laws_zone.specs.WalkLaws.{is_gap}

-- ---- blocks that are joined stay as they are
pub joined_same : (after_gap : Bool) (bs : List Block) → AreJoined after_gap bs → joined_gaps bs ≡ bs
joined_same after_gap [] j = refl
joined_same after_gap (gap n ∷ []) j = refl
joined_same after_gap (gap n ∷ gap k ∷ bs) j = absurd (let e : true ≡ false = j.1.0 in cc)
joined_same after_gap (gap n ∷ live words ∷ bs) j = ap (join_gap n) (joined_same true (live words ∷ bs) j.1)
joined_same after_gap (live words ∷ bs) j = ap (λ (l : List Block). live words ∷ l) (joined_same false bs j)

gap_joins_first : (s : ℕ) (after : List Block) (g : Bool) → AreJoined g after → join_gap s (joined_gaps after) ≡ gap (s + first_gap after) ∷ back_of after
gap_joins_first s after g j = ap (join_gap s) (joined_same g after j) ∙ by after
  where
    by : (l : List Block) → join_gap s l ≡ gap (s + first_gap l) ∷ back_of l
    by [] = let e : s ≡ s + 0 = omega arith in ap (λ n. gap n ∷ []) e
    by (gap k ∷ bs) = refl
    by (live words ∷ bs) = let e : s ≡ s + 0 = omega arith in ap (λ n. gap n ∷ live words ∷ bs) e

-- what joins a block with the free ones beside it
joined_around : (after_gap : Bool) (s : ℕ) (words : List ℕ) (before after : List Block) → AreJoined after_gap (before ++ live words ∷ after)
    → joined_gaps (before ++ gap s ∷ after) ≡ front_of before ++ gap (last_gap before + s + first_gap after) ∷ back_of after
joined_around after_gap s words [] after j = let e : s + first_gap after ≡ 0 + s + first_gap after = omega arith in gap_joins_first s after false j ∙ ap (λ n. gap n ∷ back_of after) e
joined_around after_gap s words (gap n ∷ []) after j =
    let e : n + (s + first_gap after) ≡ n + s + first_gap after = omega arith in
    ap (join_gap n) (gap_joins_first s after false j.1) ∙ ap (λ k. gap k ∷ back_of after) e
joined_around after_gap s words (gap n ∷ gap k ∷ bs) after j = absurd (let e : true ≡ false = j.1.0 in cc)
joined_around after_gap s words (gap n ∷ live ws ∷ bs) after j = ap (join_gap n) (joined_around true s words (live ws ∷ bs) after j.1)
joined_around after_gap s words (live ws ∷ bs) after j = ap (λ (l : List Block). live ws ∷ l) (joined_around false s words bs after j)

pub freed_blocks_join : FreedBlocksJoin
freed_blocks_join s words before after j = joined_around false s words before after j

-- ---- sizes and parts
pub front_size : (bs : List Block) → zone_size (front_of bs) + last_gap bs ≡ zone_size bs
front_size [] = refl
front_size (gap n ∷ []) = omega arith
front_size (gap n ∷ b ∷ bs) = let rest = front_size (b ∷ bs) in omega (arith, rest)
front_size (live words ∷ bs) = let rest = front_size bs in omega (arith, rest)

some_left : (k : ℕ) (bs : List Block) → 1 ≤ k → left_before k bs ≡ gap k ∷ bs
some_left zero bs some = absurd (omega (arith, some))
some_left (suc k) bs some = refl

pub front_splits : (bs : List Block) → EachCanStand bs → bs ≡ front_of bs ++ left_before (last_gap bs) []
front_splits [] each = refl
front_splits (gap n ∷ []) each = sym (some_left n [] each.0.0)
front_splits (gap n ∷ b ∷ bs) each = ap (λ (l : List Block). gap n ∷ l) (front_splits (b ∷ bs) each.1)
front_splits (live words ∷ bs) each = ap (λ (l : List Block). live words ∷ l) (front_splits bs each.1)

pub back_splits : (bs : List Block) → EachCanStand bs → bs ≡ left_before (first_gap bs) [] ++ back_of bs
back_splits [] each = refl
back_splits (gap n ∷ bs) each = sym (ap (λ (l : List Block). l ++ bs) (some_left n [] each.0.0))
back_splits (live words ∷ bs) each = refl

pub left_size : (k : ℕ) → zone_size (left_before k []) ≡ k
left_size zero = refl
left_size (suc k) = omega arith

-- ---- the block of an address
-- no used block has this first usable word
abbrev pub NotAt : ℕ → ℕ → List Block → Type 0
NotAt at a [] = Unit {0}
NotAt at a (gap n ∷ bs) = NotAt (at + n) a bs
NotAt at a (live words ∷ bs) = (a ≢ at + 1) × NotAt (at + suc (length words)) a bs

pub not_freed : (at a : ℕ) (bs : List Block) → NotAt at a bs → freed at a bs ≡ None
not_freed at a [] none = refl
not_freed at a (gap n ∷ bs) none = ap (option_map (λ (r : List Block). gap n ∷ r)) (not_freed (at + n) a bs none)
not_freed at a (live words ∷ bs) none =
    ap (λ b. cond b (Some (gap (suc (length words)) ∷ bs)) (option_map (λ (r : List Block). live words ∷ r) (freed (at + suc (length words)) a bs))) (ne_eqb a (at + 1) none.0)
    ∙ ap (option_map (λ (r : List Block). live words ∷ r)) (not_freed (at + suc (length words)) a bs none.1)

pub not_at_more : (at a : ℕ) (bs : List Block) (b : Block) → NotAt at a bs → NotAt (at + zone_size bs) a (b ∷ []) → NotAt at a (bs ++ b ∷ [])
not_at_more at a [] b none last = let e : at + 0 ≡ at = omega arith in subst (λ k. NotAt k a (b ∷ [])) e last
not_at_more at a (gap n ∷ bs) b none last = let e : at + (n + zone_size bs) ≡ at + n + zone_size bs = omega arith in not_at_more (at + n) a bs b none (subst (λ k. NotAt k a (b ∷ [])) e last)
not_at_more at a (live words ∷ bs) b none last =
    let e : at + (suc (length words) + zone_size bs) ≡ at + suc (length words) + zone_size bs = omega arith in
    (none.0, not_at_more (at + suc (length words)) a bs b none.1 (subst (λ k. NotAt k a (b ∷ [])) e last))

pub freed_at : (at a : ℕ) (before : List Block) (words : List ℕ) (after : List Block) → a ≡ at + zone_size before + 1 → EachCanStand before → freed at a (before ++ live words ∷ after) ≡ Some (before ++ gap (suc (length words)) ∷ after)
freed_at at a [] words after is each =
    let e : a ≡ at + 1 = omega (arith, is) in
    ap (λ b. cond b (Some (gap (suc (length words)) ∷ after)) (option_map (λ (r : List Block). live words ∷ r) (freed (at + suc (length words)) a after))) (eq-eqb a (at + 1) e)
freed_at at a (gap n ∷ before) words after is each = ap (option_map (λ (r : List Block). gap n ∷ r)) (freed_at (at + n) a before words after (omega (arith, is)) each.1)
freed_at at a (live ws ∷ before) words after is each =
    let apart : a ≢ at + 1 = λ e. absurd (omega (arith, is, e)) in
    ap (λ b. cond b (Some (gap (suc (length ws)) ∷ (before ++ live words ∷ after))) (option_map (λ (r : List Block). live ws ∷ r) (freed (at + suc (length ws)) a (before ++ live words ∷ after)))) (ne_eqb a (at + 1) apart)
    ∙ ap (option_map (λ (r : List Block). live ws ∷ r)) (freed_at (at + suc (length ws)) a before words after (omega (arith, is)) each.1)

-- ---- the free block at the end, as a walk goes on
pub last_gap_more : (bs : List Block) (b : Block) → last_gap (bs ++ b ∷ []) ≡ last_gap (b ∷ [])
last_gap_more [] b = refl
last_gap_more (gap n ∷ []) b = refl
last_gap_more (gap n ∷ c ∷ bs) b = last_gap_more (c ∷ bs) b
last_gap_more (live words ∷ bs) b = last_gap_more bs b

-- where the free block begins that ends at the end of the next block, of so many words
pub free_more : (here size : ℕ) (b : Block) (z : ℕ) (g : Bool) → g ≡ is_gap b → size ≡ block_size b → here ≡ zone_start + z → cond g here (here + size) + last_gap (b ∷ []) ≡ zone_start + (z + (block_size b + 0))
free_more here size (gap n) z g k e place = ap (λ b. cond b here (here + size) + n) k ∙ (omega (arith, place))
free_more here size (live words) z g k e place = ap (λ b. cond b here (here + size) + 0) k ∙ (omega (arith, e, place))
