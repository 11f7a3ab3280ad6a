-- Used blocks past a word, and the words after the block that is cut there.
use Rattle.std.proofs.Common.{◌≡◌, ◌≤◌, ◌<◌, ℕ, ◌+◌, ◌-◌, zero, suc, Bool, true, false, cond, List, [], ◌∷◌, ◌++◌, None, Some, refl, sym, subst, ap, ◌∙◌, length, drop, replicate, arith, append-nil}
use Rattle.std.proofs.lemmas.Bool.{le-ltb}
use Rattle.std.proofs.lemmas.List.{drop-drop}
use Rattle.std.specs.Prelude.{nat_lt}
use Rattle.world_model.specs.Zones.{Block, gap, live, block_size, used_above}
use Rattle.world_model.specs.ZoneWords.{IsMemory, memory_length, zone_in, zone_start, zone_words}
use Rattle.laws_zone.specs.Filling.{AreJoined, EachCanStand, IsTop, zone_size}
use Rattle.laws_zone.specs.PlaceLaws.{EndsInGap}
use Rattle.laws_zone.proofs.Rows.{each_last, size_of_both}
use Rattle.laws_zone.proofs.inside.Growing.{fewer_zeros}
use Rattle.laws_zone.proofs.inside.Levelling.{not_above}
use Rattle.laws_zone.proofs.inside.Remembering.{memories_have_such_zones}
use Rattle.laws_zone.proofs.inside.Replacing.{drop_back}

-- ---- used blocks past a word
pub used_more : (top at : ℕ) (bs : List Block) (b : Block) → used_above top at bs ≡ None → used_above top (at + zone_size bs) (b ∷ []) ≡ None → used_above top at (bs ++ b ∷ []) ≡ None
used_more top at [] b none last = let e : at + 0 ≡ at = omega arith in subst (λ k. used_above top k (b ∷ []) ≡ None) e last
used_more top at (gap n ∷ bs) b none last =
    let e : at + (n + zone_size bs) ≡ at + n + zone_size bs = omega arith in
    used_more top (at + n) bs b none (subst (λ k. used_above top k (b ∷ []) ≡ None) e last)
used_more top at (live words ∷ bs) b none last =
    let size : ℕ = suc (length words) in
    let e : at + (size + zone_size bs) ≡ at + size + zone_size bs = omega arith in
    let parts = not_above (nat_lt top (at + size)) (at + 1) (used_above top (at + size) bs) none in
    ap (λ c. cond c (Some (at + 1)) (used_above top (at + size) (bs ++ b ∷ []))) parts.0
    ∙ used_more top (at + size) bs b parts.1 (subst (λ k. used_above top k (b ∷ []) ≡ None) e last)

pub used_past : (top at : ℕ) (bs rest : List Block) → used_above top at bs ≡ None → used_above top at (bs ++ rest) ≡ used_above top (at + zone_size bs) rest
used_past top at [] rest none = let e : at ≡ at + 0 = omega arith in ap (λ k. used_above top k rest) e
used_past top at (gap n ∷ bs) rest none =
    let e : at + n + zone_size bs ≡ at + (n + zone_size bs) = omega arith in
    used_past top (at + n) bs rest none ∙ ap (λ k. used_above top k rest) e
used_past top at (live words ∷ bs) rest none =
    let size : ℕ = suc (length words) in
    let e : at + size + zone_size bs ≡ at + (size + zone_size bs) = omega arith in
    let parts = not_above (nat_lt top (at + size)) (at + 1) (used_above top (at + size) bs) none in
    ap (λ c. cond c (Some (at + 1)) (used_above top (at + size) (bs ++ rest))) parts.0
    ∙ used_past top (at + size) bs rest parts.1
    ∙ ap (λ k. used_above top k rest) e

-- of blocks that all end at it or before it none is past it
pub none_past_end : (low at : ℕ) (bs : List Block) → at + zone_size bs ≤ low → used_above low at bs ≡ None
none_past_end low at [] within = refl
none_past_end low at (gap n ∷ bs) within = none_past_end low (at + n) bs (omega (arith, within))
none_past_end low at (live words ∷ bs) within =
    let size : ℕ = suc (length words) in
    ap (λ c. cond c (Some (at + 1)) (used_above low (at + size) bs)) (le-ltb low (at + size) (omega (arith, within)))
    ∙ none_past_end low (at + size) bs (omega (arith, within))

-- ---- after a free block
-- those that follow it don't begin with a free one
pub joined_rest : (g : Bool) (bs rest : List Block) (n : ℕ) → AreJoined g (bs ++ gap n ∷ rest) → AreJoined true rest
joined_rest g [] rest n j = j.1
joined_rest g (gap k ∷ bs) rest n j = joined_rest true bs rest n j.1
joined_rest g (live words ∷ bs) rest n j = joined_rest false bs rest n j

-- ---- the block that is cut
-- from the word on all are zeros but the tag of that block
pub zeros_past : (top low from k : ℕ) (memory : List ℕ) → IsTop top → IsMemory top memory → EndsInGap top low memory from → from < k → drop k memory ≡ replicate (memory_length - k) 0
zeros_past top low from k memory t h c more =
    let fills = (memories_have_such_zones top memory t h).0 in
    let size = fills.size in
    let place = c.place in
    let whole : zone_size (zone_in top memory) ≡ zone_size c.before + (c.n + 0) = ap zone_size c.zone ∙ size_of_both c.before (gap c.n ∷ []) in
    let past = c.past in
    let high = t.most in
    let some : 1 ≤ c.n = (each_last c.before (gap c.n ∷ []) (subst EachCanStand c.zone fills.each)).0.0 in
    let e : k ≡ zone_start + zone_size c.before + (1 + (k - from - 1)) = omega (arith, place, more) in
    let f : (c.n - 1) + (memory_length - top) - (k - from - 1) ≡ memory_length - k = omega (arith, size, whole, place, high, more, some) in
    ap (λ j. drop j memory) e
    ∙ sym (drop-drop (1 + (k - from - 1)) (zone_start + zone_size c.before) memory)
    ∙ ap (drop (1 + (k - from - 1))) (drop_back top memory c.before (gap c.n ∷ []) t h c.zone)
    ∙ sym (drop-drop (k - from - 1) 1 (zone_words (gap c.n ∷ []) ++ replicate (memory_length - top) 0))
    ∙ ap (drop (k - from - 1)) (ap (λ (l : List ℕ). l ++ replicate (memory_length - top) 0) (append-nil (replicate (c.n - 1) 0)) ∙ sym (zeros_sum (c.n - 1) (memory_length - top)))
    ∙ fewer_zeros (k - from - 1) ((c.n - 1) + (memory_length - top))
    ∙ ap (λ j. replicate j 0) f
  where
    zeros_sum : (a b : ℕ) → replicate {A = ℕ} (a + b) 0 ≡ replicate a 0 ++ replicate b 0
    zeros_sum zero b = ap (λ n. replicate n 0) (omega arith)
    zeros_sum (suc a) b = let e : suc a + b ≡ suc (a + b) = omega arith in ap (λ n. replicate n 0) e ∙ ap (λ (l : List ℕ). 0 ∷ l) (zeros_sum a b)
