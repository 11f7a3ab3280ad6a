-- What the walk finds before all levels come back, and the memory then.
use Rattle.std.proofs.Common.{◌≡◌, ◌≤◌, ◌<◌, ℕ, ◌+◌, ◌-◌, ◌&&◌, suc, zero, Bool, true, false, cond, not, List, [], ◌∷◌, ◌++◌, None, Some, Ok, Err, refl, sym, subst, ap, ◌∙◌, length, take, drop, drop-cons, replicate, set, get_or, arith, append_assoc, append-nil}
use Rattle.std.proofs.Math.Seq.{set-append_seam}
use Rattle.std.proofs.lemmas.Bool.{lt-ltb, ltb-false, ltb-true}
use Rattle.std.proofs.lemmas.List.{length-take-le, take-append-drop}
use Rattle.std.specs.Prelude.{nat_lt}
use Rattle.zones.specs.world_model.specs.Zones.{Block, gap, live, block_size, left_before, shrunk, used_above}
use Rattle.zones.specs.world_model.specs.ZoneWords.{IsMemory, block_words, is_gap_tag, memory_length, tag_size, zone_in, zone_start, zone_words}
use Rattle.zones.specs.laws_zone.specs.Filling.{AreJoined, EachCanStand, FillZone, IsTop, zone_size}
use Rattle.zones.specs.laws_zone.specs.PlaceLaws.{EndsInGap, NowHas}
use Rattle.zones.specs.laws_zone.specs.WalkLaws.{is_gap}
use Rattle.zones.specs.laws_zone.proofs.Cutting.{joined_rest, used_more, used_past, zeros_past}
use Rattle.zones.specs.laws_zone.proofs.Rows.{each_last, size_of_both}
use Rattle.zones.specs.laws_zone.proofs.Walking.{Meets, Standing, goes_on, meets}
use Rattle.zones.specs.laws_zone.proofs.memories.Laws.{memories_have_such_zones}
use Rattle.zones.specs.laws_zone.proofs.places.Laws.{zones_shrink}
use Rattle.junta_levels.specs.Cuts.{FindsCut, after_cut, in_block}

-- ---- no used block past the word so far
abbrev pub NonePast : ℕ → List Block → Type 0
NonePast low before = used_above low zone_start before ≡ None

one_none : (low at : ℕ) (b : Block) → (not (is_gap b) && nat_lt low (at + block_size b)) ≡ false → used_above low at (b ∷ []) ≡ None
one_none low at (gap n) e = refl
one_none low at (live words) e = ap (λ c. cond c (Some (at + 1)) None) e

pub past_on : (top low : ℕ) (memory : List ℕ) (here : ℕ) → IsTop top → IsMemory top memory → Standing top memory here (NonePast low) → here < top → (not (is_gap_tag (get_or memory here 0)) && nat_lt low (here + tag_size (get_or memory here 0))) ≡ false
    → Standing top memory (here + tag_size (get_or memory here 0)) (NonePast low)
past_on top low memory here t h s below test =
    let m = meets top memory here (NonePast low) t h s below in
    let test_is = sym (λ i. not (m.kind i) && nat_lt low (here + m.size i)) ∙ test in
    goes_on top memory here (NonePast low) (NonePast low) m
    (λ so. used_more low zone_start m.before m.block so (subst (λ k. used_above low k (m.block ∷ []) ≡ None) m.place (one_none low here m.block test_is)))

-- ---- the block that has the word
-- of a used block
past_used : (top low : ℕ) (memory : List ℕ) (here : ℕ) (before : List Block) (words : List ℕ) (after : List Block) → zone_in top memory ≡ before ++ live words ∷ after → here ≡ zone_start + zone_size before
    → NonePast low before → low < here + suc (length words) → used_above low zone_start (zone_in top memory) ≡ Some (here + 1)
past_used top low memory here before words after zone place none past =
    ap (used_above low zone_start) zone
    ∙ used_past low zone_start before (live words ∷ after) none
    ∙ ap (λ k. used_above low k (live words ∷ after)) (sym place)
    ∙ ap (λ c. cond c (Some (here + 1)) (used_above low (here + suc (length words)) after)) (lt-ltb low (here + suc (length words)) past)

-- of a free one that doesn't end the zone
past_gap : (top low : ℕ) (memory : List ℕ) (here : ℕ) (before : List Block) (n : ℕ) (after : List Block) → IsTop top → IsMemory top memory → zone_in top memory ≡ before ++ gap n ∷ after → here ≡ zone_start + zone_size before
    → NonePast low before → low < here + n → here + n < top → used_above low zone_start (zone_in top memory) ≡ Some (here + n + 1)
past_gap top low memory here before n after t h zone place none past more =
    ap (used_above low zone_start) zone
    ∙ used_past low zone_start before (gap n ∷ after) none
    ∙ ap (λ k. used_above low (k + n) after) (sym place)
    ∙ by after (joined_rest false before after n (subst (AreJoined false) zone fills.joined)) sizes
  where
    fills : FillZone top (zone_in top memory)
    fills = (memories_have_such_zones top memory t h).0

    sizes : zone_start + (zone_size before + (n + zone_size after)) ≡ top
    sizes = ap (λ k. zone_start + k) (sym (ap zone_size zone ∙ size_of_both before (gap n ∷ after))) ∙ fills.size

    by : (l : List Block) → AreJoined true l → zone_start + (zone_size before + (n + zone_size l)) ≡ top → used_above low (here + n) l ≡ Some (here + n + 1)
    by [] j size = absurd (omega (arith, size, place, more))
    by (gap k ∷ bs) j size = absurd (let e : true ≡ false = j.0 in cc)
    by (live words ∷ bs) j size = ap (λ c. cond c (Some (here + n + 1)) (used_above low (here + n + suc (length words)) bs)) (lt-ltb low (here + n + suc (length words)) (omega (arith, past)))

-- of a free one that ends it
cut_gap : (top low : ℕ) (memory : List ℕ) (here : ℕ) (before : List Block) (n : ℕ) (after : List Block) → IsTop top → IsMemory top memory → zone_in top memory ≡ before ++ gap n ∷ after → here ≡ zone_start + zone_size before
    → NonePast low before → here ≤ low → low < here + n → top ≤ here + n → EndsInGap top low memory here × (used_above low zone_start (zone_in top memory) ≡ None)
cut_gap top low memory here before n after t h zone place none first past last =
    (record { before = before; n = n; zone = whole; place = place; first = first; past = past }, ap (used_above low zone_start) whole ∙ used_past low zone_start before (gap n ∷ []) none)
  where
    fills : FillZone top (zone_in top memory)
    fills = (memories_have_such_zones top memory t h).0

    each : EachCanStand after
    each = (each_last before (gap n ∷ after) (subst EachCanStand zone fills.each)).1

    sizes : zone_start + (zone_size before + (n + zone_size after)) ≡ top
    sizes = ap (λ k. zone_start + k) (sym (ap zone_size zone ∙ size_of_both before (gap n ∷ after))) ∙ fills.size

    none_left : (l : List Block) → EachCanStand l → zone_start + (zone_size before + (n + zone_size l)) ≡ top → l ≡ []
    none_left [] e size = refl
    none_left (b ∷ bs) e size = absurd (let some = e.0.0 in omega (arith, some, size, place, last))

    whole : zone_in top memory ≡ before ++ gap n ∷ []
    whole = zone ∙ ap (λ (l : List Block). before ++ gap n ∷ l) (none_left after each sizes)

pub cut_found : (top low : ℕ) (memory : List ℕ) (here : ℕ) → IsTop top → IsMemory top memory → Standing top memory here (NonePast low) → here < top → here ≤ low → low < here + tag_size (get_or memory here 0)
    → FindsCut top low memory (in_block (is_gap_tag (get_or memory here 0)) here (here + tag_size (get_or memory here 0)) top)
cut_found top low memory here t h s below first past =
    subst (λ g. FindsCut top low memory (in_block g here (here + tag_size (get_or memory here 0)) top)) (sym m.kind)
    (subst (λ k. FindsCut top low memory (in_block (is_gap m.block) here (here + k) top)) (sym m.size) (by m.block m.zone (subst (λ k. low < here + k) m.size past)))
  where
    m : Meets top memory here (NonePast low)
    m = meets top memory here (NonePast low) t h s below

    at_end : (b : Bool) (n : ℕ) → zone_in top memory ≡ m.before ++ gap n ∷ m.after → low < here + n → nat_lt (here + n) top ≡ b → FindsCut top low memory (cond b (Err (here + n + 1)) (Ok here))
    at_end true n zone less e = past_gap top low memory here m.before n m.after t h zone m.place m.so less (ltb-true (here + n) top e)
    at_end false n zone less e = cut_gap top low memory here m.before n m.after t h zone m.place m.so first less (ltb-false (here + n) top e)

    by : (b : Block) → zone_in top memory ≡ m.before ++ b ∷ m.after → low < here + block_size b → FindsCut top low memory (in_block (is_gap b) here (here + block_size b) top)
    by (gap n) zone less = at_end (nat_lt (here + n) top) n zone less refl
    by (live words) zone less = past_used top low memory here m.before words m.after zone m.place m.so less

-- ---- the memory then
some_left : (k : ℕ) → 1 ≤ k → left_before k [] ≡ gap k ∷ []
some_left zero some = absurd (omega (arith, some))
some_left (suc k) some = refl

cut_part : (top low from : ℕ) (old new : List ℕ) → IsTop top → IsTop low → low < top → IsMemory top old → EndsInGap top low old from → used_above low zone_start (zone_in top old) ≡ None → from < low
    → new ≡ (take from old ++ block_words (gap (low - from))) ++ drop low old → NowHas low old new (shrunk (low - zone_start) (zone_in top old))
cut_part top low from old new t u less h c none before is =
    zones_shrink top low from old new t u (omega (arith, less)) h c none
    (is
    ∙ append_assoc (take from old) (block_words (gap (low - from))) (drop low old)
    ∙ (λ i. take from old ++ (sym (append-nil (block_words (gap (low - from)))) i ++ zeros_past top low from low old t h c before i))
    ∙ ap (λ (z : List Block). take from old ++ (zone_words z ++ replicate (memory_length - low) 0)) (sym (some_left (low - from) (omega (arith, before)))))

cut_whole : (top low from : ℕ) (old : List ℕ) → IsTop top → IsTop low → low < top → IsMemory top old → EndsInGap top low old from → used_above low zone_start (zone_in top old) ≡ None → low ≤ from
    → NowHas low old (set old from 0) (shrunk (low - zone_start) (zone_in top old))
cut_whole top low from old t u less h c none after =
    zones_shrink top low from old (set old from 0) t u (omega (arith, less)) h c none words
  where
    first : from ≤ low
    first = c.first

    same : low ≡ from
    same = omega (arith, first, after)

    long : length old ≡ memory_length
    long = h.words

    most : top ≤ memory_length
    most = t.most

    within : from < length old
    within = omega (arith, first, less, most, long)

    up : memory_length - low ≡ suc (memory_length - suc from)
    up = omega (arith, same, within, long)

    seam : from ≡ length (take from old)
    seam = sym (length-take-le from old (omega (arith, within)))

    split : old ≡ take from old ++ (get_or old from 0 ∷ replicate (memory_length - suc from) 0)
    split =
        sym (take-append-drop from old)
        ∙ ap (λ (l : List ℕ). take from old ++ l) (drop-cons old from 0 within ∙ ap (λ (l : List ℕ). get_or old from 0 ∷ l) (zeros_past top low from (suc from) old t h c (omega arith)))

    none_left : low - from ≡ 0
    none_left = omega (arith, same)

    words : set old from 0 ≡ take from old ++ (zone_words (left_before (low - from) []) ++ replicate (memory_length - low) 0)
    words =
        (λ i. set (split i) (seam i) 0)
        ∙ set-append_seam (take from old) (get_or old from 0) (replicate (memory_length - suc from) 0) 0
        ∙ ap (λ n. take from old ++ replicate n 0) (sym up)
        ∙ ap (λ k. take from old ++ (zone_words (left_before k []) ++ replicate (memory_length - low) 0)) (sym none_left)

pub cut_makes : (top low from : ℕ) (old new : List ℕ) → IsTop top → IsTop low → low < top → IsMemory top old → EndsInGap top low old from → used_above low zone_start (zone_in top old) ≡ None → new ≡ after_cut from low old
    → NowHas low old new (shrunk (low - zone_start) (zone_in top old))
cut_makes top low from old new t u less h c none is = by (nat_lt from low) refl is
  where
    by : (b : Bool) → nat_lt from low ≡ b → new ≡ cond b ((take from old ++ block_words (gap (low - from))) ++ drop low old) (set old from 0) → NowHas low old new (shrunk (low - zone_start) (zone_in top old))
    by true e is = cut_part top low from old new t u less h c none (ltb-true from low e) is
    by false e is = subst (λ m. NowHas low old m (shrunk (low - zone_start) (zone_in top old))) (sym is) (cut_whole top low from old t u less h c none (ltb-false from low e))
