-- The words of the memory as a session begins.
use Rattle.std.proofs.Common.{◌≡◌, ℕ, ◌+◌, ◌-◌, ◌<◌, ◌≤◌, List, [], ◌∷◌, ◌++◌, length, take, drop, replicate, refl, sym, ap, ap₂, ◌∙◌, arith, take_all}
use Rattle.std.proofs.lemmas.List.{append-nil, drop-replicate, length-append, length-replicate, take-append-le, take-replicate}
use Rattle.zones.specs.world_model.specs.Levels.{all_levels, level_base}
use Rattle.zones.specs.world_model.specs.Zones.{gap}
use Rattle.zones.specs.world_model.specs.ZoneWords.{block_words, memory_length, zone_start, zone_words}
use Rattle.world_swap.specs.Fresh.{fresh_memory}

base_is : level_base all_levels ≡ 40960
unfolding level_base
base_is = refl

pub base_after_start : zone_start < level_base all_levels
base_after_start = let is = base_is in omega (arith, is)

-- one free block among zeros
pub fresh_words : (from end : ℕ) (old new : List ℕ) → from ≡ zone_start → end ≡ level_base all_levels → old ≡ replicate memory_length 0 → new ≡ (take from old ++ block_words (gap (end - from))) ++ drop end old → new ≡ fresh_memory
fresh_words from end old new starts ends zeros is =
    is ∙ ap (λ l. (take from l ++ block_words (gap (end - from))) ++ drop end l) zeros
    ∙ ap₂ (λ m n. (take m (replicate memory_length 0) ++ block_words (gap (n - m))) ++ drop n (replicate memory_length 0)) starts ends
    ∙ ap (λ l. (l ++ block_words (gap (level_base all_levels - zone_start))) ++ drop (level_base all_levels) (replicate memory_length 0)) (take-replicate zone_start memory_length 0 (omega arith))
    ∙ ap (λ l. (replicate zone_start 0 ++ block_words (gap (level_base all_levels - zone_start))) ++ l) (drop-replicate (level_base all_levels) memory_length 0)
    ∙ ap (λ l. (replicate zone_start 0 ++ l) ++ replicate (memory_length - level_base all_levels) 0) (sym (append-nil (block_words (gap (level_base all_levels - zone_start)))))

-- of which there are as many as addresses
fresh_length : length fresh_memory ≡ memory_length
fresh_length =
    let is = base_is in
    let zone : List ℕ = zone_words (gap (level_base all_levels - zone_start) ∷ []) in
    let last : List ℕ = replicate (memory_length - level_base all_levels) 0 in
    let front = length-append (replicate zone_start 0) zone in
    let both = length-append (replicate zone_start 0 ++ zone) last in
    let user = length-replicate {A = ℕ} zone_start 0 in
    let ends = length-replicate {A = ℕ} (memory_length - level_base all_levels) 0 in
    let block : length zone ≡ level_base all_levels - zone_start =
    ap length (append-nil (block_words (gap (level_base all_levels - zone_start)))) ∙ (let zeros = length-replicate {A = ℕ} (level_base all_levels - zone_start - 1) 0 in omega (arith, zeros, is)) in
    omega (arith, is, front, both, user, ends, block)

-- a part of a vector that is all of it
pub all_of_it : (count : ℕ) (words rest : List ℕ) → count ≡ memory_length → words ≡ fresh_memory → take count (words ++ rest) ≡ fresh_memory
all_of_it count words rest many is =
    let long : length words ≡ count = ap length is ∙ fresh_length ∙ sym many in
    take-append-le count words rest (omega (arith, long)) ∙ take_all count words (omega (arith, long)) ∙ is
