-- The words of a free block of which a part is taken.
use Rattle.std.proofs.Common.{◌≡◌, ◌≤◌, ℕ, ◌+◌, ◌-◌, zero, suc, List, [], ◌∷◌, ◌++◌, refl, sym, ap, ◌∙◌, take, drop, get_or, replicate, set, arith, append_assoc}
use Rattle.std.proofs.lemmas.List.{drop-drop, length-take-le, take-append-drop}
use Rattle.laws_zone.specs.world_model.specs.Zones.{Block, gap, live, left_before}
use Rattle.laws_zone.specs.world_model.specs.ZoneWords.{block_words, zone_words}
use Rattle.zones.specs.Gaps.{IsGapAt}
use Rattle.laws_zone.proofs.Taking.{used_all, used_part}

gap_memory : (m : List ℕ) (at n : ℕ) → take n (drop at m) ≡ block_words (gap n) → m ≡ take at m ++ (n ∷ replicate (n - 1) 0 ++ drop (at + n) m)
gap_memory m at n words =
    sym (take-append-drop at m)
    ∙ ap (λ (l : List ℕ). take at m ++ l) (sym (take-append-drop n (drop at m)) ∙ (λ i. words i ++ drop-drop n at m i))

some_left : (k : ℕ) → 1 ≤ k → left_before k [] ≡ gap k ∷ []
some_left zero some = absurd (omega (arith, some))
some_left (suc k) some = refl

abbrev after_taking : List ℕ → ℕ → ℕ → List ℕ
after_taking m at size = (take at m ++ zone_words (live (replicate (size - 1) 0) ∷ left_before (get_or m at 0 - size) [])) ++ drop (at + get_or m at 0) m

pub part_taken : (m : List ℕ) (at size k : ℕ) → IsGapAt m at size → k ≡ size → 1 ≤ get_or m at 0 - size → set (set m at (size + 1)) (at + k) (get_or m at 0 - size) ≡ after_taking m at size
part_taken m at size k g e more =
    let n : ℕ = get_or m at 0 in
    let left : ℕ = get_or m at 0 - size in
    let within = g.within in
    let some = g.some in
    let long = length-take-le at m (omega (arith, within)) in
    let whole : get_or m at 0 ≡ size + (get_or m at 0 - size) = omega (arith, more) in
    (λ i. set (set (gap_memory m at n g.words i) at (size + 1)) (at + e i) left)
    ∙ ap (λ j. set (set (take at m ++ (j ∷ replicate (j - 1) 0 ++ drop (at + n) m)) at (size + 1)) (at + size) left) whole
    ∙ used_part (take at m) (drop (at + n) m) at size left long some more
    ∙ ap (λ (z : List Block). take at m ++ (zone_words (live (replicate (size - 1) 0) ∷ z) ++ drop (at + n) m)) (sym (some_left left more))
    ∙ sym (append_assoc (take at m) (zone_words (live (replicate (size - 1) 0) ∷ left_before left [])) (drop (at + n) m))

pub all_taken : (m : List ℕ) (at size : ℕ) → IsGapAt m at size → get_or m at 0 - size ≡ 0 → set m at (size + 1) ≡ after_taking m at size
all_taken m at size g none =
    let n : ℕ = get_or m at 0 in
    let within = g.within in
    let fits = g.fits in
    let long = length-take-le at m (omega (arith, within)) in
    let whole : get_or m at 0 ≡ size = omega (arith, none, fits) in
    (λ i. set (gap_memory m at n g.words i) at (size + 1))
    ∙ ap (λ j. set (take at m ++ (j ∷ replicate (j - 1) 0 ++ drop (at + n) m)) at (size + 1)) whole
    ∙ used_all (take at m) (drop (at + n) m) at size long g.some
    ∙ ap (λ j. take at m ++ (zone_words (live (replicate (size - 1) 0) ∷ left_before j []) ++ drop (at + n) m)) (sym none)
    ∙ sym (append_assoc (take at m) (zone_words (live (replicate (size - 1) 0) ∷ left_before (n - size) [])) (drop (at + n) m))
