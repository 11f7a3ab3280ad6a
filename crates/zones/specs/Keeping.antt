-- The words of used blocks, before a call and after it.
use Rattle.std.specs.Prelude.{◌≡◌, ◌<◌, ◌≤◌, ◌⊎◌, ℕ, suc, ◌+◌, ◌==◌, cond, List, [], ◌∷◌, Some, length}
use Rattle.laws_zone.specs.world_model.specs.Zones.{Block, gap, live, zone_word}
use Rattle.laws_zone.specs.world_model.specs.ZoneWords.{zone_start}

-- each word of a used block stands as it did
abbrev pub KeepsWords : List Block → List Block → Type 0
KeepsWords old new = (at x : ℕ) → zone_word zone_start at old ≡ Some x → zone_word zone_start at new ≡ Some x

-- ---- those of all used blocks except one
-- the number of usable words of the used block with this first usable word, where the first block begins at `start`; 0 if no used block has it
abbrev pub usable_words : ℕ → ℕ → List Block → ℕ
usable_words start first [] = 0
usable_words start first (gap n ∷ bs) = usable_words (start + n) first bs
usable_words start first (live words ∷ bs) = cond (first == start + 1) (length words) (usable_words (start + suc (length words)) first bs)

-- each word of a used block stands as it did, except those of the block with this first usable word
abbrev pub KeepsOtherWords : ℕ → List Block → List Block → Type 0
KeepsOtherWords first old new = (at x : ℕ) → (at < first) ⊎ (first + usable_words zone_start first old ≤ at) → zone_word zone_start at old ≡ Some x → zone_word zone_start at new ≡ Some x
