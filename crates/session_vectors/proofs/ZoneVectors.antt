-- Small cases of zones, levels and the files of worlds.
use Rattle.std.proofs.Common.{◌≡◌, false, List, [], ◌∷◌, Some, None, refl}
use Rattle.std.specs.Prelude.{replicate}
use Rattle.session_model.specs.world_model.specs.Zones.{Block, gap, live, size_for, taken, largest_gap, freed, given_back, zone_word, zone_set}
use Rattle.session_model.specs.world_model.specs.StateFiles.{fault_of, length_fault, mark_fault, not_a_world, not_whole}
use Rattle.session_model.specs.world_model.specs.ZoneWords.{zone_words, blocks_in, first_wrong, storable_word, zone_start}
use Rattle.session_model.specs.world_model.specs.Levels.{all_levels, level_base, level_kept, zone_kept, used_by_levels, zone_below_all}

-- ---- the bases of the levels
bases :
    (level_base 1 ≡ 64512)
    × (level_base 2 ≡ 63488)
    × (level_base 3 ≡ 61440)
    × (level_base 4 ≡ 57344)
    × (level_base 5 ≡ 53248)
    × (level_base 6 ≡ 49152)
    × (level_base 7 ≡ 45056)
    × (level_base 8 ≡ 40960)
    × (all_levels ≡ 8)
unfolding level_base
bases = (refl, refl, refl, refl, refl, refl, refl, refl, refl)

-- ---- blocks that are taken and given back
-- 100 words take 102; where 39,834 are left no block of 40,000 fits, and the most is a word less
abbrev one_block : List Block
one_block = live (replicate 101 0) ∷ gap 39834 ∷ []

blocks_taken :
    (size_for 1 ≡ 2)
    × (size_for 2 ≡ 4)
    × (size_for 100 ≡ 102)
    × (taken zone_start (size_for 100) (gap 39936 ∷ []) ≡ Some (record { at = 1025; blocks = one_block }))
    × (taken zone_start (size_for 40000) one_block ≡ None)
    × (largest_gap one_block ≡ 39833)
    × (given_back zone_start 1025 one_block ≡ Some (gap 39936 ∷ []))
    × (given_back zone_start 1025 (gap 39936 ∷ []) ≡ None)
    × (given_back zone_start 1026 one_block ≡ None)
blocks_taken = (refl, refl, refl, refl, refl, refl, refl, refl, refl)

-- the lowest that fits, also with no word left over; a block between two free ones is joined with both
abbrev three_blocks : List Block
three_blocks = gap 4 ∷ live (7 ∷ []) ∷ gap 6 ∷ []

blocks_fit :
    (taken 1024 4 three_blocks ≡ Some (record { at = 1025; blocks = live (0 ∷ 0 ∷ 0 ∷ []) ∷ live (7 ∷ []) ∷ gap 6 ∷ [] }))
    × (taken 1024 6 three_blocks ≡ Some (record { at = 1031; blocks = gap 4 ∷ live (7 ∷ []) ∷ live (replicate 5 0) ∷ [] }))
    × (taken 1024 8 three_blocks ≡ None)
    × (freed 1024 1029 three_blocks ≡ Some (gap 4 ∷ gap 2 ∷ gap 6 ∷ []))
    × (given_back 1024 1029 three_blocks ≡ Some (gap 12 ∷ []))
blocks_fit = (refl, refl, refl, refl, refl)

-- ---- usable words
words_used :
    (zone_word 1024 1029 three_blocks ≡ Some 7)
    × (zone_word 1024 1028 three_blocks ≡ None)
    × (zone_word 1024 1030 three_blocks ≡ None)
    × (zone_word 1024 1024 three_blocks ≡ None)
    × (zone_word 1024 1036 three_blocks ≡ None)
    × (zone_set 1024 1029 9 three_blocks ≡ gap 4 ∷ live (9 ∷ []) ∷ gap 6 ∷ [])
    × (zone_set 1024 1028 9 three_blocks ≡ three_blocks)
words_used = (refl, refl, refl, refl, refl, refl, refl)

-- and words that may be stored to: the user's, with which these words begin, and usable ones
words_stored :
    (storable_word (5 ∷ 6 ∷ []) three_blocks 1 ≡ Some 6)
    × (storable_word (5 ∷ 6 ∷ []) three_blocks 1029 ≡ Some 7)
    × (storable_word (5 ∷ 6 ∷ []) three_blocks 1024 ≡ None)
    × (storable_word (5 ∷ 6 ∷ []) three_blocks 1028 ≡ None)
    × (storable_word (5 ∷ 6 ∷ []) three_blocks 1036 ≡ None)
words_stored = (refl, refl, refl, refl, refl)

-- ---- what bytes have against them that are no world
faults :
    (fault_of (0 ∷ 0 ∷ []) ≡ Some (not_a_world 2))
    × (length_fault 131076 ≡ None)
    × (mark_fault 42330 ≡ None)
    × (mark_fault 0 ≡ Some (not_whole 0))
faults = (refl, refl, refl, refl)

-- ---- levels that go and come back
levels :
    (zone_kept 8 2 (gap 39936 ∷ []) ≡ gap 62464 ∷ [])
    × (zone_kept 8 8 one_block ≡ one_block)
    × (zone_kept 2 5 one_block ≡ one_block)
    × (level_kept 2 5 ≡ 2)
    × (used_by_levels (gap 62464 ∷ []) ≡ None)
    × (zone_below_all (gap 62464 ∷ []) ≡ gap 39936 ∷ [])
    × (used_by_levels (gap 39936 ∷ live (7 ∷ []) ∷ []) ≡ Some 40961)
    × (used_by_levels (gap 39934 ∷ live (7 ∷ []) ∷ gap 4 ∷ []) ≡ None)
    × (zone_below_all (gap 39934 ∷ live (7 ∷ []) ∷ gap 4 ∷ []) ≡ gap 39934 ∷ live (7 ∷ []) ∷ [])
unfolding level_base
levels = (refl, refl, refl, refl, refl, refl, refl, refl, refl)

-- ---- a zone in words, and words that are none
zone_in_words :
    (zone_words (live (7 ∷ []) ∷ gap 4 ∷ []) ≡ 3 ∷ 7 ∷ 4 ∷ 0 ∷ 0 ∷ 0 ∷ [])
    × (blocks_in (3 ∷ 7 ∷ 4 ∷ 0 ∷ 0 ∷ 0 ∷ []) ≡ live (7 ∷ []) ∷ gap 4 ∷ [])
    × (first_wrong 6 1024 false (3 ∷ 7 ∷ 4 ∷ 0 ∷ 0 ∷ 0 ∷ []) ≡ None)
    -- a word of a free block that isn't 0
    × (first_wrong 6 1024 false (3 ∷ 7 ∷ 4 ∷ 0 ∷ 9 ∷ 0 ∷ []) ≡ Some 1028)
    -- a free block after a free block
    × (first_wrong 6 1024 false (2 ∷ 0 ∷ 4 ∷ 0 ∷ 0 ∷ 0 ∷ []) ≡ Some 1026)
    -- a tag that reaches past the end, one of 0, and one of a used block of no words
    × (first_wrong 6 1024 false (3 ∷ 7 ∷ 6 ∷ 0 ∷ 0 ∷ 0 ∷ []) ≡ Some 1026)
    × (first_wrong 6 1024 false (3 ∷ 7 ∷ 0 ∷ 0 ∷ 0 ∷ 0 ∷ []) ≡ Some 1026)
    × (first_wrong 6 1024 false (3 ∷ 7 ∷ 1 ∷ 0 ∷ 0 ∷ 0 ∷ []) ≡ Some 1026)
zone_in_words = (refl, refl, refl, refl, refl, refl, refl, refl)
