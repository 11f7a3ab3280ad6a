-- A zone in the memory: the words of blocks, the blocks of words, and the first word that no zone has.
-- The tags of blocks are this project's choice.
use Rattle.std.specs.Prelude.{◌≡◌, ℕ, zero, suc, ◌+◌, ◌-◌, ◌*◌, ◌/◌, ◌==◌, ◌&&◌, ◌||◌, Bool, false, cond, nat_lt, List, [], ◌∷◌, ◌++◌, length, take, drop, replicate, Option, Some, None}
use Rattle.std.specs.Option.{is_some, option_or}
use Rattle.std.specs.List.{flat_map}
use Rattle.disk_records.specs.Words.{word}
use Rattle.world_model.specs.Zones.{Block, gap, live, zone_word}

-- ---- blocks as words: the first is the tag, the size in words, plus 1 where the block is used
abbrev pub block_words : Block → List ℕ
block_words (gap size) = size ∷ replicate (size - 1) 0
block_words (live words) = suc (suc (length words)) ∷ words

abbrev pub zone_words : List Block → List ℕ
zone_words = flat_map block_words

-- ---- words as blocks, by their tags
abbrev pub tag_size : ℕ → ℕ
tag_size tag = tag / 2 * 2

abbrev pub is_gap_tag : ℕ → Bool
is_gap_tag tag = tag == tag_size tag

abbrev pub block_of : ℕ → List ℕ → Block
block_of tag words = cond (is_gap_tag tag) (gap tag) (live (take (tag_size tag - 1) words))

abbrev pub blocks_from : ℕ → List ℕ → List Block
blocks_from zero words = []
blocks_from (suc fuel) [] = []
blocks_from (suc fuel) (tag ∷ words) = block_of tag words ∷ blocks_from fuel (drop (tag_size tag - 1) words)

abbrev pub blocks_in : List ℕ → List Block
blocks_in words = blocks_from (length words) words

-- ---- the first word that no zone has
-- the address of the first word that isn't 0, where these words begin at `at`
abbrev pub first_set : ℕ → List ℕ → Option ℕ
first_set at [] = None
first_set at (w ∷ words) = cond (w == 0) (first_set (suc at) words) (Some at)

-- a tag of 0 or 1, one that reaches past these words, or that of a free block after a free block
abbrev pub is_wrong_tag : Bool → ℕ → List ℕ → Bool
is_wrong_tag after_gap tag words = tag_size tag == 0 || nat_lt (suc (length words)) (tag_size tag) || (after_gap && is_gap_tag tag)

-- a word of a free block that isn't 0
abbrev pub wrong_in_gap : ℕ → ℕ → List ℕ → Option ℕ
wrong_in_gap at tag words = cond (is_gap_tag tag) (first_set (suc at) (take (tag - 1) words)) None

-- block by block: its tag, then its words
abbrev pub first_wrong : ℕ → ℕ → Bool → List ℕ → Option ℕ
first_wrong zero at after_gap words = None
first_wrong (suc fuel) at after_gap [] = None
first_wrong (suc fuel) at after_gap (tag ∷ words) =
    cond (is_wrong_tag after_gap tag words) (Some at)
    (option_or (wrong_in_gap at tag words) (first_wrong fuel (at + tag_size tag) (is_gap_tag tag) (drop (tag_size tag - 1) words)))

-- ---- the memory, of which the zone ends before the word `top`
abbrev pub memory_length : ℕ
memory_length = 65536

-- the words before it are the user's
abbrev pub zone_start : ℕ
zone_start = 1024

abbrev pub zone_part : ℕ → List ℕ → List ℕ
zone_part top memory = take (top - zone_start) (drop zone_start memory)

abbrev pub zone_in : ℕ → List ℕ → List Block
zone_in top memory = blocks_in (zone_part top memory)

-- the user's words, the zone, and from `top` on zeros
abbrev pub memory_of : ℕ → List ℕ → List Block → List ℕ
memory_of top user zone = user ++ zone_words zone ++ replicate (memory_length - top) 0

-- the address of the first word that isn't such as it has to be: of the zone, and then of the words from `top` on
abbrev pub first_broken : ℕ → List ℕ → Option ℕ
first_broken top memory = option_or (first_wrong (length memory) zone_start false (zone_part top memory)) (first_set top (drop top memory))

-- A memory with a zone that ends before `top`.
pub record IsMemory (top : ℕ) (memory : List ℕ) : Type 0 where
  pub words : length memory ≡ memory_length
  pub unbroken : first_broken top memory ≡ None

-- these blocks are the zone's now, and no word outside it is another
abbrev pub with_zone : ℕ → List ℕ → List Block → List ℕ
with_zone top memory zone = take zone_start memory ++ zone_words zone ++ drop top memory

-- ---- words that may be stored to
-- the word at this address, where it is one of the user's, with which these words begin, or a usable one of a used block
abbrev pub storable_word : List ℕ → List Block → ℕ → Option ℕ
storable_word words zone at = cond (nat_lt at zone_start) (Some (word words at)) (zone_word zone_start at zone)

-- there is one in this memory
abbrev pub is_inside : ℕ → List ℕ → ℕ → Bool
is_inside top memory at = is_some (storable_word memory (zone_in top memory) at)
