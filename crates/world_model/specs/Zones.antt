-- A zone: a row of blocks, from which blocks are taken and to which they come back.
-- The form of the zone, and which block is taken, are this project's choice.
use Rattle.std.specs.Prelude.{ℕ, zero, suc, ◌+◌, ◌-◌, ◌*◌, ◌/◌, ◌==◌, ◌&&◌, cond, nat_le, nat_lt, max, List, [], ◌∷◌, ◌++◌, length, replicate, slice_get, set, Option, Some, None}
use Rattle.std.specs.Option.{option_map, option_or}

-- A block: free words, so many with its first; or used words, those that its user has, before which its first word stands.
pub data Block : Type 0 where
  gap : ℕ → Block
  live : List ℕ → Block

-- with its first word
abbrev pub block_size : Block → ℕ
block_size (gap size) = size
block_size (live words) = suc (length words)

-- ---- taking a block: `at` is the address of the first word of the blocks
-- the words that a request takes, with the first one: an even number
abbrev pub size_for : ℕ → ℕ
size_for n = (n + 2) / 2 * 2

-- a free block of so many words, if there are any, before these blocks
abbrev pub left_before : ℕ → List Block → List Block
left_before zero bs = bs
left_before (suc n) bs = gap (suc n) ∷ bs

-- a block that was taken: the address of its first usable word, and the blocks then
pub record Taken : Type 0 where
  pub at : ℕ
  pub blocks : List Block

abbrev pub taken_here : ℕ → ℕ → ℕ → List Block → Taken
taken_here at size n bs = record { at = at + 1; blocks = live (replicate (size - 1) 0) ∷ left_before (n - size) bs }

abbrev pub taken_after : Block → Option Taken → Option Taken
taken_after b t = option_map (λ (t : Taken). record { at = t.at; blocks = b ∷ t.blocks }) t

-- the lowest free block of so many words becomes a used one of zeros, and the rest of it stays free
abbrev pub taken : ℕ → ℕ → List Block → Option Taken
taken at size [] = None
taken at size (gap n ∷ bs) = cond (nat_le size n) (Some (taken_here at size n bs)) (taken_after (gap n) (taken (at + n) size bs))
taken at size (live words ∷ bs) = taken_after (live words) (taken (at + block_size (live words)) size bs)

-- the most words that a request could get
abbrev pub largest_gap : List Block → ℕ
largest_gap [] = 0
largest_gap (gap n ∷ bs) = max (n - 1) (largest_gap bs)
largest_gap (live words ∷ bs) = largest_gap bs

-- ---- giving one back
abbrev pub join_gap : ℕ → List Block → List Block
join_gap n [] = gap n ∷ []
join_gap n (gap k ∷ bs) = gap (n + k) ∷ bs
join_gap n (live words ∷ bs) = gap n ∷ live words ∷ bs

-- adjacent free blocks as one
abbrev pub joined_gaps : List Block → List Block
joined_gaps [] = []
joined_gaps (gap n ∷ bs) = join_gap n (joined_gaps bs)
joined_gaps (live words ∷ bs) = live words ∷ joined_gaps bs

-- the used block with this first usable word becomes free; none where no used block has it
abbrev pub freed : ℕ → ℕ → List Block → Option (List Block)
freed at a [] = None
freed at a (gap n ∷ bs) = option_map (λ r. gap n ∷ r) (freed (at + n) a bs)
freed at a (live words ∷ bs) = cond (a == at + 1) (Some (gap (block_size (live words)) ∷ bs)) (option_map (λ r. live words ∷ r) (freed (at + block_size (live words)) a bs))

-- and is joined with free neighbours
abbrev pub given_back : ℕ → ℕ → List Block → Option (List Block)
given_back at a bs = option_map joined_gaps (freed at a bs)

-- ---- words of used blocks
-- the usable word at this address, if it is one
abbrev pub zone_word : ℕ → ℕ → List Block → Option ℕ
zone_word at a [] = None
zone_word at a (gap n ∷ bs) = cond (nat_lt a (at + n)) None (zone_word (at + n) a bs)
zone_word at a (live words ∷ bs) = cond (nat_le a at) None (option_or (slice_get words (a - at - 1)) (zone_word (at + block_size (live words)) a bs))

-- another word in its place
abbrev pub zone_set : ℕ → ℕ → ℕ → List Block → List Block
zone_set at a w [] = []
zone_set at a w (gap n ∷ bs) = gap n ∷ zone_set (at + n) a w bs
zone_set at a w (live words ∷ bs) = cond (nat_lt at a && nat_lt a (at + block_size (live words))) (live (set words (a - at - 1) w) ∷ bs) (live words ∷ zone_set (at + block_size (live words)) a w bs)

-- ---- a zone that grows and shrinks at its end
abbrev pub grown : ℕ → List Block → List Block
grown zero zone = zone
grown (suc n) zone = joined_gaps (zone ++ gap (suc n) ∷ [])

-- the first so many words of the zone; after them it has free words alone
abbrev pub shrunk : ℕ → List Block → List Block
shrunk room [] = []
shrunk room (b ∷ bs) = cond (nat_le (block_size b) room) (b ∷ shrunk (room - block_size b) bs) (left_before room [])

-- the lowest used block with a word at this address or above it, by its first usable word
abbrev pub used_above : ℕ → ℕ → List Block → Option ℕ
used_above top at [] = None
used_above top at (gap n ∷ bs) = used_above top (at + n) bs
used_above top at (live words ∷ bs) = cond (nat_lt top (at + block_size (live words))) (Some (at + 1)) (used_above top (at + block_size (live words)) bs)
