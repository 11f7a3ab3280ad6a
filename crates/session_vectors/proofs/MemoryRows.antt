-- Rows of the memory: blocks, levels, need, and worlds in files.
use Rattle.std.proofs.Common.{◌≡◌, ℕ, List, [], ◌∷◌, Some, refl}
use Rattle.std.specs.Prelude.{codes, replicate, length}
use Rattle.std.specs.Fmt.{digits}
use Rattle.laws_format.specs.alto_words.specs.Fid.{sys_dir}
use Rattle.laws_format.specs.alto_words.specs.Names.{is_stored_name}
use Rattle.laws_format.specs.pack_model.specs.operations.Step.Operation.{make, put, grow, stamp, enter}
use Rattle.laws_format.specs.pack_model.specs.reading.Bytes.{words_of}
use Rattle.laws_format.specs.pack_model.specs.reading.Files.{first}
use Rattle.session_model.specs.exec_words.specs.declared.line.Line.TheVariants as line
use Rattle.session_model.specs.world_model.specs.Levels.{level_base}
use Rattle.session_model.specs.world_model.specs.StateFiles.{mark_whole, state_bytes, state_mark, spoilt_word, with_message}
use Rattle.session_model.specs.world_model.specs.Zones.{Block, gap, live}
use Rattle.session_model.specs.exec_words.specs.declared.reply.Refusal.TheVariants as refusal
use Rattle.session_model.specs.Effects.{effect, world_puts}
use Rattle.session_model.specs.Refusals.{by_world}
use Rattle.session_model.specs.Replies.{reply_to, ops, next}
use Rattle.session_model.specs.Worlds.{World, world_bytes, world_with_zone, failed_world}
use Rattle.session_vectors.proofs.Models.{m0, root_0, all_0, f3, ma, root_is, a_is, all_is, w, w_with, stream, a_path, a_file, abc, five}

-- ---- blocks
abbrev one_block : List ℕ → List Block
one_block words = live words ∷ gap 39834 ∷ []

abbrev w1 : World
w1 = world_with_zone w (one_block (replicate 101 0))

abbrev w2 : World
w2 = world_with_zone w (one_block (7 ∷ replicate 100 0))

block_100 : reply_to (line.Block 100) m0 w ≡ codes "at 1025\n"
unfolding first digits level_base
block_100 = rw (all_0) refl

block_100_leaves : next (line.Block 100) m0 w ≡ w1
unfolding first digits level_base
block_100_leaves = rw (all_0) refl

block_40000 : reply_to (line.Block 40000) m0 w1 ≡ codes "no room: largest 39833\n"
unfolding first digits level_base
block_40000 = refl

store_7 : reply_to (line.Store 1025 7) m0 w1 ≡ codes "done\n"
unfolding first digits level_base
store_7 = rw (all_0) refl

store_7_leaves : next (line.Store 1025 7) m0 w1 ≡ w2
unfolding first digits level_base
store_7_leaves = rw (all_0) refl

fetch_7 : reply_to (line.Fetch 1025) m0 w2 ≡ codes "7\n"
unfolding first digits level_base
fetch_7 = rw (all_0) refl

store_outside : reply_to (line.Store 2000 7) m0 w2 ≡ codes "not a block\n"
unfolding first digits level_base
store_outside = refl

store_user : reply_to (line.Store 1023 7) m0 w2 ≡ codes "done\n"
unfolding first digits level_base
store_user = rw (all_0) refl

fetch_user : reply_to (line.Fetch 1023) m0 w2 ≡ codes "0\n"
unfolding first digits level_base
fetch_user = rw (all_0) refl

unblock : reply_to (line.Unblock 1025) m0 w2 ≡ codes "done\n"
unfolding first digits level_base
unblock = rw (all_0) refl

unblock_leaves : next (line.Unblock 1025) m0 w2 ≡ w
unfolding first digits level_base
unblock_leaves = rw (all_0) refl

unblock_again : reply_to (line.Unblock 1025) m0 w ≡ codes "not a block\n"
unfolding first digits level_base
unblock_again = refl

-- ---- levels that go and come back
abbrev low : List Block → World
low zone = record w { level = 2; zone = zone }

junta_2 : reply_to (line.Junta 2) m0 w ≡ codes "level 2\n"
unfolding first digits level_base
junta_2 = rw (all_0) refl

junta_2_leaves : next (line.Junta 2) m0 w ≡ low (gap 62464 ∷ [])
unfolding first digits level_base
junta_2_leaves = rw (all_0) refl

junta_higher : reply_to (line.Junta 5) m0 (low (gap 62464 ∷ [])) ≡ codes "level 2\n"
unfolding first digits level_base
junta_higher = rw (all_0) refl

type_low : reply_to (line.TypeOut a_file) m0 (low (gap 62464 ∷ [])) ≡ codes "needs level 5\n"
unfolding is_stored_name first digits
type_low = refl

block_60000 : reply_to (line.Block 60000) m0 (low (gap 62464 ∷ [])) ≡ codes "at 1025\n"
unfolding first digits level_base
block_60000 = rw (all_0) refl

in_use : (words : List ℕ) → length words ≡ 60001 → reply_to line.CounterJunta m0 (low (live words ∷ gap 2462 ∷ [])) ≡ codes "in use at 1025\n"
unfolding first digits level_base
in_use words is = rw (is) refl

all_back : reply_to line.CounterJunta m0 (low (gap 62464 ∷ [])) ≡ codes "level 8\n"
unfolding first digits level_base
all_back = rw (all_0) refl

all_back_leaves : next line.CounterJunta m0 (low (gap 62464 ∷ [])) ≡ w
unfolding first digits level_base
all_back_leaves = rw (all_0) refl

-- a level that has streams goes only once none is open
junta_open : reply_to (line.Junta 5) (ma abc) (w_with (stream 0 0 [] ∷ [])) ≡ codes "streams open\n"
unfolding first digits level_base
junta_open = refl

junta_6_open : reply_to (line.Junta 6) (ma abc) (w_with (stream 0 0 [] ∷ [])) ≡ codes "level 6\n"
unfolding first digits level_base
junta_6_open = rw (all_is abc) refl

-- ---- need, the level and what is no line, in their order
abbrev in_need : World
in_need = failed_world w

need_free : reply_to line.Free m0 in_need ≡ codes "needs scavenging\n"
unfolding first digits level_base
need_free = refl

need_before_level : reply_to line.Free m0 (record in_need { level = 1 }) ≡ codes "needs scavenging\n"
unfolding first digits level_base
need_before_level = refl

bad_before_need : reply_to line.Bad m0 in_need ≡ codes "bad line\n"
unfolding first digits level_base
bad_before_need = refl

no_level_0 : reply_to (line.Junta 0) m0 w ≡ codes "bad line\n"
unfolding first digits level_base
no_level_0 = refl

need_counterjunta : reply_to line.CounterJunta m0 in_need ≡ codes "level 8\n"
unfolding first digits level_base
need_counterjunta = rw (all_0) refl

need_quit : reply_to line.Quit m0 in_need ≡ codes "done\n"
unfolding first digits level_base
need_quit = rw (all_0) refl

need_quit_does : ops line.Quit m0 in_need ≡ []
unfolding first digits level_base
need_quit_does = rw (all_0) refl

scavenge_open : reply_to line.Scavenge m0 (w_with (stream 0 0 [] ∷ [])) ≡ codes "streams open\n"
unfolding first digits level_base
scavenge_open = refl

-- ---- worlds in files
state : state_bytes 42330 8 (1 ∷ 2 ∷ []) ≡ 165 ∷ 90 ∷ 0 ∷ 8 ∷ 0 ∷ 1 ∷ 0 ∷ 2 ∷ []
state = refl

no_level : (spoilt_word (42330 ∷ 9 ∷ []) ≡ Some 1) × (spoilt_word (42330 ∷ 0 ∷ []) ≡ Some 1)
no_level = (refl, refl)

message : with_message (codes "AB") (1 ∷ 2 ∷ []) ≡ 16706 ∷ replicate 19 0
message = refl

inload_short : reply_to (line.InLoad a_path []) (ma five) w ≡ codes "not a world: length 5\n"
unfolding is_stored_name first digits
inload_short = rw (root_is five, a_is five) refl

inload_begun : (bytes : List ℕ) → length bytes ≡ 131076 → state_mark (words_of bytes) ≡ 0 → reply_to (line.InLoad a_path []) (ma bytes) w ≡ codes "not whole: mark 0\n"
unfolding is_stored_name first digits
inload_begun bytes size mark = rw (root_is bytes, a_is bytes, size, mark) refl

outload_short : by_world (line.OutLoad a_path) (ma five) ≡ Some (refusal.NotAWorld 5)
unfolding first
outload_short = rw (root_is five, a_is five) refl

outload_open : reply_to (line.OutLoad a_path) (ma []) (w_with (stream 0 0 [] ∷ [])) ≡ codes "streams open\n"
unfolding is_stored_name first digits
outload_open = rw (root_is []) refl

-- ---- a world of any words, written into no file, and into one without a byte
abbrev of_words : List ℕ → List Block → World
of_words user zone = record w { user = user; zone = zone }

outload_new : (user : List ℕ) (zone : List Block) → (effect (line.OutLoad a_path) m0 (of_words user zone)).ops ≡ make f3 (codes "A.") 1000 ∷ enter sys_dir (codes "A.") f3 ∷ grow f3 (world_bytes (of_words user zone) mark_whole) ∷ stamp f3 1000 ∷ []
unfolding is_stored_name first
outload_new user zone = rw (root_0) refl

outload_empty : (user : List ℕ) (zone : List Block) → (effect (line.OutLoad a_path) (ma []) (of_words user zone)).ops ≡ grow f3 (world_bytes (of_words user zone) mark_whole) ∷ stamp f3 1000 ∷ []
unfolding is_stored_name first
outload_empty user zone = rw (root_is [], a_is []) refl

-- over a world: the first page with the mark that says it has begun, the other pages, and the first page as it is then
over_world : world_puts f3 (0 ∷ replicate 599 7) (165 ∷ replicate 599 7) ≡ put f3 0 (0 ∷ replicate 511 7) ∷ put f3 512 (replicate 88 7) ∷ put f3 0 (165 ∷ replicate 511 7) ∷ []
over_world = refl
