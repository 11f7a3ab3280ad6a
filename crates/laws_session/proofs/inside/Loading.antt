-- Worlds with a memory: one that is kept, that of a session as it begins, and that of a file.
use Rattle.std.proofs.Common.{◌≡◌, ◌≤◌, ℕ, ◌+◌, ◌-◌, ◌==◌, ◌&&◌, Bool, true, false, cond, List, None, Option, Some, refl, ap, ◌∙◌, length, take, replicate, arith}
use Rattle.std.proofs.lemmas.Bool.{eqb-true, leb-true}
use Rattle.std.proofs.lemmas.List.{length-append, length-drop, length-replicate}
use Rattle.std.specs.Option.{option_map, option_or}
use Rattle.std.specs.Prelude.{nat_le}
use Rattle.laws_line.specs.pack_model.specs.reading.Bytes.{words_of}
use Rattle.laws_line.specs.pack_laws.proofs.Bytes.{length-put_at, length-words_of}
use Rattle.session_model.specs.world_model.specs.Levels.{IsAtLevel, all_levels, level_base}
use Rattle.session_model.specs.world_model.specs.StateFiles.{Fault, IsState, fault_of, length_fault, mark_fault, message_bytes, message_length, not_a_world, spoilt, spoilt_memory, spoilt_word, state_length, state_level, state_mark, state_memory}
use Rattle.session_model.specs.world_model.specs.ZoneWords.{first_broken, memory_length, tag_size, zone_in, zone_start}
use Rattle.session_model.specs.Refusals.{refusal_of_fault}
use Rattle.laws_zone.specs.MemoryLaws.{ReadsBack}
use Rattle.laws_zone.proofs.Sizes.{even_rest, low_of}
use Rattle.laws_zone.proofs.levels.Laws.{bases_are_within, bases_end_zones}
use Rattle.laws_zone.proofs.memories.Laws.{memories_have_such_zones, zones_read_back}
use Rattle.laws_session.specs.ZoneLaws.{FreshWorldsHaveAMemory, KeptWorldsHaveAMemory, LoadedWorldsHaveAMemory, WorldsAreKept}
use Rattle.laws_session.proofs.inside.Passing.{neither}

-- ---- worlds that are kept, and that of a file
pub kept_worlds_have_a_memory : KeptWorldsHaveAMemory
kept_worlds_have_a_memory k h = let z = memories_have_such_zones (level_base k.level) k.memory (bases_end_zones k.level h.most) h.memory_is in record { least = h.least; most = h.most; user = z.1; fills = z.0 }

pub worlds_are_kept : WorldsAreKept
worlds_are_kept k w start fills h = λ i. record {
  moment = h.moment i;
  level = h.level i;
  user = (ap (take zone_start) h.memory ∙ back.user_is) i;
  zone = ((λ j. zone_in (level_base (h.level j)) (h.memory j)) ∙ back.zone_is) i;
  streams = h.streams i;
  need = h.need i;
}
  where
    back : ReadsBack (level_base w.level) w.user w.zone
    back = zones_read_back (level_base w.level) w.user w.zone (bases_are_within w.level) start fills

some_below_all : 1 ≤ level_base all_levels - zone_start
unfolding level_base
some_below_all = omega arith

pub fresh_worlds_have_a_memory : FreshWorldsHaveAMemory
fresh_worlds_have_a_memory moment = record {
  least = omega arith;
  most = omega arith;
  user = length-replicate {A = ℕ} zone_start 0;
  fills = record { each = ((some_below_all, even), tt); joined = (refl, tt); size = ends };
}
  where
    eight : all_levels ≤ all_levels
    eight = omega arith

    low : zone_start ≤ level_base all_levels
    low = low_of (level_base all_levels) (bases_end_zones all_levels eight)

    even : tag_size (level_base all_levels - zone_start) ≡ level_base all_levels - zone_start
    even = even_rest (level_base all_levels) zone_start (bases_end_zones all_levels eight).even refl low

    ends : zone_start + (level_base all_levels - zone_start + 0) ≡ level_base all_levels
    ends = omega (arith, low)

pub both_hold : (a b : Bool) → (a && b) ≡ true → (a ≡ true) × (b ≡ true)
both_hold true true e = (refl, refl)
both_hold true false e = absurd cc
both_hold false b e = absurd cc

pub no_image : {X Y : Type 0} (f : X → Y) (o : Option X) → option_map f o ≡ None → o ≡ None
no_image f None e = refl
no_image f (Some x) e = absurd cc

-- the test of a level holds, or the first word is broken
tested : (b : Bool) (at : ℕ) (o : Option ℕ) → cond b o (Some at) ≡ None → (b ≡ true) × (o ≡ None)
tested true at o e = (refl, e)
tested false at o e = absurd cc

-- a test that finds no fault
no_fault : {X : Type 0} (b : Bool) (x : X) → cond b None (Some x) ≡ None → b ≡ true
no_fault true x e = refl
no_fault false x e = absurd cc

-- The file of a whole world has the words of a memory of its level.
whole_is_a_memory : (bytes : List ℕ) → IsState bytes → IsAtLevel (state_level (words_of bytes)) (state_memory (words_of bytes))
whole_is_a_memory bytes none = record {
  least = leb-true 1 level bounds.0;
  most = leb-true level all_levels bounds.1;
  memory_is = record { words = long; unbroken = no_image (λ at. at + 2) (first_broken (level_base level) memory) level_is.1 };
}
  where
    level : ℕ
    level = state_level (words_of bytes)

    memory : List ℕ
    memory = state_memory (words_of bytes)

    by_length : Option Fault
    by_length = length_fault (length bytes)

    by_mark : Option Fault
    by_mark = mark_fault (state_mark (words_of bytes))

    by_word : Option Fault
    by_word = option_map spoilt (spoilt_word (words_of bytes))

    parts : (by_length ≡ None) × (option_or by_mark by_word ≡ None)
    parts = neither by_length (option_or by_mark by_word) none

    unspoilt : spoilt_word (words_of bytes) ≡ None
    unspoilt = no_image spoilt (spoilt_word (words_of bytes)) (neither by_mark by_word parts.1).1

    level_is : ((nat_le 1 level && nat_le level all_levels) ≡ true) × (spoilt_memory (words_of bytes) ≡ None)
    level_is = tested (nat_le 1 level && nat_le level all_levels) 1 (spoilt_memory (words_of bytes)) unspoilt

    bounds : (nat_le 1 level ≡ true) × (nat_le level all_levels ≡ true)
    bounds = both_hold (nat_le 1 level) (nat_le level all_levels) level_is.0

    size : length bytes ≡ state_length
    size = eqb-true (length bytes) state_length (no_fault (length bytes == state_length) (not_a_world (length bytes)) parts.0)

    long : length memory ≡ memory_length
    long = let words = length-words_of bytes in let rest = length-drop 2 (words_of bytes) in omega (arith, words, rest, size)

-- a message takes 20 words at most
message_fits : (message : List ℕ) → length message ≤ message_length → length (words_of (message_bytes message)) ≤ 20
message_fits message short =
    let words = length-words_of (message_bytes message) in
    let zeros = length-replicate {A = ℕ} (message_length - length message) 0 in
    let all = length-append message (replicate (message_length - length message) 0) in
    omega (arith, words, zeros, all, short)

pub loaded_worlds_have_a_memory : LoadedWorldsHaveAMemory
loaded_worlds_have_a_memory w bytes message none short =
    let at = whole_is_a_memory bytes (no_image refusal_of_fault (fault_of bytes) none) in
    let z = memories_have_such_zones (level_base (state_level (words_of bytes))) (state_memory (words_of bytes)) (bases_end_zones (state_level (words_of bytes)) at.most) at.memory_is in
    let front : List ℕ = take zone_start (state_memory (words_of bytes)) in
    let long = z.1 in
    let fits = message_fits message short in
    let user = length-put_at 0 (words_of (message_bytes message)) front (omega (arith, long, fits)) in
    record { least = at.least; most = at.most; user = user ∙ long; fills = z.0 }
