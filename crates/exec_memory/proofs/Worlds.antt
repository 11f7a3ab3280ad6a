-- The world that a session keeps after its memory, or its level, is another.
use Rattle.std.proofs.Common.{◌≡◌, ◌≤◌, ℕ, Bool, true, false, cond, nat_le, nat_lt, List, Option, Some, None, refl, sym, subst, ap, ◌∙◌, set, take, arith}
use Rattle.std.proofs.lemmas.Bool.{leb-true, leb-false, ltb-true}
use Rattle.std.proofs.lemmas.List.{get_or-take}
use Rattle.std.specs.Option.{is_some, unwrap_or}
use Rattle.exec_words.specs.disk_records.specs.Words.{word}
use Rattle.exec_words.specs.declared.reply.Refusal.{Refusal}
use Rattle.exec_words.specs.declared.reply.Refusal.TheVariants as refused
use Rattle.session_model.specs.Keeping.{Kept, world_of}
use Rattle.session_model.specs.Refusals.{when_missing}
use Rattle.session_model.specs.Worlds.{World, memory_word, with_word}
use Rattle.session_model.specs.world_model.specs.Levels.{IsAtLevel, all_levels, level_base, level_kept}
use Rattle.session_model.specs.world_model.specs.Zones.{Block, largest_gap, size_for, taken, zone_set, zone_word}
use Rattle.session_model.specs.world_model.specs.ZoneWords.{is_inside, storable_word, zone_in, zone_start}
use Rattle.zones.specs.laws_zone.proofs.levels.Laws.{bases_end_zones}
use Rattle.zones.specs.laws_zone.proofs.words.Laws.{block_words_are_stored, storable_words_are_read, stores_inside_leave_a_memory, user_words_are_stored}
use Rattle.zones.specs.laws_zone.specs.Filling.{IsTop}
use Rattle.zones.specs.laws_zone.specs.PlaceLaws.{NowHas}
use Rattle.zones.specs.Taking.{IsNoRoom}
use Rattle.zones.specs.declared.errors.ZoneError.{ZoneError}
use Rattle.zones.specs.declared.errors.ZoneError.TheVariants.{NoRoom}
use Rattle.exec_memory.specs.Block.{refusal_of}
use Rattle.exec_memory.proofs.LinesAlone.{kept_with}

pub top_of : (level : ℕ) (memory : List ℕ) → IsAtLevel level memory → IsTop (level_base level)
top_of level memory at = bases_end_zones level at.most

-- ---- other blocks, or another level
pub world_now : (one : Kept) (level : ℕ) (memory : List ℕ) (blocks : List Block) → NowHas (level_base level) one.memory memory blocks → record (world_of one) { level = level; zone = blocks } ≡ world_of (kept_with one one.moment level memory)
world_now one level memory blocks now =
    ap (λ u. record (world_of one) { level = level; user = u; zone = blocks }) (sym now.user)
    ∙ ap (λ z. record (world_of one) { level = level; user = take zone_start memory; zone = z }) (sym now.zone)

-- at the same level
pub zone_now : (one : Kept) (level : ℕ) (memory : List ℕ) (blocks : List Block) → level ≡ one.level → NowHas (level_base one.level) one.memory memory blocks → record (world_of one) { zone = blocks } ≡ world_of (kept_with one one.moment level memory)
zone_now one level memory blocks same now = subst (λ k. record (world_of one) { zone = blocks } ≡ world_of (kept_with one one.moment k memory)) (sym same) (world_now one one.level memory blocks now)

pub level_after : (one : Kept) (level : ℕ) (memory : List ℕ) (blocks : List Block) → IsAtLevel one.level one.memory → level ≡ one.level → NowHas (level_base one.level) one.memory memory blocks → IsAtLevel level memory
level_after one level memory blocks at same now = subst (λ k. IsAtLevel k memory) (sym same) (record { least = at.least; most = at.most; memory_is = now.memory })

-- no free block has so many words
pub no_room_is : (top n : ℕ) (memory : List ℕ) (e : ZoneError) → IsNoRoom top n memory e → (refusal_of e ≡ refused.NoRoom (largest_gap (zone_in top memory))) × (taken zone_start (size_for n) (zone_in top memory) ≡ None)
no_room_is top n memory (NoRoom k) h = (ap refused.NoRoom h.largest_is, h.none)

-- after levels went
pub level_lowered : (one : Kept) (to level : ℕ) (memory : List ℕ) (blocks : List Block) → IsAtLevel one.level one.memory → 1 ≤ to → level ≡ level_kept one.level to → NowHas (level_base level) one.memory memory blocks → IsAtLevel level memory
level_lowered one to level memory blocks at some is now =
    let low = at.least in
    let high = at.most in
    record { least = omega (arith, is, low, some); most = omega (arith, is, high); memory_is = now.memory }

-- after all came back
pub level_raised : (one : Kept) (level : ℕ) (memory : List ℕ) (blocks : List Block) → level ≡ all_levels → NowHas (level_base all_levels) one.memory memory blocks → IsAtLevel level memory
level_raised one level memory blocks is now = subst (λ k. IsAtLevel k memory) (sym is) (record { least = omega arith; most = omega arith; memory_is = now.memory })

pub world_raised : (one : Kept) (level : ℕ) (memory : List ℕ) (blocks : List Block) → level ≡ all_levels → NowHas (level_base all_levels) one.memory memory blocks → record (world_of one) { level = all_levels; zone = blocks } ≡ world_of (kept_with one one.moment level memory)
world_raised one level memory blocks is now = subst (λ k. record (world_of one) { level = all_levels; zone = blocks } ≡ world_of (kept_with one one.moment k memory)) (sym is) (world_now one all_levels memory blocks now)

-- ---- a word that may be stored to
-- by the words of the memory, as by those of the user
inside_as : (memory : List ℕ) (zone : List Block) (at : ℕ) → is_some (storable_word (take zone_start memory) zone at) ≡ is_some (storable_word memory zone at)
inside_as memory zone at = by (nat_lt at zone_start)
  where
    by : (b : Bool) → is_some (cond b (Some (word (take zone_start memory) at)) (zone_word zone_start at zone)) ≡ is_some (cond b (Some (word memory at)) (zone_word zone_start at zone))
    by true = refl
    by false = refl

missing_by : (o : Option ℕ) (b : Bool) (r : Refusal) → is_some o ≡ b → when_missing o r ≡ cond b None (Some r)
missing_by None b r e = ap (λ x. cond x None (Some r)) e
missing_by (Some x) b r e = ap (λ x. cond x None (Some r)) e

-- whether there is none
pub word_missing : (one : Kept) (at : ℕ) (b : Bool) → is_inside (level_base one.level) one.memory at ≡ b → when_missing (memory_word (world_of one) at) refused.NotABlock ≡ cond b None (Some refused.NotABlock)
word_missing one at b e = missing_by (memory_word (world_of one) at) b refused.NotABlock (inside_as one.memory (zone_in (level_base one.level) one.memory) at ∙ e)

-- the word there
some_is : (o : Option ℕ) (y : ℕ) → is_some o ≡ true → ((x : ℕ) → o ≡ Some x → y ≡ x) → unwrap_or o 0 ≡ y
some_is None y e h = absurd (let n : false ≡ true = e in cc)
some_is (Some x) y e h = sym (h x refl)

pub word_there : (one : Kept) (at : ℕ) → IsAtLevel one.level one.memory → is_inside (level_base one.level) one.memory at ≡ true → unwrap_or (memory_word (world_of one) at) 0 ≡ word one.memory at
word_there one at level inside = by (nat_lt at zone_start) refl
  where
    memory : List ℕ
    memory = one.memory

    top : ℕ
    top = level_base one.level

    by : (b : Bool) → nat_lt at zone_start ≡ b → unwrap_or (memory_word (world_of one) at) 0 ≡ word memory at
    by true e =
        ap (λ b. unwrap_or (cond b (Some (word (take zone_start memory) at)) (zone_word zone_start at (zone_in top memory))) 0) e
        ∙ get_or-take zone_start memory at 0 (ltb-true at zone_start e)
    by false e =
        ap (λ b. unwrap_or (cond b (Some (word (take zone_start memory) at)) (zone_word zone_start at (zone_in top memory))) 0) e
        ∙ some_is (zone_word zone_start at (zone_in top memory)) (word memory at)
        (sym (ap (λ b. is_some (cond b (Some (word memory at)) (zone_word zone_start at (zone_in top memory)))) e) ∙ inside)
        (λ x is. storable_words_are_read top at x memory (top_of one.level memory level) level.memory_is (ap (λ b. cond b (Some (word memory at)) (zone_word zone_start at (zone_in top memory))) e ∙ is))

-- another word there
pub level_after_store : (level at x : ℕ) (memory : List ℕ) → IsAtLevel level memory → is_inside (level_base level) memory at ≡ true → IsAtLevel level (set memory at x)
level_after_store level at x memory h inside = record {
  least = h.least;
  most = h.most;
  memory_is = stores_inside_leave_a_memory (level_base level) at x memory (top_of level memory h) h.memory_is inside;
}

abbrev later : World → List ℕ → List Block → World
later w user zone = record w { user = user; zone = zone }

pub world_stored : (one : Kept) (at x : ℕ) → IsAtLevel one.level one.memory → is_inside (level_base one.level) one.memory at ≡ true → with_word (world_of one) at x ≡ world_of (kept_with one one.moment one.level (set one.memory at x))
world_stored one at x level inside = by (nat_le zone_start at) refl
  where
    memory : List ℕ
    memory = one.memory

    top : ℕ
    top = level_base one.level

    w : World
    w = world_of one

    by : (b : Bool) → nat_le zone_start at ≡ b → with_word w at x ≡ later w (take zone_start (set memory at x)) (zone_in top (set memory at x))
    by true e =
        let now = block_words_are_stored top at x memory (top_of one.level memory level) level.memory_is (leb-true zone_start at e) inside in
        ap (λ b. cond b (later w (take zone_start memory) (zone_set zone_start at x (zone_in top memory))) (later w (set (take zone_start memory) at x) (zone_in top memory))) e
        ∙ ap (later w (take zone_start memory)) (sym now.zone)
        ∙ ap (λ u. later w u (zone_in top (set memory at x))) (sym now.user)
    by false e =
        let now = user_words_are_stored top at x memory (top_of one.level memory level) level.memory_is (leb-false zone_start at e) in
        ap (λ b. cond b (later w (take zone_start memory) (zone_set zone_start at x (zone_in top memory))) (later w (set (take zone_start memory) at x) (zone_in top memory))) e
        ∙ ap (later w (set (take zone_start memory) at x)) (sym now.zone)
        ∙ ap (λ u. later w u (zone_in top (set memory at x))) (sym now.user)
