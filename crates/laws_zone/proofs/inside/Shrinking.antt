-- A zone that shrinks: its last free block is cut, and no used block stands past the new end.
use Rattle.std.proofs.Common.{◌≡◌, ◌≤◌, ◌<◌, ℕ, ◌+◌, ◌-◌, cond, List, [], ◌∷◌, ◌++◌, sym, subst, ap, ◌∙◌, length, take, replicate, arith, append_assoc}
use Rattle.std.proofs.lemmas.Bool.{le-leb, lt-leb}
use Rattle.world_model.specs.Zones.{Block, gap, block_size, left_before, shrunk}
use Rattle.world_model.specs.ZoneWords.{IsMemory, memory_length, memory_of, zone_in, zone_start, zone_words}
use Rattle.laws_zone.specs.Filling.{FillZone, zone_size}
use Rattle.laws_zone.specs.MemoryLaws.{ReadsBack}
use Rattle.laws_zone.specs.PlaceLaws.{ZonesShrink}
use Rattle.laws_zone.proofs.Rows.{words_of_both}
use Rattle.laws_zone.proofs.Sizes.{low_of}
use Rattle.laws_zone.proofs.inside.Levelling.{shrunk_fills}
use Rattle.laws_zone.proofs.inside.Remembering.{memories_have_such_zones}
use Rattle.laws_zone.proofs.inside.Replacing.{take_front}
use Rattle.laws_zone.proofs.inside.Zoning.{zones_read_back}

shrunk_at : (room n : ℕ) (before : List Block) → zone_size before ≤ room → room < zone_size before + n → shrunk room (before ++ gap n ∷ []) ≡ before ++ left_before (room - zone_size before) []
shrunk_at room n [] low high =
    let e : room ≡ room - 0 = omega arith in
    ap (λ b. cond b (gap n ∷ []) (left_before room [])) (lt-leb n room (omega (arith, high))) ∙ ap (λ k. left_before k []) e
shrunk_at room n (b ∷ before) low high =
    let e : room - block_size b - zone_size before ≡ room - (block_size b + zone_size before) = omega arith in
    ap (λ c. cond c (b ∷ shrunk (room - block_size b) (before ++ gap n ∷ [])) (left_before room [])) (le-leb (block_size b) room (omega (arith, low)))
    ∙ ap (λ (l : List Block). b ∷ l) (shrunk_at (room - block_size b) n before (omega (arith, low)) (omega (arith, high, low)) ∙ ap (λ k. before ++ left_before k []) e)

pub zones_shrink : ZonesShrink
zones_shrink top low from memory new t u less h c none is = record {
  memory = subst (IsMemory low) (sym words) back_in.memory_is;
  zone = ap (zone_in low) words ∙ back_in.zone_is;
  user = ap (take zone_start) words ∙ back_in.user_is;
}
  where
    zone : List Block
    zone = zone_in top memory

    user : List ℕ
    user = take zone_start memory

    whole : FillZone top (zone_in top memory)
    whole = (memories_have_such_zones top memory t h).0

    start : length user ≡ zone_start
    start = (memories_have_such_zones top memory t h).1

    blocks : List Block
    blocks = shrunk (low - zone_start) zone

    fills : FillZone low blocks
    fills = shrunk_fills top low zone whole u less none

    back_in : ReadsBack low user blocks
    back_in = zones_read_back low user blocks u.most start fills

    room : low - zone_start - zone_size c.before ≡ low - from
    room = let place = c.place in omega (arith, place)

    blocks_are : blocks ≡ c.before ++ left_before (low - from) []
    blocks_are =
        let place = c.place in
        let first = c.first in
        let past = c.past in
        let under = low_of low u in
        ap (shrunk (low - zone_start)) c.zone
        ∙ shrunk_at (low - zone_start) c.n c.before (omega (arith, place, first)) (omega (arith, place, past, under))
        ∙ ap (λ k. c.before ++ left_before k []) room

    words : new ≡ memory_of low user blocks
    words =
        is
        ∙ ap (λ k. take k memory ++ (zone_words (left_before (low - from) []) ++ replicate (memory_length - low) 0)) c.place
        ∙ ap (λ (l : List ℕ). l ++ (zone_words (left_before (low - from) []) ++ replicate (memory_length - low) 0)) (take_front top memory c.before (gap c.n ∷ []) t h c.zone)
        ∙ sym (append_assoc (user ++ zone_words c.before) (zone_words (left_before (low - from) [])) (replicate (memory_length - low) 0))
        ∙ ap (λ (l : List ℕ). l ++ replicate (memory_length - low) 0)
        (append_assoc user (zone_words c.before) (zone_words (left_before (low - from) []))
        ∙ ap (λ (l : List ℕ). user ++ l) (sym (words_of_both c.before (left_before (low - from) [])))
        ∙ ap (λ (z : List Block). user ++ zone_words z) (sym blocks_are))
