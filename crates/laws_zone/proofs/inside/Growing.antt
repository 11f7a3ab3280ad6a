-- A zone that grows: its last free block, or none, reaches further.
use Rattle.std.proofs.Common.{◌≡◌, ℕ, ◌+◌, ◌-◌, zero, suc, List, [], ◌∷◌, ◌++◌, sym, subst, ap, ◌∙◌, length, take, drop, replicate, arith, append_assoc, append-nil}
use Rattle.std.proofs.lemmas.List.{drop-drop}
use Rattle.world_model.specs.Zones.{Block, gap, grown, left_before}
use Rattle.world_model.specs.ZoneWords.{IsMemory, block_words, memory_length, memory_of, zone_in, zone_start, zone_words}
use Rattle.laws_zone.specs.Filling.{FillZone, front_of, last_gap, zone_size}
use Rattle.laws_zone.specs.MemoryLaws.{ReadsBack}
use Rattle.laws_zone.specs.PlaceLaws.{ZonesGrow}
use Rattle.laws_zone.proofs.Joining.{front_size, front_splits}
use Rattle.laws_zone.proofs.Rows.{words_of_both}
use Rattle.laws_zone.proofs.inside.Levelling.{grown_fills, grown_is}
use Rattle.laws_zone.proofs.inside.Remembering.{memories_have_such_zones}
use Rattle.laws_zone.proofs.inside.Replacing.{drop_back, take_front}
use Rattle.laws_zone.proofs.inside.Zoning.{zones_read_back}

pub fewer_zeros : (n k : ℕ) → drop n (replicate {A = ℕ} k 0) ≡ replicate (k - n) 0
fewer_zeros zero k = let e : k ≡ k - 0 = omega arith in ap (λ j. replicate j 0) e
fewer_zeros (suc n) zero = let e : 0 ≡ 0 - suc n = omega arith in ap (λ j. replicate {A = ℕ} j 0) e
fewer_zeros (suc n) (suc k) = let e : k - n ≡ suc k - suc n = omega arith in fewer_zeros n k ∙ ap (λ j. replicate j 0) e

pub zones_grow : ZonesGrow
zones_grow top more from memory new t u less h starts is = record {
  memory = subst (IsMemory more) (sym words) back_in.memory_is;
  zone = ap (zone_in more) words ∙ back_in.zone_is;
  user = ap (take zone_start) words ∙ back_in.user_is;
}
  where
    zone : List Block
    zone = zone_in top memory

    user : List ℕ
    user = take zone_start memory

    whole : FillZone top (zone_in top memory)
    whole = (memories_have_such_zones top memory t h).0

    start : length user ≡ zone_start
    start = (memories_have_such_zones top memory t h).1

    blocks : List Block
    blocks = grown (more - top) zone

    fills : FillZone more blocks
    fills = grown_fills top more zone whole t.even u.even (omega (arith, less))

    back_in : ReadsBack more user blocks
    back_in = zones_read_back more user blocks u.most start fills

    from_is : from ≡ zone_start + zone_size (front_of zone)
    from_is = let front = front_size zone in let size = whole.size in omega (arith, front, size, starts)

    many : more - from ≡ last_gap zone + (more - top)
    many = omega (arith, starts, less)

    split : zone_in top memory ≡ front_of zone ++ left_before (last_gap zone) []
    split = front_splits zone whole.each

    blocks_are : blocks ≡ front_of zone ++ gap (last_gap zone + (more - top)) ∷ []
    blocks_are = grown_is (more - top) zone (omega (arith, less)) whole.joined

    tail : drop more memory ≡ replicate (memory_length - more) 0
    tail =
        let e : more ≡ top + (more - top) = omega (arith, less) in
        let f : zone_start + zone_size zone ≡ top = whole.size in
        let g : memory_length - top - (more - top) ≡ memory_length - more = omega (arith, less) in
        ap (λ n. drop n memory) e
        ∙ sym (drop-drop (more - top) top memory)
        ∙ ap (drop (more - top)) (ap (λ n. drop n memory) (sym f) ∙ drop_back top memory zone [] t h (sym (append-nil zone)))
        ∙ fewer_zeros (more - top) (memory_length - top)
        ∙ ap (λ n. replicate n 0) g

    words : new ≡ memory_of more user blocks
    words =
        is
        ∙ (λ i. (take (from_is i) memory ++ block_words (gap (many i))) ++ tail i)
        ∙ ap (λ (l : List ℕ). (l ++ block_words (gap (last_gap zone + (more - top)))) ++ replicate (memory_length - more) 0) (take_front top memory (front_of zone) (left_before (last_gap zone) []) t h split)
        ∙ ap (λ (l : List ℕ). l ++ replicate (memory_length - more) 0)
        (append_assoc user (zone_words (front_of zone)) (block_words (gap (last_gap zone + (more - top))))
        ∙ ap (λ (l : List ℕ). user ++ (zone_words (front_of zone) ++ l)) (sym (append-nil (block_words (gap (last_gap zone + (more - top))))))
        ∙ ap (λ (l : List ℕ). user ++ l) (sym (words_of_both (front_of zone) (gap (last_gap zone + (more - top)) ∷ [])))
        ∙ ap (λ (z : List Block). user ++ zone_words z) (sym blocks_are))
