-- Blocks that stand in the place of others, in the words of the memory.
use Rattle.std.proofs.Common.{◌≡◌, ℕ, ◌+◌, ◌-◌, List, [], ◌++◌, sym, subst, ap, ◌∙◌, length, take, drop, replicate, arith, append_assoc, append-nil}
use Rattle.std.proofs.Math.Seq.{drop-append_seam, take-append_seam}
use Rattle.world_model.specs.Zones.{Block}
use Rattle.world_model.specs.ZoneWords.{IsMemory, memory_length, memory_of, zone_in, zone_start, zone_words}
use Rattle.laws_zone.specs.Filling.{EachCanStand, IsTop, zone_size}
use Rattle.laws_zone.specs.MemoryLaws.{ReadsBack}
use Rattle.laws_zone.specs.PlaceLaws.{OnlyTheZoneChanges, OtherBlocksStandInPlace}
use Rattle.laws_zone.proofs.Rows.{each_first, size_of_both, words_of_both}
use Rattle.laws_zone.proofs.inside.Parts.{front_length, parts_at}
use Rattle.laws_zone.proofs.inside.Remembering.{memories_have_such_zones}
use Rattle.laws_zone.proofs.inside.Writing.{memories_are_their_blocks}
use Rattle.laws_zone.proofs.inside.Zoning.{zones_read_back}

-- ---- up to a place between two blocks, and from there on
pub take_seam : (n : ℕ) (front back : List ℕ) → length front ≡ n → take n (front ++ back) ≡ front
take_seam n front back e = ap (λ k. take k (front ++ back)) (sym e) ∙ take-append_seam front back

drop_seam : (n : ℕ) (front back : List ℕ) → length front ≡ n → drop n (front ++ back) ≡ back
drop_seam n front back e = ap (λ k. drop k (front ++ back)) (sym e) ∙ drop-append_seam front back

abbrev pub tail_of : ℕ → List ℕ
tail_of top = replicate (memory_length - top) 0

pub take_front : (top : ℕ) (memory : List ℕ) (before rest : List Block) → IsTop top → IsMemory top memory → zone_in top memory ≡ before ++ rest
    → take (zone_start + zone_size before) memory ≡ take zone_start memory ++ zone_words before
take_front top memory before rest t h zone =
    let fills = (memories_have_such_zones top memory t h).0 in
    let each = each_first before rest (subst EachCanStand zone fills.each) in
    ap (take (zone_start + zone_size before)) (parts_at top memory before rest t h zone)
    ∙ take_seam (zone_start + zone_size before) (take zone_start memory ++ zone_words before) (zone_words rest ++ tail_of top) (front_length top memory before h each)

pub drop_back : (top : ℕ) (memory : List ℕ) (before rest : List Block) → IsTop top → IsMemory top memory → zone_in top memory ≡ before ++ rest
    → drop (zone_start + zone_size before) memory ≡ zone_words rest ++ tail_of top
drop_back top memory before rest t h zone =
    let fills = (memories_have_such_zones top memory t h).0 in
    let each = each_first before rest (subst EachCanStand zone fills.each) in
    ap (drop (zone_start + zone_size before)) (parts_at top memory before rest t h zone)
    ∙ drop_seam (zone_start + zone_size before) (take zone_start memory ++ zone_words before) (zone_words rest ++ tail_of top) (front_length top memory before h each)

-- ---- other blocks in the place of some
pub other_blocks_stand_in_place : OtherBlocksStandInPlace
other_blocks_stand_in_place top memory new before old mid after t h zone fills is = record {
  memory = subst (IsMemory top) (sym words) back_in.memory_is;
  zone = ap (zone_in top) words ∙ back_in.zone_is;
  user = ap (take zone_start) words ∙ back_in.user_is;
}
  where
    user : List ℕ
    user = take zone_start memory

    blocks : List Block
    blocks = before ++ (mid ++ after)

    start : length user ≡ zone_start
    start = (memories_have_such_zones top memory t h).1

    back_in : ReadsBack top user blocks
    back_in = zones_read_back top user blocks t.most start fills

    place : zone_start + zone_size before + zone_size old ≡ zone_start + zone_size (before ++ old)
    place = let both = size_of_both before old in omega (arith, both)

    back : drop (zone_start + zone_size before + zone_size old) memory ≡ zone_words after ++ tail_of top
    back = ap (λ n. drop n memory) place ∙ drop_back top memory (before ++ old) after t h (zone ∙ sym (append_assoc before old after))

    words : new ≡ memory_of top user blocks
    words =
        is
        ∙ (λ i. take_front top memory before (old ++ after) t h zone i ++ (zone_words mid ++ back i))
        ∙ ap (λ (l : List ℕ). (user ++ zone_words before) ++ l) (sym (append_assoc (zone_words mid) (zone_words after) (tail_of top)))
        ∙ sym (append_assoc (user ++ zone_words before) (zone_words mid ++ zone_words after) (tail_of top))
        ∙ ap (λ (l : List ℕ). l ++ tail_of top) (append_assoc user (zone_words before) (zone_words mid ++ zone_words after))
        ∙ ap (λ (l : List ℕ). (user ++ (zone_words before ++ l)) ++ tail_of top) (sym (words_of_both mid after))
        ∙ ap (λ (l : List ℕ). (user ++ l) ++ tail_of top) (sym (words_of_both before (mid ++ after)))

-- ---- all else is as it was
pub only_the_zone_changes : OnlyTheZoneChanges
only_the_zone_changes top old new blocks t h n = memories_are_their_blocks top new t n.memory ∙ (λ i. (n.user i ++ zone_words (n.zone i)) ++ last i)
  where
    last : tail_of top ≡ drop top old
    last = sym (ap (λ k. drop k old) (sym (memories_have_such_zones top old t h).0.size) ∙ drop_back top old (zone_in top old) [] t h (sym (append-nil (zone_in top old))))
