-- A walk over the blocks of a zone, by the tags in the words of the memory.
use Rattle.std.proofs.Common.{◌≡◌, ℕ, ◌+◌, ◌-◌, zero, suc, List, [], ◌∷◌, ◌++◌, refl, sym, subst, ap, ◌∙◌, length, take, get_or, replicate, arith, append_assoc, append-nil}
use Rattle.std.proofs.lemmas.Bool.{eq-eqb}
use Rattle.world_model.specs.Zones.{Block, gap, live, block_size}
use Rattle.world_model.specs.ZoneWords.{IsMemory, block_words, is_gap_tag, memory_length, tag_size, zone_in, zone_start, zone_words}
use Rattle.laws_zone.specs.Filling.{CanStand, EachCanStand, IsTop, zone_size}
use Rattle.laws_zone.specs.WalkLaws.{NextBlock, WalksBegin, WalksGoOn, WalksMeetABlock, WalksPassAll, is_gap, tag_of}
use Rattle.laws_zone.proofs.Rows.{each_first, each_last, size_of_both}
use Rattle.laws_zone.proofs.inside.Parts.{front_length, parts_at}
use Rattle.laws_zone.proofs.inside.Remembering.{memories_have_such_zones}
use Rattle.laws_zone.proofs.inside.Zoning.{used_is_no_gap, used_tag}

-- ---- tags
size_of_tag : (b : Block) → CanStand b → tag_size (tag_of b) ≡ block_size b
size_of_tag (gap n) can = can.1
size_of_tag (live words) can = used_tag (suc (length words)) can.1

kind_of_tag : (b : Block) → CanStand b → is_gap_tag (tag_of b) ≡ is_gap b
kind_of_tag (gap n) can = eq-eqb n (tag_size n) (sym can.1)
kind_of_tag (live words) can = used_is_no_gap (suc (length words)) can.1

first_word : (b : Block) (l : List ℕ) → get_or (block_words b ++ l) 0 0 ≡ tag_of b
first_word (gap n) l = refl
first_word (live words) l = refl

get_past : (front back : List ℕ) (n : ℕ) → length front ≡ n → get_or (front ++ back) n 0 ≡ get_or back 0 0
get_past [] back n e = ap (λ k. get_or back k 0) (sym e)
get_past (x ∷ front) back zero e = absurd (omega (arith, e))
get_past (x ∷ front) back (suc n) e = get_past front back n (omega (arith, e))

-- the sizes of blocks that are passed, and of those ahead
two_sizes : (top : ℕ) (memory : List ℕ) (before rest : List Block) → IsTop top → IsMemory top memory → zone_in top memory ≡ before ++ rest → zone_start + (zone_size before + zone_size rest) ≡ top
two_sizes top memory before rest t h zone = ap (λ n. zone_start + n) (sym (ap zone_size zone ∙ size_of_both before rest)) ∙ (memories_have_such_zones top memory t h).0.size

-- each block of the zone can stand
all_stand : (top : ℕ) (memory : List ℕ) (before rest : List Block) → IsTop top → IsMemory top memory → zone_in top memory ≡ before ++ rest → EachCanStand (before ++ rest)
all_stand top memory before rest t h zone = subst EachCanStand zone (memories_have_such_zones top memory t h).0.each

-- ---- the laws
pub walks_begin : WalksBegin
walks_begin top memory = record { zone = refl; place = omega arith }

pub walks_go_on : WalksGoOn
walks_go_on top memory at before b after s =
    let place = s.place in
    let both = size_of_both before (b ∷ []) in
    record { zone = s.zone ∙ sym (append_assoc before (b ∷ []) after); place = omega (arith, place, both) }

pub walks_meet_a_block : WalksMeetABlock
walks_meet_a_block top memory at before rest t h s below = by rest s.zone refl
  where
    by : (r : List Block) → zone_in top memory ≡ before ++ r → rest ≡ r → NextBlock top memory at rest
    by [] zone e =
        let all = two_sizes top memory before [] t h zone in
        let place = s.place in
        absurd (omega (arith, all, place, below))
    by (b ∷ after) zone e =
        let each = all_stand top memory before (b ∷ after) t h zone in
        let can = (each_last before (b ∷ after) each).0 in
        let front = front_length top memory before h (each_first before (b ∷ after) each) in
        let word : get_or memory at 0 ≡ tag_of b =
        (λ i. get_or (parts_at top memory before (b ∷ after) t h zone i) at 0)
        ∙ get_past (take zone_start memory ++ zone_words before) (zone_words (b ∷ after) ++ replicate (memory_length - top) 0) at (front ∙ sym s.place)
        ∙ ap (λ (l : List ℕ). get_or l 0 0) (append_assoc (block_words b) (zone_words after) (replicate (memory_length - top) 0))
        ∙ first_word b (zone_words after ++ replicate (memory_length - top) 0) in
        let all = two_sizes top memory before (b ∷ after) t h zone in
        let place = s.place in
        record {
          block = b;
          after = after;
          is = e;
          has = record { can = can; tag = word; size = ap tag_size word ∙ size_of_tag b can; kind = ap is_gap_tag word ∙ kind_of_tag b can };
          within = omega (arith, all, place);
        }

pub walks_pass_all : WalksPassAll
walks_pass_all top memory at before rest t h s past = by rest s.zone refl
  where
    by : (r : List Block) → zone_in top memory ≡ before ++ r → rest ≡ r → (rest ≡ []) × (zone_in top memory ≡ before)
    by [] zone e = (e, zone ∙ append-nil before)
    by (b ∷ after) zone e =
        let some = (each_last before (b ∷ after) (all_stand top memory before (b ∷ after) t h zone)).0.0 in
        let all = two_sizes top memory before (b ∷ after) t h zone in
        let place = s.place in
        absurd (omega (arith, some, all, place, past))
