-- Where the last free block of a zone begins, as a walk goes on.
use Rattle.std.proofs.Common.{◌≡◌, ◌≤◌, ◌<◌, ℕ, ◌+◌, cond, List, [], ◌∷◌, sym, ap, ◌∙◌, arith, get_or}
use Rattle.zones.specs.world_model.specs.Zones.{Block}
use Rattle.zones.specs.world_model.specs.ZoneWords.{IsMemory, is_gap_tag, tag_size, zone_in, zone_start}
use Rattle.zones.specs.laws_zone.specs.Filling.{IsTop, last_gap, zone_size}
use Rattle.zones.specs.laws_zone.proofs.Rows.{size_of_both}
use Rattle.zones.specs.laws_zone.proofs.Joining.{free_more, front_size, last_gap_more}
use Rattle.zones.specs.laws_zone.proofs.Walking.{Standing, all_passed, goes_on, meets}
use Rattle.zones.specs.laws_zone.proofs.memories.Laws.{memories_have_such_zones}

abbrev pub EndsAt : ℕ → List Block → Type 0
EndsAt from before = from + last_gap before ≡ zone_start + zone_size before

pub end_on : (top : ℕ) (memory : List ℕ) (here from : ℕ) → IsTop top → IsMemory top memory → Standing top memory here (EndsAt from) → here < top
    → Standing top memory (here + tag_size (get_or memory here 0)) (EndsAt (cond (is_gap_tag (get_or memory here 0)) here (here + tag_size (get_or memory here 0))))
end_on top memory here from t h s below =
    let m = meets top memory here (EndsAt from) t h s below in
    let tag = get_or memory here 0 in
    goes_on top memory here (EndsAt from) (EndsAt (cond (is_gap_tag tag) here (here + tag_size tag))) m
    (λ so.
    ap (λ k. cond (is_gap_tag (get_or memory here 0)) here (here + tag_size (get_or memory here 0)) + k) (last_gap_more m.before m.block)
    ∙ free_more here (tag_size tag) m.block (zone_size m.before) (is_gap_tag tag) m.kind m.size m.place
    ∙ ap (λ k. zone_start + k) (sym (size_of_both m.before (m.block ∷ []))))

pub ends_at : (top : ℕ) (memory : List ℕ) (here from : ℕ) → IsTop top → IsMemory top memory → Standing top memory here (EndsAt from) → top ≤ here → from + last_gap (zone_in top memory) ≡ top
ends_at top memory here from t h s past = all_passed top memory here (EndsAt from) t h s past ∙ (memories_have_such_zones top memory t h).0.size

-- the start of the last free block, within the zone
pub start_within : (top : ℕ) (memory : List ℕ) (from : ℕ) → IsTop top → IsMemory top memory → from + last_gap (zone_in top memory) ≡ top → (zone_start ≤ from) × (from ≤ top)
start_within top memory from t h is =
    let fills = (memories_have_such_zones top memory t h).0 in
    let size = fills.size in
    let front = front_size (zone_in top memory) in
    (omega (arith, is, size, front), omega (arith, is))
