-- A walk that knows something of the blocks that it has passed: the invariant of a loop over tags, and its steps.
use Rattle.std.proofs.Common.{◌≡◌, ◌≤◌, ◌<◌, ℕ, ◌+◌, List, [], ◌∷◌, ◌++◌, sym, subst, ap, ◌∙◌, get_or, arith}
use Rattle.world_model.specs.Zones.{Block, block_size}
use Rattle.world_model.specs.ZoneWords.{IsMemory, is_gap_tag, tag_size, zone_in, zone_start}
use Rattle.laws_zone.specs.Filling.{CanStand, IsTop, zone_size}
use Rattle.laws_zone.specs.WalkLaws.{StandsBetween, is_gap, tag_of}
use Rattle.laws_zone.proofs.inside.Walks.{walks_begin, walks_go_on, walks_meet_a_block, walks_pass_all}

-- ---- where the walk stands: P holds of the blocks that it has passed
pub record Standing (top : ℕ) (memory : List ℕ) (at : ℕ) (P : List Block → Type 0) : Type 0 where
  pub before : List Block
  pub rest : List Block
  pub zone : zone_in top memory ≡ before ++ rest
  pub place : at ≡ zone_start + zone_size before
  pub so : P before

between : {top : ℕ} {memory : List ℕ} {at : ℕ} {P : List Block → Type 0} (s : Standing top memory at P) → StandsBetween top memory at s.before s.rest
between s = record { zone = s.zone; place = s.place }

-- it begins where P holds of no blocks
pub starts : (top : ℕ) (memory : List ℕ) (P : List Block → Type 0) → P [] → Standing top memory zone_start P
starts top memory P so = let s = walks_begin top memory in record { before = []; rest = zone_in top memory; zone = s.zone; place = s.place; so = so }

-- ---- a step
-- The block that it meets, with what its tag says.
pub record Meets (top : ℕ) (memory : List ℕ) (at : ℕ) (P : List Block → Type 0) : Type 0 where
  pub before : List Block
  pub block : Block
  pub after : List Block
  pub zone : zone_in top memory ≡ before ++ block ∷ after
  pub place : at ≡ zone_start + zone_size before
  pub so : P before
  pub can : CanStand block
  pub tag : get_or memory at 0 ≡ tag_of block
  pub size : tag_size (get_or memory at 0) ≡ block_size block
  pub kind : is_gap_tag (get_or memory at 0) ≡ is_gap block
  pub within : at + block_size block ≤ top

pub meets : (top : ℕ) (memory : List ℕ) (at : ℕ) (P : List Block → Type 0) → IsTop top → IsMemory top memory → Standing top memory at P → at < top → Meets top memory at P
meets top memory at P t h s below =
    let n = walks_meet_a_block top memory at s.before s.rest t h (between s) below in
    record {
      before = s.before;
      block = n.block;
      after = n.after;
      zone = s.zone ∙ ap (λ (r : List Block). s.before ++ r) n.is;
      place = s.place;
      so = s.so;
      can = n.has.can;
      tag = n.has.tag;
      size = n.has.size;
      kind = n.has.kind;
      within = n.within;
    }

-- after it Q holds of one block more
pub goes_on : (top : ℕ) (memory : List ℕ) (at : ℕ) (P Q : List Block → Type 0) (m : Meets top memory at P) → (P m.before → Q (m.before ++ m.block ∷ [])) → Standing top memory (at + tag_size (get_or memory at 0)) Q
goes_on top memory at P Q m so =
    let s = walks_go_on top memory at m.before m.block m.after (record { zone = m.zone; place = m.place }) in
    record {
      before = m.before ++ m.block ∷ [];
      rest = m.after;
      zone = s.zone;
      place = ap (λ n. at + n) m.size ∙ s.place;
      so = so m.so;
    }

-- it goes on, and not past the end
pub steps : (top : ℕ) (memory : List ℕ) (at : ℕ) (P : List Block → Type 0) → IsTop top → IsMemory top memory → Standing top memory at P → at < top → (1 ≤ tag_size (get_or memory at 0)) × (at + tag_size (get_or memory at 0) ≤ top)
steps top memory at P t h s below =
    let m = meets top memory at P t h s below in
    let size = m.size in
    let some = m.can.0 in
    let within = m.within in
    (omega (arith, size, some), omega (arith, size, within))

-- ---- at the end P holds of all blocks
pub all_passed : (top : ℕ) (memory : List ℕ) (at : ℕ) (P : List Block → Type 0) → IsTop top → IsMemory top memory → Standing top memory at P → top ≤ at → P (zone_in top memory)
all_passed top memory at P t h s past = subst P (sym (walks_pass_all top memory at s.before s.rest t h (between s) past).1) s.so
