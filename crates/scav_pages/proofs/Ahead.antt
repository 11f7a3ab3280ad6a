-- A pass ends, and frees fewer sectors than a count can't hold.
use Rattle.std.proofs.Common.{◌≡◌, ℕ, ◌+◌, ◌-◌, ◌<◌, ◌≤◌, Bool, true, false, List, [], ◌∷◌, length, min, Option, Some, None, arith}
use Rattle.disk_records.specs.Addresses.{pages_of}
use Rattle.disk_records.specs.Packs.{Pack}
use Rattle.disk_records.specs.Tapes.{Taped, pack}
use Rattle.laws_mend.specs.pack_laws.proofs.Sighted.{length-sights}
use Rattle.pack_model.specs.reading.Sights.{sights}
use Rattle.pack_model.specs.states.InUse.{free_sector_count, how_many, is_free_sight, one_if}
use Rattle.laws_mend.specs.Parts.{FreesMore}
use Rattle.scav_table.specs.declared.row.Row.{Row}
use Rattle.scav_table.specs.Passes.{IsNext}
use Rattle.scav_table.specs.Rows.{no_row, rank}
use Rattle.scav_table.proofs.Standing.{few_sectors}
use Rattle.scav_pages.proofs.Ranking.{is_lower}

-- how far a pass is from its end
abbrev pub ahead : Option Row → ℕ
ahead None = rank no_row + 1
ahead (Some row) = rank no_row - rank row

pub ahead_falls : (last : Option Row) (row : Row) → IsNext last (Some row) → ahead (Some row) < ahead last
ahead_falls None row next = let low : rank row < rank no_row = is_lower row no_row next.1 in omega (arith, low)
ahead_falls (Some b) row next =
    let low : rank row < rank no_row = is_lower row no_row next.1 in
    let more : rank b < rank row = is_lower b row next.0 in
    omega (arith, low, more)

-- ---- how many sectors are freed
pub few_pass : {X : Type 0} (test : X → Bool) (xs : List X) → how_many test xs ≤ length xs
few_pass test [] = omega arith
few_pass test (x ∷ xs) = let rest = few_pass test xs in let one = at_most (test x) in omega (arith, rest, one)
  where
    at_most : (b : Bool) → one_if b ≤ 1
    at_most true = omega arith
    at_most false = omega arith

-- no more than the sectors of the pack
pub free_few : (p : Pack) → free_sector_count (sights p) ≤ length p.sectors
free_few p = let few = few_pass is_free_sight (sights p) in omega (arith, few, length-sights p)

-- those are few on a machine, so one more is counted
pub counts_on : {p : Pack} {more : ℕ} (t : Taped) (freed : ℕ) → length t.base ≡ pages_of t.form → FreesMore p (pack t) (freed + 1) → more ≡ min (freed + 1) 4294967295 → more ≡ freed + 1
counts_on t freed sized frees is = let all = frees.free in omega (arith, all, free_few (pack t), few_sectors t sized, is)
