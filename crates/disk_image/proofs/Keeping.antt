-- Sectors of a cylinder that are put in a table one after another.
use Rattle.std.proofs.Common.{◌≡◌, ◌≢◌, ⊎_elim, ℕ, ◌+◌, ◌*◌, ◌<◌, List, take, drop, sym, ap, ◌∙◌, subst, Some, arith}
use Rattle.std.proofs.lemmas.Bool.{cases_eq}
use Rattle.disk_records.specs.declared.records.Sector.{Sector}
use Rattle.disk_image.specs.declared.table.SectorTable.{SectorTable}
use Rattle.disk_image.specs.Images.{sector_bytes}
use Rattle.disk_image.specs.Kept.{sector_in, HasBytes}

-- the k-th sector after the first is in the table as these bytes say
abbrev KeptAs : SectorTable → ℕ → List ℕ → ℕ → Type 0
KeptAs table first bytes k = HasBytes (sector_in table (first + k)) (take 532 (drop (k * 532) bytes))

-- one sector more is put there
pub keeps_more : (old new : SectorTable) (first i : ℕ) (s : Sector) (bytes : List ℕ) (n : ℕ) → n ≡ 532 → ((k : ℕ) → k < i → KeptAs old first bytes k) → sector_in new (first + i) ≡ Some s → ((k : ℕ) → k ≢ first + i → sector_in new k ≡ sector_in old k) → sector_bytes s ≡ take n (drop (i * 532) bytes) → (k : ℕ) → k < i + 1 → KeptAs new first bytes k
keeps_more old new first i s bytes n whole before here others are k lt =
    let one : KeptAs new first bytes i = rw here (are ∙ ap (λ (m : ℕ). take m (drop (i * 532) bytes)) whole) in
    ⊎_elim
    (λ (e : k ≡ i). subst (KeptAs new first bytes) (sym e) one)
    (λ (n : k ≢ i). rw (others (first + k) (λ e. n (omega arith))) (before k (omega arith)))
    (cases_eq k i)
