-- What was read a moment ago still stands, so it matches.
use Rattle.std.proofs.Common.{◌≡◌, ℕ, [], refl, None, sym, ◌∙◌, ap}
use Rattle.disk_records.specs.declared.records.Sector.{Sector}
use Rattle.disk_records.specs.declared.records.Act.TheVariants.{Check, Write}
use Rattle.disk_records.specs.Checks.{mismatch}
use Rattle.disk_records.specs.Packs.{Pack, after, sector_at}
use Rattle.disk_records.specs.Tapes.{Taped, DiskAlone, pack, added}
use Rattle.disk_records.proofs.Checking.{no_mismatch, same_front}
use Rattle.disk_records.proofs.Growing.{pack-after}

-- a call that writes nothing leaves the pack
pub still : {a b : Taped} → DiskAlone a b → added a b ≡ [] → pack b ≡ pack a
still {a} x none = pack-after x.grown ∙ ap (after (pack a)) none

-- the header and the label are those that were read
pub matches : {a b : Taped} (at : ℕ) (memory found : Sector) → DiskAlone a b → added a b ≡ [] → found ≡ sector_at (pack a) at → memory.header ≡ found.header → memory.label ≡ found.label
    → mismatch (record { header = Check; label = Check; value = Write }) memory (sector_at (pack b) at) ≡ None
matches {a} {b} at memory found x none is header label =
    let stands : found ≡ sector_at (pack b) at = is ∙ ap (λ (p : Pack). sector_at p at) (sym (still x none)) in
    same_front memory (sector_at (pack b) at) (header ∙ ap (λ (s : Sector). s.header) stands) (label ∙ ap (λ (s : Sector). s.label) stands)

-- the header is the one that was read
pub matches_header : {a b : Taped} (at : ℕ) (memory found : Sector) → DiskAlone a b → added a b ≡ [] → found ≡ sector_at (pack a) at → memory.header ≡ found.header
    → mismatch (record { header = Check; label = Write; value = Write }) memory (sector_at (pack b) at) ≡ None
matches_header {a} {b} at memory found x none is header =
    let stands : found ≡ sector_at (pack b) at = is ∙ ap (λ (p : Pack). sector_at p at) (sym (still x none)) in
    let same : memory.header ≡ (sector_at (pack b) at).header = header ∙ ap (λ (s : Sector). s.header) stands in
    rw (same, no_mismatch 0 (sector_at (pack b) at).header) refl
