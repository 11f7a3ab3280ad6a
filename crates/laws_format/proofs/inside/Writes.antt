-- Whole sectors that are written come in the place of others.
use Rattle.std.proofs.Common.{◌≡◌, ℕ, zero, suc, ◌+◌, ◌<◌, ◌≤◌, List, [], ◌∷◌, ◌++◌, length, length-set, take, drop, set, refl, sym, ap, ◌∙◌, arith, get_or}
use Rattle.std.proofs.lemmas.List.{take-append-drop, drop_all, append-nil}
use Rattle.laws_hint.specs.disk_records.specs.declared.records.Sector.{Sector}
use Rattle.laws_hint.specs.disk_records.specs.Packs.{after_all, no_sector}
use Rattle.laws_hint.specs.pack_model.specs.sessions.Format.{formatted, sector_writes, sectors_writes}
use Rattle.laws_format.specs.Writing.{FormattingGoesOn, FormattingLeavesItsPack, SectorsComeInPlace}
use Rattle.laws_format.proofs.inside.Counting.{sectors_many}

-- the three records of a sector are the sector
three_parts : (old : List Sector) (at : ℕ) (s : Sector) → at < length old → after_all (sector_writes at s) old ≡ set old at s
three_parts [] at s l = absurd (omega arith)
three_parts (o ∷ old) zero s l = refl
three_parts (o ∷ old) (suc at) s l = ap (λ r. o ∷ r) (three_parts old at s (omega arith))

-- a list is its first items, the next one, and the others
placed : (old : List Sector) (at : ℕ) (s : Sector) (sectors : List Sector) (end : ℕ) → at < length old → end ≡ suc at + length sectors → take (suc at) (set old at s) ++ sectors ++ drop end (set old at s) ≡ take at old ++ (s ∷ sectors) ++ drop end old
placed [] at s sectors end l e = absurd (omega arith)
placed (o ∷ old) zero s sectors zero l e = absurd (omega arith)
placed (o ∷ old) zero s sectors (suc end) l e = refl
placed (o ∷ old) (suc at) s sectors zero l e = absurd (omega arith)
placed (o ∷ old) (suc at) s sectors (suc end) l e = ap (λ r. o ∷ r) (placed old at s sectors end (omega arith) (omega arith))

in_place : (old : List Sector) (at : ℕ) (sectors : List Sector) → at + length sectors ≤ length old → after_all (sectors_writes at sectors) old ≡ take at old ++ sectors ++ drop (at + length sectors) old
in_place old at [] l = let z : at ≡ at + 0 = omega arith in sym (take-append-drop at old) ∙ ap (λ r. r ++ drop at old) (sym (append-nil (take at old))) ∙ ap (λ n. take at old ++ [] ++ drop n old) z
in_place old at (s ∷ sectors) l =
    let size = length-set old at s in
    let z : suc at + length sectors ≡ at + suc (length sectors) = omega arith in
    ap (after_all (sectors_writes (suc at) sectors)) (three_parts old at s (omega arith))
    ∙ in_place (set old at s) (suc at) sectors (omega arith)
    ∙ placed old at s sectors (suc at + length sectors) (omega arith) refl
    ∙ ap (λ n. take at old ++ (s ∷ sectors) ++ drop n old) z

-- as many as there are, in the place of all
all_replaced : (old new : List Sector) → length new ≡ length old → after_all (sectors_writes 0 new) old ≡ new
all_replaced old new same = in_place old 0 new (omega arith) ∙ ap (λ r. new ++ r) (drop_all (0 + length new) old (omega arith)) ∙ append-nil new

pub sectors_come_in_place : SectorsComeInPlace
sectors_come_in_place p at sectors l = in_place p.sectors at sectors l

pub formatting_leaves_its_pack : FormattingLeavesItsPack
formatting_leaves_its_pack p number moment each =
    let same : length (formatted p.shape number moment).sectors ≡ length p.sectors = sectors_many p.shape number moment ∙ sym each in
    λ i. record { shape = p.shape; sectors = all_replaced p.sectors (formatted p.shape number moment).sectors same i }

-- one sector more
goes_on : (sectors : List Sector) (at k : ℕ) → k < length sectors → sectors_writes at (take (suc k) sectors) ≡ sectors_writes at (take k sectors) ++ sector_writes (at + k) (get_or sectors k no_sector)
goes_on [] at k l = absurd (omega arith)
goes_on (s ∷ sectors) at zero l = let z : at ≡ at + 0 = omega arith in ap (λ n. sector_writes n s) z
goes_on (s ∷ sectors) at (suc k) l =
    let z : suc at + k ≡ at + suc k = omega arith in
    ap (λ es. sector_writes at s ++ es) (goes_on sectors (suc at) k (omega arith))
    ∙ ap (λ n. sector_writes at s ++ (sectors_writes (suc at) (take k sectors) ++ sector_writes n (get_or sectors k no_sector))) z

one_more : (sectors : List Sector) (at more : ℕ) → more ≡ suc at → at < length sectors → sectors_writes 0 (take more sectors) ≡ sectors_writes 0 (take at sectors) ++ sector_writes at (get_or sectors at no_sector)
one_more sectors at more e l =
    let z : 0 + at ≡ at = omega arith in
    ap (λ n. sectors_writes 0 (take n sectors)) e ∙ goes_on sectors 0 at l ∙ ap (λ n. sectors_writes 0 (take at sectors) ++ sector_writes n (get_or sectors at no_sector)) z

pub formatting_goes_on : FormattingGoesOn
formatting_goes_on shape number moment at low =
    let many = sectors_many shape number moment in
    one_more (formatted shape number moment).sectors at (at + 1) (omega arith) (omega arith)
