-- The bits of the map of free sectors after the record writes of a sector command.
use Rattle.std.proofs.Common.{Bool, List, [], ap, cond, eq-eqb, eqb-true, false, get_or, length, length-set, map, not, refl, set, subst, suc, sym, true, zero, ℕ, ◌<◌, ◌∙◌, ◌∷◌, ◌≡◌}
use Rattle.std.specs.List.{list_any}
use Rattle.std.specs.Prelude.{◌==◌, ◌||◌}
use Rattle.std.proofs.lemmas.List.{get_or-set_other, get_or-set_same, map-set}
use Rattle.std.proofs.lemmas.Option.{cond_some}
use Rattle.laws_line.specs.disk_records.specs.Commands.{claim_writes, ones, release_writes}
use Rattle.laws_line.specs.disk_records.specs.Labels.{in_range, is_free, tag}
use Rattle.laws_line.specs.disk_records.specs.Packs.{Pack, after, is_usable, no_sector, sector_at, with_part}
use Rattle.laws_line.specs.disk_records.specs.declared.records.Event.TheVariants.{Wrote}
use Rattle.laws_line.specs.disk_records.specs.declared.records.Sector.{Sector}
use Rattle.laws_line.specs.disk_records.specs.declared.shape.Shape.{Shape}
use Rattle.laws_line.specs.hint_cache.specs.Bits.{busy_at}
use Rattle.laws_line.specs.pack_model.specs.operations.Commands.{Claim, all_claimed, claims_writes, releases_writes, sectors_of}
use Rattle.laws_line.specs.pack_model.specs.states.InUse.{is_free_sight}
use Rattle.laws_line.specs.pack_model.specs.reading.Sights.{page_sight, sight, sights}
use Rattle.laws_line.specs.pack_model.specs.reading.Sights.Sight.{free, hidden, stray}
use Rattle.laws_line.specs.pack_model.specs.hints.Tables.{free_table}
use Rattle.laws_line.specs.pack_laws.proofs.Guarding.{free_shown, ones_free, usable_shown}
use Rattle.laws_line.specs.pack_laws.proofs.Sighted.{sights-write}
use Rattle.laws_hint.proofs.inside.TrueMap.{page_not_free, values_free}
use Rattle.laws_hint.specs.MapChanges.{ClaimsAndReleasesMarkFreeTable, MarkingSetsListedBitsAlone, marked}

-- ---- bits
-- one that is set to what it is, or past the end
set_alike : (table : List Bool) (at : ℕ) → busy_at table at ≡ true → set table at true ≡ table
set_alike [] at is = refl
set_alike (b ∷ table) zero is = λ i. sym is i ∷ table
set_alike (b ∷ table) (suc at) is = ap (λ r. b ∷ r) (set_alike table at is)

-- a busy one stays busy
set_busy : (table : List Bool) (at k : ℕ) → busy_at table k ≡ true → busy_at (set table at true) k ≡ true
set_busy [] at k is = is
set_busy (b ∷ table) zero zero is = refl
set_busy (b ∷ table) zero (suc k) is = is
set_busy (b ∷ table) (suc at) zero is = is
set_busy (b ∷ table) (suc at) (suc k) is = set_busy table at k is

-- also where several are set
pub marked_busy : (ats : List ℕ) (table : List Bool) (k : ℕ) → busy_at table k ≡ true → busy_at (marked true ats table) k ≡ true
marked_busy [] table k is = is
marked_busy (at ∷ ats) table k is = marked_busy ats (set table at true) k (set_busy table at k is)

-- so to set it again changes nothing
pub set_again : (ats : List ℕ) (table : List Bool) (k : ℕ) → busy_at table k ≡ true → set (marked true ats table) k true ≡ marked true ats table
set_again ats table k is = set_alike (marked true ats table) k (marked_busy ats table k is)

-- a bit is what it is set to, and others are as they were
set_bit : (table : List Bool) (i at : ℕ) (busy : Bool) → at < length table → busy_at (set table i busy) at ≡ cond (at == i) busy (busy_at table at)
set_bit table i at busy low = by (at == i) refl
  where
    by : (b : Bool) → (at == i) ≡ b → busy_at (set table i busy) at ≡ cond b busy (busy_at table at)
    by true e = let same : at ≡ i = eqb-true at i e in ap (λ k. busy_at (set table i busy) k) same ∙ get_or-set_same table i busy true (subst (λ k. k < length table) same low)
    by false e = get_or-set_other table i at busy true (λ same. let both : true ≡ false = sym (eq-eqb at i same) ∙ e in absurd cc)

-- so where several are set
pub marking_sets_listed_bits_alone : MarkingSetsListedBitsAlone
marking_sets_listed_bits_alone busy [] table at low = refl
marking_sets_listed_bits_alone busy (i ∷ ats) table at low = marking_sets_listed_bits_alone busy ats (set table i busy) at (subst (λ n. at < n) (sym (length-set table i busy)) low) ∙ ap (cond (list_any (λ k. at == k) ats) busy) (set_bit table i at busy low) ∙ by (at == i) (list_any (λ k. at == k) ats)
  where
    by : (a b : Bool) → cond b busy (cond a busy (busy_at table at)) ≡ cond (a || b) busy (busy_at table at)
    by true true = refl
    by true false = refl
    by false b = refl

-- ---- one record
-- a record changes the bit of its sector
written_bit : (p : Pack) (at part : ℕ) (words : List ℕ) → free_table (after p (Wrote at part words ∷ [])) ≡ set (free_table p) at (not (is_free_sight (sight p.shape at (with_part part words (sector_at p at)))))
written_bit p at part words = ap (map (λ s. not (is_free_sight s))) (sights-write p at part words) ∙ map-set (λ s. not (is_free_sight s)) (sights p) at _

-- a sector isn't free whose label is in range
ranged_not_free : (shape : Shape) (at : ℕ) (s : Sector) → in_range (tag s.label) ≡ true → is_free_sight (sight shape at s) ≡ false
unfolding sight
ranged_not_free shape at s ranged = ap (λ b. is_free_sight (cond (is_usable shape at s) (cond b (page_sight (tag s.label).fid (tag s.label).page (tag s.label).bytes s.value) (cond (is_free (tag s.label)) free stray)) hidden)) ranged ∙ by (is_usable shape at s)
  where
    by : (b : Bool) → is_free_sight (cond b (page_sight (tag s.label).fid (tag s.label).page (tag s.label).bytes s.value) hidden) ≡ false
    by true = page_not_free (tag s.label).fid (tag s.label).page (tag s.label).bytes s.value
    by false = refl

-- a label in range makes it busy
pub label_bit : (p : Pack) (at : ℕ) (label : List ℕ) → in_range (tag label) ≡ true → free_table (after p (Wrote at 1 label ∷ [])) ≡ set (free_table p) at true
label_bit p at label ranged = written_bit p at 1 label ∙ ap (λ b. set (free_table p) at (not b)) (ranged_not_free p.shape at (with_part 1 label (sector_at p at)) ranged)

-- a value leaves it
pub value_bit : (p : Pack) (at : ℕ) (value : List ℕ) → free_table (after p (Wrote at 2 value ∷ [])) ≡ free_table p
value_bit p at value = values_free ((at, value) ∷ []) p

-- ---- commands
pub claim_bit : (p : Pack) (at : ℕ) (label value : List ℕ) → in_range (tag label) ≡ true → free_table (after p (claim_writes at label value)) ≡ set (free_table p) at true
claim_bit p at label value ranged =
    value_bit (after p (Wrote at 2 value ∷ Wrote at 1 label ∷ [])) at value
    ∙ label_bit (after p (Wrote at 2 value ∷ [])) at label ranged
    ∙ ap (λ t. set t at true) (value_bit p at value)

pub release_bit : (p : Pack) (at : ℕ) → is_usable p.shape at (sector_at p at) ≡ true → free_table (after p (release_writes at)) ≡ set (free_table p) at false
release_bit p at usable =
    let s : Sector = with_part 1 (ones 8) (sector_at p at) in
    let shows : sight p.shape at s ≡ free = usable_shown p.shape at s usable ∙ free_shown (tag s.label) s.value ones_free in
    value_bit (after p (Wrote at 1 (ones 8) ∷ [])) at (ones 256) ∙ written_bit p at 1 (ones 8) ∙ ap (λ x. set (free_table p) at (not (is_free_sight x))) shows

-- the law
pub claims_and_releases_mark_free_table : ClaimsAndReleasesMarkFreeTable
claims_and_releases_mark_free_table p at = record {
  claims = λ page label value names. claim_bit p at label value (cond_some (in_range (tag label)) _ page names).0;
  releases = release_bit p at;
  values = value_bit p at;
}

-- ---- several
-- the labels of these claims are in range
abbrev pub AreRanged : List Claim → Type 0
AreRanged [] = Unit {0}
AreRanged (c ∷ cs) = (in_range (tag c.label) ≡ true) × AreRanged cs

pub claims_bits : (p : Pack) (cs : List Claim) → AreRanged cs → free_table (after p (claims_writes cs)) ≡ marked true (sectors_of (all_claimed cs)) (free_table p)
claims_bits p [] ranged = refl
claims_bits p (c ∷ cs) ranged = claims_bits (after p (claim_writes c.at c.label c.value)) cs ranged.1 ∙ ap (marked true (sectors_of (all_claimed cs))) (claim_bit p c.at c.label c.value ranged.0)

-- these sectors are usable
abbrev pub AreUsable : Pack → List ℕ → Type 0
AreUsable p [] = Unit {0}
AreUsable p (at ∷ ats) = (is_usable p.shape at (sector_at p at) ≡ true) × AreUsable p ats

-- labels and values leave headers
header_stays : (n : ℕ) (words : List ℕ) (ss : List Sector) (at i : ℕ) → (get_or (set ss at (with_part (suc n) words (get_or ss at no_sector))) i no_sector).header ≡ (get_or ss i no_sector).header
header_stays n words [] at i = refl
header_stays zero words (s ∷ ss) zero zero = refl
header_stays (suc n) words (s ∷ ss) zero zero = refl
header_stays n words (s ∷ ss) zero (suc i) = refl
header_stays n words (s ∷ ss) (suc at) zero = refl
header_stays n words (s ∷ ss) (suc at) (suc i) = header_stays n words ss at i

-- and so usable sectors
pub usable_stays : (p : Pack) (at n : ℕ) (words ats : List ℕ) → AreUsable p ats → AreUsable (after p (Wrote at (suc n) words ∷ [])) ats
usable_stays p at n words [] u = tt
usable_stays p at n words (i ∷ ats) u = (ap (λ h. is_usable p.shape i (record { header = h; label = []; value = [] })) (header_stays n words p.sectors at i) ∙ u.0, usable_stays p at n words ats u.1)

pub releases_bits : (p : Pack) (ats : List ℕ) → AreUsable p ats → free_table (after p (releases_writes ats)) ≡ marked false ats (free_table p)
releases_bits p [] u = refl
releases_bits p (at ∷ ats) u =
    let later : AreUsable (after p (release_writes at)) ats = usable_stays (after p (Wrote at 1 (ones 8) ∷ [])) at 1 (ones 256) ats (usable_stays p at 0 (ones 8) ats u.1) in
    releases_bits (after p (release_writes at)) ats later ∙ ap (marked false ats) (release_bit p at u.0)
