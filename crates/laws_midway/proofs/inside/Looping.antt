-- Midway in a loop over sectors.
use Rattle.std.proofs.Common.{Bool, List, Some, [], ap, arith, drop, false, get_or, length, refl, subst, suc, sym, take, true, zero, ℕ, ◌+◌, ◌<◌, ◌∙◌, ◌∷◌, ◌≡◌, ◌≢◌, ◌≤◌}
use Rattle.std.proofs.lemmas.List.Elements.{All-head, All-tail}
use Rattle.std.proofs.lemmas.List.{length-set}
use Rattle.laws_hint.specs.alto_words.specs.declared.fid.Fid.{Fid}
use Rattle.laws_hint.specs.disk_records.specs.Commands.{claim_writes, ones, release_writes}
use Rattle.laws_hint.specs.disk_records.specs.Packs.{Pack, after, after_all, after_one, no_sector, with_part}
use Rattle.laws_hint.specs.disk_records.specs.declared.records.Event.{Event}
use Rattle.laws_hint.specs.disk_records.specs.declared.records.Event.TheVariants.{Shown, Wrote}
use Rattle.laws_hint.specs.disk_records.specs.declared.records.Sector.{Sector}
use Rattle.laws_hint.specs.pack_laws.proofs.Guarding.{ones_free, other_kept}
use Rattle.laws_hint.specs.pack_laws.proofs.Placing.{place_is, place_same, shows_carried, shows_led}
use Rattle.laws_hint.specs.pack_model.specs.operations.Commands.{all_claimed, releases_writes, sectors_of}
use Rattle.laws_hint.specs.pack_model.specs.reading.Files.{carries_page, place}
use Rattle.laws_hint.specs.pack_model.specs.reading.Model.{good_one}
use Rattle.laws_hint.specs.pack_model.specs.reading.Sights.{Sight, sights}
use Rattle.laws_hint.specs.pack_model.specs.reading.Sights.Sight.{free, hidden, holds, leads}
use Rattle.laws_hint.specs.laws_operation.proofs.Commanding.{claim_apart, release_apart, release_shows}
use Rattle.laws_hint.specs.laws_operation.specs.ByteLaws.{Bear}
use Rattle.laws_midway.specs.LoopLaws.{ClaimsLeaveOtherSectors, EachSectorStays, RelabelLeavesOtherSectors, ReleasesLeaveOtherSectors, ReleasesLeaveTheRest}

-- ---- other sectors
pub releases_leave_other_sectors : ReleasesLeaveOtherSectors
releases_leave_other_sectors p [] i h = refl
releases_leave_other_sectors p (at ∷ ats) i h =
    releases_leave_other_sectors (after p (release_writes at)) ats i (All-tail (λ at. i ≢ at) at ats h) ∙ release_apart p at i (All-head (λ at. i ≢ at) at ats h)

pub claims_leave_other_sectors : ClaimsLeaveOtherSectors
claims_leave_other_sectors p [] i h = refl
claims_leave_other_sectors p (c ∷ cs) i h =
    claims_leave_other_sectors (after p (claim_writes c.at c.label c.value)) cs i (All-tail (λ at. i ≢ at) c.at (sectors_of (all_claimed cs)) h)
    ∙ claim_apart p c.at i c.label c.value (All-head (λ at. i ≢ at) c.at (sectors_of (all_claimed cs)) h)

pub relabel_leaves_other_sectors : RelabelLeavesOtherSectors
relabel_leaves_other_sectors p at i label value ne = other_kept (after p (Wrote at 1 label ∷ [])) at 2 value i ne ∙ other_kept p at 1 label i ne

-- ---- the rest of a row
-- a leader is no data page
led_not : (f : Fid) (k : ℕ) (s : Sight) → carries_page f 0 s ≡ true → carries_page f (suc k) s ≡ true → ⊥
led_not f k s a b =
    let x = shows_led f s a in
    let y = shows_carried f k s b in
    let clash : leads f x.0 x.1 ≡ holds f k y.0 = sym x.2 ∙ y.1 in cc

-- a sector carries one page
carries_one : (f : Fid) (n k : ℕ) (s : Sight) → carries_page f n s ≡ true → carries_page f k s ≡ true → n ≡ k
carries_one f zero zero s a b = refl
carries_one f zero (suc k) s a b = absurd (led_not f k s a b)
carries_one f (suc n) zero s a b = absurd (led_not f n s b a)
carries_one f (suc n) (suc k) s a b =
    let x = shows_carried f n s a in
    let y = shows_carried f k s b in
    let z : holds f n x.0 ≡ holds f k y.0 = sym x.1 ∙ y.1 in
    let e : n ≡ k = cc in ap suc e

not_true : (b : Bool) → (b ≡ true → ⊥) → b ≡ false
not_true true h = absurd (h refl)
not_true false h = refl

good_of : (f : Fid) (n : ℕ) (s : Sight) → carries_page f n s ≡ true → good_one s ≡ 1
good_of f zero s e = let x = shows_led f s e in ap good_one x.2
good_of f (suc n) s e = let x = shows_carried f n s e in ap good_one x.1

-- the places of its file's other pages stay when a sector is released
place_stays : (p : Pack) (f : Fid) (n k at : ℕ) → n < k → place (sights p) f n ≡ Some at → place (sights (after p (release_writes at))) f k ≡ place (sights p) f k
place_stays p f n k at l is =
    let here = place_is (sights p) f n at is in
    ap (λ ss. place ss f k) (release_shows p at (good_of f n (get_or (sights p) at hidden) (here.carries hidden)) (ones 8) (ones 256) ones_free)
    ∙ place_same (sights p) at free f k here.within (sym (not_true (carries_page f k (get_or (sights p) at hidden)) (λ e. let same = carries_one f n k (get_or (sights p) at hidden) (here.carries hidden) e in omega arith)))

row_stays : (p : Pack) (f : Fid) (n k at : ℕ) (ats : List ℕ) → n < k → place (sights p) f n ≡ Some at → Bear (sights p) f k ats → Bear (sights (after p (release_writes at))) f k ats
row_stays p f n k at [] l is h = tt
row_stays p f n k at (i ∷ ats) l is h = (place_stays p f n k at l is ∙ h.0, row_stays p f n (suc k) at ats (omega arith) is h.1)

rest_of : (k : ℕ) (p : Pack) (f : Fid) (n m : ℕ) (pages : List ℕ) → n + k ≡ m → k ≤ length pages → Bear (sights p) f n pages → Bear (sights (after p (releases_writes (take k pages)))) f m (drop k pages)
rest_of zero p f n m pages e l h = let z : n ≡ m = omega (arith, e) in subst (λ x. Bear (sights p) f x pages) z h
rest_of (suc k) p f n m [] e l h = absurd (omega (arith, l))
rest_of (suc k) p f n m (at ∷ ats) e l h = rest_of k (after p (release_writes at)) f (suc n) m ats (omega (arith, e)) (omega (arith, l)) (row_stays p f n (suc n) at ats (omega arith) h.0 h.1)

pub releases_leave_the_rest : ReleasesLeaveTheRest
releases_leave_the_rest p f n k pages h l = rest_of k p f n (n + k) pages refl l h

-- ---- as many sectors
pub as_many : (events : List Event) (ss : List Sector) → length (after_all events ss) ≡ length ss
as_many [] ss = refl
as_many (Wrote at part words ∷ events) ss = as_many events (after_one (Wrote at part words) ss) ∙ length-set ss at (with_part part words (get_or ss at no_sector))
as_many (Shown byte ∷ events) ss = as_many events ss

pub each_sector_stays : EachSectorStays
each_sector_stays p events h = as_many events p.sectors ∙ h
