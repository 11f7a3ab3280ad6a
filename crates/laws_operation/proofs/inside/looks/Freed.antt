-- Free sectors, record write by record write.
use Rattle.std.proofs.Common.{All, List, Some, [], ap, arith, cond, false, get_or, inl, inr, nat_lt, refl, subst, suc, sym, true, ℕ, ◌&&◌, ◌++◌, ◌∙◌, ◌∷◌, ◌≡◌, ◌≢◌}
use Rattle.std.proofs.lemmas.Bool.{cases_eq}
use Rattle.std.proofs.lemmas.Option.{cond_some}
use Rattle.std.proofs.lemmas.List.Elements.{All-cons}
use Rattle.laws_contents.specs.alto_words.specs.declared.fid.Fid.{Fid}
use Rattle.laws_contents.specs.disk_records.specs.Addresses.{is_right_header}
use Rattle.laws_contents.specs.disk_records.specs.Commands.{claim_writes, ones, relabel_writes, release_writes, value_writes}
use Rattle.laws_contents.specs.disk_records.specs.Labels.{in_range, is_free, tag}
use Rattle.laws_contents.specs.disk_records.specs.Packs.{Pack, after, is_free_at, is_usable, sector_at}
use Rattle.laws_contents.specs.disk_records.specs.declared.records.Event.{Event}
use Rattle.laws_contents.specs.disk_records.specs.declared.records.Event.TheVariants.{Wrote}
use Rattle.laws_contents.specs.disk_records.specs.declared.records.Sector.{Sector}
use Rattle.laws_contents.specs.disk_records.proofs.Growing.{after-append}
use Rattle.laws_contents.specs.pack_model.specs.operations.Commands.{Claim, all_claimed, claims_writes, releases_writes, sectors_of, values_writes}
use Rattle.laws_contents.specs.pack_model.specs.reading.Files.{place}
use Rattle.laws_contents.specs.pack_model.specs.operations.Operations.{release_file_writes}
use Rattle.laws_contents.specs.pack_model.specs.operations.PageWords.{page_number}
use Rattle.laws_contents.specs.pack_model.specs.reading.Sights.{sights}
use Rattle.laws_contents.specs.pack_laws.proofs.Guarding.{carried_parts, free_parts, front_from, here_written, in_range_taken, ones_free, other_kept, usable_within}
use Rattle.laws_contents.specs.laws_record.proofs.Copying.{place_carried}
use Rattle.laws_operation.specs.ByteLaws.{Bear}
use Rattle.laws_operation.specs.FreeLaws.{ClaimsKeepUnclaimedFree, CutFreesItsPages, CutTakesNoSector, DropFreesItsPages, DropTakesNoSector, EnterLeavesFreeSectors, GrowKeepsUnclaimedFree, MakeKeepsUnclaimedFree, ReleaseFreesItsPages, ReleaseTakesNoSector, SameFree, StayFree, StayFreeBut, ValuesLeaveFreeSectors}

-- ---- one record write
-- a value leaves what is free
value_frees : (p : Pack) (at : ℕ) (value : List ℕ) → SameFree p (value_writes at value)
value_frees p at value i = let f = front_from p.sectors at i value in λ k. cond (nat_lt 0 i && is_right_header p.shape i (f.0 k)) (is_free (tag (f.1 k))) false

-- and which sectors are usable
value_usable : (p : Pack) (at : ℕ) (value : List ℕ) (i : ℕ) → is_usable p.shape i (sector_at (after p (value_writes at value)) i) ≡ is_usable p.shape i (sector_at p i)
value_usable p at value i = let f = front_from p.sectors at i value in λ k. nat_lt 0 i && is_right_header p.shape i (f.0 k)

-- so does a label in another sector
label_apart : (p : Pack) (at : ℕ) (label : List ℕ) (i : ℕ) → i ≢ at → is_free_at (after p (Wrote at 1 label ∷ [])) i ≡ is_free_at p i
label_apart p at label i other = ap (λ (s : Sector). cond (is_usable p.shape i s) (is_free (tag s.label)) false) (other_kept p at 1 label i other)

-- any label leaves the headers
label_usable : (p : Pack) (at : ℕ) (label : List ℕ) (i : ℕ) → is_usable p.shape i (sector_at p i) ≡ true → is_usable p.shape i (sector_at (after p (Wrote at 1 label ∷ [])) i) ≡ true
label_usable p at label i usable = elim (cases_eq i at) [
  | inl is ↦ ap (λ k. is_usable p.shape k (sector_at (after p (Wrote at 1 label ∷ [])) k)) is
      ∙ ap (is_usable p.shape at) (here_written p at 1 label (usable_within p at (ap (λ k. is_usable p.shape k (sector_at p k)) (sym is) ∙ usable)))
      ∙ ap (λ k. is_usable p.shape k (sector_at p k)) (sym is) ∙ usable
  | inr other ↦ ap (is_usable p.shape i) (other_kept p at 1 label i other) ∙ usable
]

-- ones in a label make a usable sector free
ones_here : (p : Pack) (at : ℕ) → is_usable p.shape at (sector_at p at) ≡ true → is_free_at (after p (Wrote at 1 (ones 8) ∷ [])) at ≡ true
ones_here p at usable =
    ap (λ (s : Sector). cond (is_usable p.shape at s) (is_free (tag s.label)) false) (here_written p at 1 (ones 8) (usable_within p at usable))
    ∙ ap (λ b. cond b (is_free (tag (ones 8))) false) usable ∙ ones_free

-- ---- commands
-- a label and a value in another sector
relabel_apart : (p : Pack) (at : ℕ) (label value : List ℕ) (i : ℕ) → i ≢ at → is_free_at (after p (relabel_writes at label value)) i ≡ is_free_at p i
relabel_apart p at label value i other = value_frees (after p (Wrote at 1 label ∷ [])) at value i ∙ label_apart p at label i other

-- a claim of another sector
claim_apart : (p : Pack) (at : ℕ) (label value : List ℕ) (i : ℕ) → i ≢ at → is_free_at (after p (claim_writes at label value)) i ≡ is_free_at p i
claim_apart p at label value i other = relabel_apart (after p (value_writes at value)) at label value i other ∙ value_frees p at value i

-- a release leaves free sectors free
release_free : (p : Pack) (at : ℕ) → StayFree p (release_writes at)
release_free p at i is = value_frees (after p (Wrote at 1 (ones 8) ∷ [])) at (ones 256) i ∙ elim (cases_eq i at) [
  | inl here ↦ ap (λ k. is_free_at (after p (Wrote at 1 (ones 8) ∷ [])) k) here ∙ ones_here p at (ap (λ k. is_usable p.shape k (sector_at p k)) (sym here) ∙ (free_parts p i is).0)
  | inr other ↦ label_apart p at (ones 8) i other ∙ is
]

-- ---- several
-- record writes after others
then_free : (p : Pack) (a b : List Event) (i : ℕ) → is_free_at (after p a) i ≡ true → StayFree (after p a) b → is_free_at (after p (a ++ b)) i ≡ true
then_free p a b i is stay = ap (λ q. is_free_at q i) (after-append p a b) ∙ stay i is

pub values_leave_free_sectors : ValuesLeaveFreeSectors
values_leave_free_sectors p [] i = refl
values_leave_free_sectors p (v ∷ values) i = values_leave_free_sectors (after p (value_writes v.0 v.1)) values i ∙ value_frees p v.0 v.1 i

pub enter_leaves_free_sectors : EnterLeavesFreeSectors
enter_leaves_free_sectors p before at value i = ap (λ q. is_free_at q i) (after-append p (values_writes before) (value_writes at value)) ∙ value_frees (after p (values_writes before)) at value i ∙ values_leave_free_sectors p before i

-- claims leave all free sectors but theirs
claims_free : (cs : List Claim) (p : Pack) → StayFreeBut (sectors_of (all_claimed cs)) p (claims_writes cs)
claims_free [] p i is apart = is
claims_free (c ∷ cs) p i is apart =
    let q : Pack = after p (claim_writes c.at c.label c.value) in
    let first : is_free_at q i ≡ true = claim_apart p c.at c.label c.value i (apart 0 0 (omega arith)) ∙ is in
    ap (λ r. is_free_at r i) (after-append p (claim_writes c.at c.label c.value) (claims_writes cs)) ∙ claims_free cs q i first (λ k d l. apart (suc k) d (omega arith))

pub claims_keep_unclaimed_free : ClaimsKeepUnclaimedFree
claims_keep_unclaimed_free p claims = claims_free claims p

pub make_keeps_unclaimed_free : MakeKeepsUnclaimedFree
make_keeps_unclaimed_free p page leader = claims_free (page ∷ leader ∷ []) p

-- releases leave all free sectors
releases_free : (ats : List ℕ) (p : Pack) → StayFree p (releases_writes ats)
releases_free [] p i is = is
releases_free (at ∷ ats) p i is = then_free p (release_writes at) (releases_writes ats) i (release_free p at i is) (releases_free ats (after p (release_writes at)))

pub release_takes_no_sector : ReleaseTakesNoSector
release_takes_no_sector p at pages = releases_free (at ∷ pages) p

pub drop_takes_no_sector : DropTakesNoSector
drop_takes_no_sector p at pages slot_at value i is = then_free p (release_file_writes at pages) (value_writes slot_at value) i (release_takes_no_sector p at pages i is) (λ j free. value_frees (after p (release_file_writes at pages)) slot_at value j ∙ free)

-- ---- a page gets another label
-- a free sector isn't that of a page
free_elsewhere : (p : Pack) (f : Fid) (n at i : ℕ) → place (sights p) f n ≡ Some at → is_free_at p i ≡ true → i ≢ at
free_elsewhere p f n at i sector free is =
    let label : List ℕ = (sector_at p at).label in
    let bears = place_carried p (page_number f n) at sector in
    let none : is_free (tag label) ≡ true = (free_parts p at (ap (is_free_at p) (sym is) ∙ free)).1 in
    let taken : is_free (tag label) ≡ false = in_range_taken (tag label) (cond_some (in_range (tag label)) _ (page_number f n) (carried_parts p at (page_number f n) bears).1).0 in
    cc

pub grow_keeps_unclaimed_free : GrowKeepsUnclaimedFree
grow_keeps_unclaimed_free p f n claims at label value sector i is apart =
    let q : Pack = after p (claims_writes claims) in
    ap (λ r. is_free_at r i) (after-append p (claims_writes claims) (claim_writes at label value)) ∙ claim_apart q at label value i (free_elsewhere p f n at i sector is) ∙ claims_free claims p i is apart

pub cut_takes_no_sector : CutTakesNoSector
cut_takes_no_sector p f n at label value later sector i is =
    then_free p (relabel_writes at label value) (releases_writes later) i (relabel_apart p at label value i (free_elsewhere p f n at i sector is) ∙ is) (releases_free later (after p (relabel_writes at label value)))

-- ---- released sectors
-- usable ones
usable_released : (ats : List ℕ) (p : Pack) → All (λ i. is_usable p.shape i (sector_at p i) ≡ true) ats → All (λ i. is_free_at (after p (releases_writes ats)) i ≡ true) ats
usable_released [] p usable = λ i d l. absurd (omega arith)
usable_released (at ∷ ats) p usable =
    let q : Pack = after p (release_writes at) in
    let now : is_free_at q at ≡ true = value_frees (after p (Wrote at 1 (ones 8) ∷ [])) at (ones 256) at ∙ ones_here p at (usable 0 0 (omega arith)) in
    let later = usable_released ats q (λ i d l. value_usable (after p (Wrote at 1 (ones 8) ∷ [])) at (ones 256) (get_or ats i d) ∙ label_usable p at (ones 8) (get_or ats i d) (usable (suc i) d (omega arith))) in
    subst (λ r. All (λ i. is_free_at r i ≡ true) (at ∷ ats)) (sym (after-append p (release_writes at) (releases_writes ats)))
    (All-cons (λ i. is_free_at (after q (releases_writes ats)) i ≡ true) at ats (releases_free ats q at now) later)

-- pages in a row are in usable ones
bear_usable : (p : Pack) (f : Fid) (n : ℕ) (ats : List ℕ) → Bear (sights p) f n ats → All (λ i. is_usable p.shape i (sector_at p i) ≡ true) ats
bear_usable p f n [] bear = λ i d l. absurd (omega arith)
bear_usable p f n (at ∷ ats) bear = All-cons (λ i. is_usable p.shape i (sector_at p i) ≡ true) at ats (carried_parts p at (page_number f n) (place_carried p (page_number f n) at bear.0)).0 (bear_usable p f (suc n) ats bear.1)

pub release_frees_its_pages : ReleaseFreesItsPages
release_frees_its_pages p f n pages bear = usable_released pages p (bear_usable p f n pages bear)

pub drop_frees_its_pages : DropFreesItsPages
drop_frees_its_pages p f at pages slot_at value bear = λ i d l.
    let j : ℕ = get_or (at ∷ pages) i d in
    ap (λ q. is_free_at q j) (after-append p (release_file_writes at pages) (value_writes slot_at value)) ∙ value_frees (after p (release_file_writes at pages)) slot_at value j ∙ release_frees_its_pages p f 0 (at ∷ pages) bear i d l

pub cut_frees_its_pages : CutFreesItsPages
cut_frees_its_pages p f n at label value later bear =
    let q : Pack = after p (relabel_writes at label value) in
    let usable : All (λ i. is_usable q.shape i (sector_at q i) ≡ true) later = λ i d l.
    value_usable (after p (Wrote at 1 label ∷ [])) at value (get_or later i d) ∙ label_usable p at label (get_or later i d) (bear_usable p f n later bear i d l) in
    subst (λ r. All (λ i. is_free_at r i ≡ true) later) (sym (after-append p (relabel_writes at label value) (releases_writes later))) (usable_released later q usable)
