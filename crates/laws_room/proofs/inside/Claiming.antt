-- A page that was missing is claimed: one sector fewer is available, and one fewer needed.
use Rattle.std.proofs.Common.{Bool, List, None, Some, [], ap, arith, cond, eq-eqb, false, get_or, inl, inr, length, not, refl, set, subst, suc, sym, true, zero, ℕ, ◌&&◌, ◌+◌, ◌<◌, ◌==◌, ◌∙◌, ◌∷◌, ◌≡◌, ◌≢◌}
use Rattle.std.proofs.lemmas.Bool.{cases_lt}
use Rattle.std.proofs.Math.ListN.{length-set}
use Rattle.std.proofs.lemmas.List.{get_or-set_other, get_or-set_same, get_or_past}
use Rattle.laws_operation.specs.alto_words.specs.Fid.{disk_descriptor}
use Rattle.laws_operation.specs.alto_words.specs.declared.fid.Fid.{Fid}
use Rattle.laws_operation.specs.disk_records.specs.Labels.{page_of, tag}
use Rattle.laws_operation.specs.disk_records.specs.Packs.{Pack, carried, is_free_at, is_usable, sector_at}
use Rattle.laws_operation.specs.disk_records.specs.declared.records.Page.{Page}
use Rattle.laws_operation.specs.disk_records.specs.declared.shape.Shape.{Shape}
use Rattle.laws_operation.specs.pack_model.specs.reading.Files.{carries_page, numbered, place}
use Rattle.laws_operation.specs.pack_model.specs.states.InUse.{available, counts, how_many, is_available, is_place, one_if}
use Rattle.laws_operation.specs.pack_model.specs.scavenger.Mended.{mended}
use Rattle.laws_operation.specs.pack_model.specs.reading.Sights.{Sight, page_sight, sights}
use Rattle.laws_operation.specs.pack_model.specs.reading.Sights.Sight.{free, hidden, holds, leads, stray}
use Rattle.laws_room.proofs.inside.Balancing.{needs_files}
use Rattle.laws_room.proofs.inside.RootStanding.{within_stays}
use Rattle.laws_room.proofs.inside.Rooming.{counting_theorem}
use Rattle.laws_operation.specs.pack_laws.proofs.Guarding.{free_parts, here_written, usable_within}
use Rattle.laws_operation.specs.pack_laws.proofs.Keys.{is_fid-itself, same_fid}
use Rattle.laws_operation.specs.pack_laws.proofs.Placing.{both_test, place_from, place_none, place_same}
use Rattle.laws_record.proofs.Lasting.{last_claim}
use Rattle.laws_record.proofs.Recording.{free_sight, free_within, label_sights}
use Rattle.laws_record.proofs.Staying.{FilesStay}
use Rattle.laws_record.proofs.SystemWrites.{descriptor_pages as descriptor_stays}
use Rattle.laws_record.proofs.Systemic.{mended_stays}
use Rattle.laws_record.specs.QuietLaws.{with_label}
use Rattle.laws_record.specs.ViewLaws.IsDescriptorPage.{claimed, unclaimed}
use Rattle.laws_room.specs.UseLaws.{ClaimTakesAnAvailableSector, Lessens}
use Rattle.laws_room.specs.UseLaws.IsClaimed.{describes, ends}

-- ---- tests of sectors
-- equal ones hold equally often
alike_many : (t u : ℕ × Sight → Bool) (from : ℕ) (ss : List Sight) → ((j : ℕ) → t (from + j, get_or ss j hidden) ≡ u (from + j, get_or ss j hidden)) → how_many t (numbered from ss) ≡ how_many u (numbered from ss)
alike_many t u from [] h = refl
alike_many t u from (x ∷ ss) h =
    let z : from ≡ from + 0 = omega arith in
    let here : t (from, x) ≡ u (from, x) = ap (λ n. t (n, x)) z ∙ h 0 ∙ ap (λ n. u (n, x)) (sym z) in
    let rest : how_many t (numbered (suc from) ss) ≡ how_many u (numbered (suc from) ss) =
    alike_many t u (suc from) ss (λ j. let s : suc from + j ≡ from + suc j = omega arith in ap (λ n. t (n, get_or ss j hidden)) s ∙ h (suc j) ∙ ap (λ n. u (n, get_or ss j hidden)) (sym s)) in
    λ i. one_if (here i) + rest i

-- one that holds of a sector, and another that doesn't hold of what is written in its place
one_fewer : (t u : ℕ × Sight → Bool) (from : ℕ) (ss : List Sight) (i : ℕ) (s : Sight) → i < length ss → t (from + i, get_or ss i hidden) ≡ true → u (from + i, s) ≡ false
    → ((j : ℕ) → j ≢ i → t (from + j, get_or ss j hidden) ≡ u (from + j, get_or ss j hidden)) → how_many t (numbered from ss) ≡ how_many u (numbered from (set ss i s)) + 1
one_fewer t u from [] i s l was now h = absurd (omega arith)
one_fewer t u from (x ∷ ss) zero s l was now h =
    let z : from ≡ from + 0 = omega arith in
    let a = ap one_if (ap (λ n. t (n, x)) z ∙ was) in
    let b = ap one_if (ap (λ n. u (n, s)) z ∙ now) in
    let rest = alike_many t u (suc from) ss (λ j. let s : suc from + j ≡ from + suc j = omega arith in ap (λ n. t (n, get_or ss j hidden)) s ∙ h (suc j) (omega arith) ∙ ap (λ n. u (n, get_or ss j hidden)) (sym s)) in
    omega arith
one_fewer t u from (x ∷ ss) (suc i) s l was now h =
    let z : from ≡ from + 0 = omega arith in
    let e : suc from + i ≡ from + suc i = omega arith in
    let here = ap one_if (ap (λ n. t (n, x)) z ∙ h 0 (omega arith) ∙ ap (λ n. u (n, x)) (sym z)) in
    let rest = one_fewer t u (suc from) ss i s (omega arith) (ap (λ n. t (n, get_or ss i hidden)) e ∙ was) (ap (λ n. u (n, s)) e ∙ now)
    (λ j apart. let s : suc from + j ≡ from + suc j = omega arith in ap (λ n. t (n, get_or ss j hidden)) s ∙ h (suc j) (omega arith) ∙ ap (λ n. u (n, get_or ss j hidden)) (sym s)) in
    omega arith

-- ---- a sector with one page
-- it carries that page
page_carried : (f : Fid) (n bytes : ℕ) (value : List ℕ) → carries_page f n (page_sight f n bytes value) ≡ true
page_carried f zero bytes value = is_fid-itself f
page_carried f (suc n) bytes value = ap (λ b. b && n == n) (is_fid-itself f) ∙ eq-eqb n n refl

-- and no other
carried_alone : (g f : Fid) (m n bytes : ℕ) (value : List ℕ) → carries_page g m (page_sight f n bytes value) ≡ true → (g ≡ f) × (m ≡ n)
carried_alone g f zero zero bytes value e = (same_fid g f e, refl)
carried_alone g f zero (suc n) bytes value e = absurd cc
carried_alone g f (suc m) zero bytes value e = absurd cc
carried_alone g f (suc m) (suc n) bytes value e = let r = both_test g f m n e in (sym r.0, ap suc (sym r.1))

-- a free sector carries none
none_free : (g : Fid) (m : ℕ) → carries_page g m free ≡ false
none_free g zero = refl
none_free g (suc m) = refl

-- it isn't available where that page is in use
page_taken : (shape : Shape) (ss : List Sight) (at : ℕ) (f : Fid) (n bytes : ℕ) (value : List ℕ) → (counts shape ss f n && is_place at (place ss f n)) ≡ true → is_available shape ss (at, page_sight f n bytes value) ≡ false
page_taken shape ss at f zero bytes value e = ap not e
page_taken shape ss at f (suc n) bytes value e = ap not e

-- ---- the claim
module _ (shape : Shape) (ss : List Sight) (at : ℕ) (f : Fid) (n bytes : ℕ) (value : List ℕ) (within : at < length ss) (is : get_or ss at hidden ≡ free) (none : place ss f n ≡ None) where
  -- what the sector shows then
  abbrev s : Sight
  s = page_sight f n bytes value

  -- and all
  abbrev tt : List Sight
  tt = set ss at s

  -- it is the page's place
  here : place tt f n ≡ Some at
  here = place_from tt f n at (record {
    within = subst (λ k. at < k) (sym (length-set ss at s)) within;
    carries = λ d. ap (carries_page f n) (get_or-set_same ss at s d within) ∙ page_carried f n bytes value;
    lowest = λ j d low. ap (carries_page f n) (get_or-set_other ss at j s d (omega arith)) ∙ place_none ss f n j d none (omega arith);
  })

  -- another sector's page has its place as before
  other_place : (j : ℕ) (g : Fid) (m : ℕ) → j < length ss → carries_page g m (get_or ss j hidden) ≡ true → place tt g m ≡ place ss g m
  other_place j g m low has = by (carries_page g m s) refl
    where
      by : (b : Bool) → carries_page g m s ≡ b → place tt g m ≡ place ss g m
      by false e = place_same ss at s g m within (e ∙ sym (ap (carries_page g m) is ∙ none_free g m))
      by true e =
          let r = carried_alone g f m n bytes value e in
          absurd (let clash : true ≡ false = sym has ∙ place_none ss g m j hidden ((λ i. place ss (r.0 i) (r.1 i)) ∙ none) low in cc)

  -- so each other sector is available as before
  other_sector : ((g : Fid) (m : ℕ) → counts shape tt g m ≡ counts shape ss g m) → (j : ℕ) → is_available shape ss (j, get_or ss j hidden) ≡ is_available shape tt (j, get_or ss j hidden)
  other_sector same j = elim (cases_lt j (length ss)) [
    | inl low ↦ shown low (get_or ss j hidden) refl
    | inr past ↦ ap (λ x. is_available shape ss (j, x)) (get_or_past ss j hidden past) ∙ sym (ap (λ x. is_available shape tt (j, x)) (get_or_past ss j hidden past))
  ]
    where
      used : j < length ss → (g : Fid) (m : ℕ) → carries_page g m (get_or ss j hidden) ≡ true → not (counts shape ss g m && is_place j (place ss g m)) ≡ not (counts shape tt g m && is_place j (place tt g m))
      used low g m has = λ i. not (sym (same g m) i && is_place j (sym (other_place j g m low has) i))

      shown : j < length ss → (x : Sight) → get_or ss j hidden ≡ x → is_available shape ss (j, x) ≡ is_available shape tt (j, x)
      shown low hidden e = refl
      shown low free e = refl
      shown low stray e = refl
      shown low (leads g r l) e = used low g 0 (ap (carries_page g 0) e ∙ is_fid-itself g)
      shown low (holds g k b) e = used low g (suc k) (ap (carries_page g (suc k)) e ∙ ap (λ b. b && k == k) (is_fid-itself g) ∙ eq-eqb k k refl)

  -- and one fewer is
  one_taken : ((g : Fid) (m : ℕ) → counts shape tt g m ≡ counts shape ss g m) → counts shape ss f n ≡ true → available shape ss ≡ available shape tt + 1
  unfolding available
  one_taken same inside =
      let z : 0 + at ≡ at = omega arith in
      one_fewer (is_available shape ss) (is_available shape tt) 0 ss at s within
      (ap (λ x. is_available shape ss (0 + at, x)) is)
      (ap (λ k. is_available shape tt (k, s)) z ∙ page_taken shape tt at f n bytes value (ap (λ b. b && is_place at (place tt f n)) (same f n ∙ inside) ∙ ap (is_place at) here ∙ eq-eqb at at refl))
      (λ j apart. let y : 0 + j ≡ j = omega arith in ap (λ k. is_available shape ss (k, get_or ss j hidden)) y ∙ other_sector same j ∙ ap (λ k. is_available shape tt (k, get_or ss j hidden)) (sym y))

-- on a pack where the files stay
claim_lessens : (p : Pack) (at : ℕ) (x : Page) (label : List ℕ) → is_free_at p at ≡ true → page_of label ≡ Some x → place (sights p) x.fid x.number ≡ None → counts p.shape (sights p) x.fid x.number ≡ true → FilesStay p (with_label p at label) → Lessens p (with_label p at label)
unfolding mended
claim_lessens p at x label is names none inside stays =
    let q : Pack = with_label p at label in
    let shown = label_sights p at x label (free_parts p at is).0 names in
    let same : (g : Fid) (m : ℕ) → counts p.shape (set (sights p) at (page_sight x.fid x.number (tag label).bytes (sector_at p at).value)) g m ≡ counts p.shape (sights p) g m = λ g m. ap (λ us. counts p.shape us g m) (sym shown) ∙ within_stays p q stays g m in
    let taken : available p.shape (sights p) ≡ available p.shape (sights q) + 1 =
    one_taken p.shape (sights p) at x.fid x.number (tag label).bytes (sector_at p at).value (free_within p at is) (free_sight p at is) none same inside ∙ ap (λ us. available p.shape us + 1) (sym shown) in
    let a = counting_theorem p in
    let b = counting_theorem q in
    let was = a.needed_is in
    let now = b.needed_is in
    let used_was = a.in_use in
    let used_now = b.in_use in
    let good_was = a.available_is in
    let good_now = b.available_is in
    let good = stays.good in
    let need = needs_files (mended p.shape (sights q)) (mended p.shape (sights p)) (mended_stays p q stays).files in
    record { in_use = omega arith; available_is = taken; needed_is = omega arith }

-- the law
pub claim_takes_an_available_sector : ClaimTakesAnAvailableSector
claim_takes_an_available_sector p at x label is names none inside (ends empty number) = claim_lessens p at x label is names none inside (last_claim p at x label is names empty number none).files
claim_takes_an_available_sector p at x label is names none inside (describes n own) =
    let usable = (free_parts p at is).0 in
    let now : carried (with_label p at label) at ≡ Some (record { fid = disk_descriptor; number = suc n }) =
    ap (λ s. cond (is_usable p.shape at s) (page_of s.label) None) (here_written p at 1 label (usable_within p at usable)) ∙ ap (λ b. cond b (page_of label) None) usable ∙ names ∙ ap Some own in
    claim_lessens p at x label is names none inside (descriptor_stays p at 1 label (unclaimed is) (claimed n now))
