-- DiskDescriptor's pages that no sector carries, counted.
use Rattle.std.proofs.Common.{◌≡◌, ◌≢◌, ◌==◌, ℕ, suc, ◌+◌, ◌-◌, ◌<◌, ◌≤◌, Bool, true, false, not, List, get_or, Option, Some, None, refl, sym, ap, ◌∙◌, eqb-true, arith}
use Rattle.std.specs.Option.{is_some, option_map_or}
use Rattle.alto_words.specs.Fid.{disk_descriptor}
use Rattle.disk_records.specs.Packs.{Pack}
use Rattle.scav_names.specs.pack_laws.proofs.Placing.{no_page, page_of_place}
use Rattle.pack_model.specs.reading.Files.{place}
use Rattle.pack_model.specs.reading.Sights.{sights}
use Rattle.pack_model.specs.scavenger.Needed.{missing, page_lacks}
use Rattle.pack_model.specs.states.InUse.{one_if}
use Rattle.scav_pages.specs.Ends.{ArePlaces}
use Rattle.scav_pages.proofs.Describing.{placed_first}

-- a data page is missing if it has no place
pub lacks_here : (p : Pack) (places : List ℕ) (n : ℕ) → ArePlaces p places → suc n < 6 → page_lacks (sights p) disk_descriptor n ≡ one_if (get_or places (suc n) 0 == 0)
lacks_here p places n are few = by (place (sights p) disk_descriptor (suc n)) refl
  where
    by : (o : Option ℕ) → place (sights p) disk_descriptor (suc n) ≡ o → page_lacks (sights p) disk_descriptor n ≡ one_if (get_or places (suc n) 0 == 0)
    by None e =
        let here : get_or places (suc n) 0 ≡ 0 = are (suc n) few ∙ ap (λ o. option_map_or (λ at. at) o 0) e in
        ap (λ o. one_if (not (is_some o))) (no_page (sights p) disk_descriptor n e) ∙ sym (ap (λ k. one_if (k == 0)) here)
    by (Some at) e =
        let here : get_or places (suc n) 0 ≡ at = are (suc n) few ∙ ap (λ o. option_map_or (λ at. at) o 0) e in
        let low : 1 ≤ at = placed_first p disk_descriptor (suc n) at e in
        ap (λ o. one_if (not (is_some o))) (page_of_place (sights p) disk_descriptor n at e).page_is ∙ sym (ap one_if (some (get_or places (suc n) 0 == 0) refl here low))
      where
        some : (t : Bool) → (get_or places (suc n) 0 == 0) ≡ t → get_or places (suc n) 0 ≡ at → 1 ≤ at → (get_or places (suc n) 0 == 0) ≡ false
        some true q here low = absurd (let zero = eqb-true (get_or places (suc n) 0) 0 q in omega (arith, zero, here, low))
        some false q here low = q

-- one page more
pub lacks_more : (p : Pack) (places : List ℕ) (number lacks : ℕ) → ArePlaces p places → 1 ≤ number → number < 6 → lacks ≡ missing (sights p) disk_descriptor (number - 1) → one_if (get_or places number 0 == 0) + lacks ≡ missing (sights p) disk_descriptor (number + 1 - 1)
lacks_more p places number lacks are some few so_far = by (number - 1) (omega (arith, some)) so_far
  where
    by : (n : ℕ) → number ≡ suc n → lacks ≡ missing (sights p) disk_descriptor n → one_if (get_or places number 0 == 0) + lacks ≡ missing (sights p) disk_descriptor (number + 1 - 1)
    by n is so =
        let next : number + 1 - 1 ≡ suc n = omega (arith, is) in
        let low : suc n < 6 = omega (arith, is, few) in
        let here = lacks_here p places n are low in
        let same = ap (λ k. one_if (get_or places k 0 == 0)) is in
        let all : one_if (get_or places number 0 == 0) + lacks ≡ missing (sights p) disk_descriptor (suc n) = omega (arith, here, same, so) in
        all ∙ sym (ap (missing (sights p) disk_descriptor) next)

-- a page that is noted, and one that isn't
pub none_noted : (places : List ℕ) (number k : ℕ) → k ≡ number → get_or places k 0 ≡ 0 → one_if (get_or places number 0 == 0) ≡ 1
none_noted places number k same none = ap (λ i. one_if (i == 0)) (ap (λ i. get_or places i 0) (sym same) ∙ none)

pub one_noted : (places : List ℕ) (number k : ℕ) → k ≡ number → get_or places k 0 ≢ 0 → one_if (get_or places number 0 == 0) ≡ 0
one_noted places number k same some = by (get_or places number 0 == 0) refl
  where
    by : (t : Bool) → (get_or places number 0 == 0) ≡ t → one_if (get_or places number 0 == 0) ≡ 0
    by false e = ap one_if e
    by true e = absurd (some (ap (λ i. get_or places i 0) same ∙ eqb-true (get_or places number 0) 0 e))
