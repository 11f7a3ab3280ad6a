-- The first words of DiskDescriptor's first data page.
use Rattle.std.proofs.Common.{◌≡◌, ◌≢◌, ℕ, zero, suc, ◌+◌, ◌<◌, ◌≤◌, List, [], ◌∷◌, ◌++◌, drop, length, set, take, Option, Some, None, refl, sym, ap, subst, ◌∙◌, arith}
use Rattle.std.specs.Option.{option_map_or}
use Rattle.alto_words.specs.Fid.{disk_descriptor}
use Rattle.disk_records.specs.Commands.{value_writes}
use Rattle.disk_records.specs.Events.{IsFirstOf}
use Rattle.disk_records.specs.declared.records.Event.{Event}
use Rattle.disk_records.specs.Packs.{Pack, carried, sector_at}
use Rattle.pack_model.specs.reading.Bytes.{put_at}
use Rattle.pack_model.specs.reading.Files.{place}
use Rattle.pack_model.specs.reading.Sights.{sights}
use Rattle.scav_names.specs.laws_record.proofs.Copying.{place_carried}
use Rattle.scav_pages.proofs.Describing.{placed_first}
use Rattle.pack_model.specs.sessions.Descriptor.{opened_value}
use Rattle.scavenger.specs.Descriptors.{mark_sector}
use Rattle.scavenger.specs.Runs.{OpensMark, mark_writes}

-- the sector of the mark is that of the page, if a sector carries it
pub no_mark_sector : (p : Pack) (at : ℕ) → mark_sector p ≡ 0 → place (sights p) disk_descriptor 1 ≡ Some at → ⊥
no_mark_sector p at none is =
    let low : 1 ≤ at = placed_first p disk_descriptor 1 at is in
    let here : at ≡ 0 = sym (ap (λ o. option_map_or (λ i. i) o 0) is) ∙ none in
    omega (arith, low, here)

pub mark_place : (p : Pack) (at : ℕ) → at ≡ mark_sector p → at ≢ 0 → place (sights p) disk_descriptor 1 ≡ Some at
mark_place p at is some = by (place (sights p) disk_descriptor 1) refl
  where
    by : (o : Option ℕ) → place (sights p) disk_descriptor 1 ≡ o → o ≡ Some at
    by None e = absurd (some (is ∙ ap (λ o. option_map_or (λ i. i) o 0) e))
    by (Some i) e = ap Some (sym (is ∙ ap (λ o. option_map_or (λ i. i) o 0) e))

pub mark_carried : (p : Pack) (at : ℕ) → at ≡ mark_sector p → at ≢ 0 → carried p at ≡ Some (record { fid = disk_descriptor; number = 1 })
mark_carried p at is some = place_carried p (record { fid = disk_descriptor; number = 1 }) at (mark_place p at is some)

-- it is the sector that was given
pub mark_only : (p : Pack) (at i : ℕ) → at ≡ mark_sector p → place (sights p) disk_descriptor 1 ≡ Some i → at ≡ i
mark_only p at i is here = is ∙ ap (λ o. option_map_or (λ i. i) o 0) here

-- ---- the record write that opens it
pub mark_writes_at : (p : Pack) (at : ℕ) → place (sights p) disk_descriptor 1 ≡ Some at → mark_writes p ≡ value_writes at (opened_value (sector_at p at).value)
mark_writes_at p at is = ap (λ o. option_map_or (λ i. value_writes i (opened_value (sector_at p i).value)) o []) is

pub no_mark_writes : (p : Pack) → mark_sector p ≡ 0 → mark_writes p ≡ []
no_mark_writes p none = by (place (sights p) disk_descriptor 1) refl
  where
    by : (o : Option ℕ) → place (sights p) disk_descriptor 1 ≡ o → mark_writes p ≡ []
    by None e = ap (λ o. option_map_or (λ i. value_writes i (opened_value (sector_at p i).value)) o []) e
    by (Some i) e = absurd (no_mark_sector p i none e)

-- it comes first, whatever comes after it
pub opens_some : (p : Pack) (events : List Event) → IsFirstOf (mark_writes p) events → OpensMark p events
opens_some p [] first = tt
opens_some p (e ∷ events) first = λ at is. (subst (λ l. IsFirstOf l (e ∷ events)) (mark_writes_at p at is) first).0

pub opens_then : (p : Pack) (xs events : List Event) → xs ≡ mark_writes p → OpensMark p (xs ++ events)
opens_then p [] [] all = tt
opens_then p [] (e ∷ events) all = λ at is. absurd (let none : [] ≡ value_writes at (opened_value (sector_at p at).value) = all ∙ mark_writes_at p at is in cc)
opens_then p (x ∷ xs) events all = λ at is. head_is (all ∙ mark_writes_at p at is)
  where
    head_is : {a b : Event} {xs ys : List Event} → a ∷ xs ≡ b ∷ ys → a ≡ b
    head_is e = cc

-- one word of a value
pub word_put : (i w : ℕ) (words : List ℕ) → i < length words → set words i w ≡ put_at i (w ∷ []) words
word_put i w [] low = absurd (omega (arith, low))
word_put zero w (x ∷ words) low = refl
word_put (suc i) w (x ∷ words) low =
    let next : suc (i + 1) ≡ suc i + 1 = omega arith in
    ap (λ l. x ∷ l) (word_put i w words (omega (arith, low))) ∙ ap (λ n. (take (suc i) (x ∷ words) ++ w ∷ []) ++ drop n (x ∷ words)) next
